-- The cache that entries stand for.
use Rattle.std.specs.Prelude.{List, map}
use Rattle.cv_store.specs.Cache.{Cached, Cache}
use Rattle.cv_cache.specs.Recent.{Held}
use Rattle.fn_tree.specs.EntryViews.{reply_view}

abbrev pub cached_of : Held → Cached
cached_of e = record { query = e.0; ts = e.1.ts; reply = reply_view e.1.reply; reads = e.1.reads }

abbrev pub cache_of : List Held → Cache
cache_of es = map cached_of es
