-- The plain replies and entries that the Rust ones stand for.
use Rattle.cv_values.specs.Trees.{tree}
use Rattle.fn_tree.specs.Course.{Reply, gives, failed}
use Rattle.fn_tree.specs.History.{Entry}
use Rattle.fn_tree.specs.declared.entry.Entry.{Entry as Held}
use Rattle.fn_tree.specs.declared.entry.Reply.{Reply as HeldReply}
use Rattle.fn_tree.specs.declared.entry.Reply.TheVariants.{Value, Failed}

abbrev pub reply_view : HeldReply → Reply
reply_view (Value v) = gives (tree v)
reply_view (Failed why) = failed why

abbrev pub entry_view : Held → Entry
entry_view e = record { call = e.call; reply = reply_view e.reply; writes = e.writes }
