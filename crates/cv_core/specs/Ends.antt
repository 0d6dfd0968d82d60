-- How a commit ends.
use Rattle.std.specs.Prelude.{◌≡◌, ◌+◌, [], ◌∷◌, ◌++◌, length, Some, None, option_map}
use Rattle.fn_tree.specs.EntryViews.{reply_view}
use Rattle.cv_store.specs.Cache.{untouched_by}
use Rattle.cv_store.specs.FirstTouch.{first_touch}
use Rattle.cv_store.specs.Kept.{kept}
use Rattle.cv_store.specs.Marks.{entry_marks}
use Rattle.cv_store.specs.Stores.{entry_of}
use Rattle.cv_store.specs.declared.proposal.Ended.{Ended}
use Rattle.cv_store.specs.declared.proposal.Ended.TheVariants.{Committed, Known, SentBack}
use Rattle.cv_store.specs.declared.proposal.Proposal.{Proposal}
use Rattle.cv_core.specs.Cores.{State, schema_in}

-- the session's request has an entry: its reply; else a later entry touches what was read: the first touch; else the entry is appended, and the answers that it touches are kept no more
abbrev pub Ends : (c d : State) → Proposal → Ended → Type 0
Ends c d p (Known ts reply) = (d ≡ c) × (kept p.call.session p.call.request c.log ≡ Some (ts, reply_view reply))
Ends c d p (SentBack touch) = (d ≡ c) × (kept p.call.session p.call.request c.log ≡ None) × (first_touch (schema_in c) p.reads c.log p.snapshot ≡ Some touch)
Ends c d p (Committed ts) = (d.log ≡ c.log ++ entry_of p ∷ []) × (kept p.call.session p.call.request c.log ≡ None) × (first_touch (schema_in c) p.reads c.log p.snapshot ≡ None)
    × (ts ≡ length c.log + 1) × (d.cache ≡ option_map (untouched_by (entry_marks (schema_in c) ts (entry_of p))) c.cache)
