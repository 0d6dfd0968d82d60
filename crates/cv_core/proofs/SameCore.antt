-- A core with more room.
use Rattle.std.proofs.Common.{◌≡◌, ℕ, ◌+◌, length, sym, ap, ◌∙◌, subst}
use Rattle.cv_docs.specs.Entries.{IsInOrder, AllBefore, AreKnown}
use Rattle.cv_docs.specs.History.{current}
use Rattle.cv_keys.specs.declared.schema.Schema.{Schema}
use Rattle.fn_tree.specs.History.{History, IsLegal}
use Rattle.fn_tree.specs.Schemas.{schema_of}
use Rattle.fn_tree.specs.SyntaxTree.{ModuleTree}
use Rattle.cv_store.specs.Marks.{marks_by_entry}
use Rattle.cv_log.specs.Records.{Log}
use Rattle.std.specs.List.{AllByRecursion}
use Rattle.cv_core.specs.Cores.{IsCore}
use Rattle.cv_core.specs.Kept.{EntryFits, HoldsRows, shown}
use Rattle.cv_core.specs.Versioned.{Versioned, entries_at, shape}

-- the same documents and entries
pub record IsSame (v w : Versioned) : Type 0 where
  pub docs : w.docs ≡ v.docs
  pub shapes : shape w.tables ≡ shape v.tables
  pub entries : (table index : ℕ) → entries_at table index w.tables ≡ entries_at table index v.tables

pub same_rows : (schema : Schema) (h : History) (v w : Versioned) → IsSame v w → HoldsRows schema h v → HoldsRows schema h w
same_rows schema h v w s r = record {
  shape = s.shapes ∙ r.shape;
  order = λ t i. subst IsInOrder (sym (s.entries t i)) (r.order t i);
  before = λ t i. subst (AllBefore (length h + 1)) (sym (s.entries t i)) (r.before t i);
  known = λ t i. subst (λ ds. AreKnown (length ds) (entries_at t i w.tables)) (sym s.docs) (subst (AreKnown (length v.docs)) (sym (s.entries t i)) (r.known t i));
  rows = λ t i x at ts l.
      ap (λ ds. shown ds (current ts (entries_at t i w.tables))) s.docs ∙ ap (λ es. shown v.docs (current ts es)) (s.entries t i) ∙ r.rows t i x at ts l;
}

pub same_core : (m : ModuleTree) (log after : Log) (v w : Versioned) → after.entries ≡ log.entries → after.marks ≡ log.marks → IsSame v w → IsCore m log v → IsCore m after w
same_core m log after v w e k s is = record {
  legal = subst (IsLegal m) (sym e) is.legal;
  marks = k ∙ is.marks ∙ ap (marks_by_entry (schema_of m.tables) 0) (sym e);
  fits = subst (AllByRecursion (EntryFits (schema_of m.tables))) (sym e) is.fits;
  rows = subst (λ (h : History). HoldsRows (schema_of m.tables) h w) (sym e) (same_rows (schema_of m.tables) log.entries v w s is.rows);
}
