-- What holds of a core after a commit.
use Rattle.std.proofs.Common.{◌≡◌, ℕ, ◌+◌, List, [], ◌∷◌, ◌++◌, length, Some, None, refl, sym, ap, ◌∙◌, subst, arith}
use Rattle.std.specs.List.{AllByRecursion}
use Rattle.cv_keys.specs.Documents.{indexes_of}
use Rattle.cv_keys.specs.declared.schema.Schema.{Schema}
use Rattle.cv_keys.specs.declared.write.Write.{Write}
use Rattle.cv_docs.specs.History.{with_all, AreAllowed}
use Rattle.fn_tree.specs.History.{Entry, History, IsLegal, start_of, docs_at}
use Rattle.fn_tree.specs.Run.{run}
use Rattle.fn_tree.specs.Schemas.{schema_of}
use Rattle.fn_tree.specs.SyntaxTree.{ModuleTree}
use Rattle.fn_tree.proofs.CommitsAreLegal.{commits_are_legal}
use Rattle.cv_store.specs.FirstTouch.{first_touch, first_touch_places}
use Rattle.cv_store.specs.Kept.{kept}
use Rattle.cv_store.specs.Marks.{entry_marks, marks_by_entry}
use Rattle.cv_store.specs.Ranges.{DocsInRange, AreInRange}
use Rattle.cv_store.specs.Stores.{IsAnswer, entry_of}
use Rattle.cv_store.specs.declared.proposal.Proposal.{Proposal}
use Rattle.cv_store.proofs.KeptLaws.{not_kept_is_new}
use Rattle.cv_store.proofs.TouchedPlaces.{touches_go_by_places, none_is_untouched}
use Rattle.cv_log.specs.Records.{Log}
use Rattle.cv_core.specs.Changes.{WriteFits, changes_of, new_docs, changes_at, entries_of}
use Rattle.cv_core.specs.Cores.{IsCore}
use Rattle.cv_core.specs.Kept.{EntryFits, HoldsRows}
use Rattle.cv_core.specs.Versioned.{Versioned, entries_at, shape}
use Rattle.cv_core.proofs.CommitRows.{commit_allowed, commit_holds}
use Rattle.cv_core.proofs.Drops.{all_append}

writes_range : (schema : Schema) (ws : List Write) → AllByRecursion (WriteFits schema) ws → AllByRecursion (λ w. DocsInRange w.old w.new (indexes_of schema w.id.table)) ws
writes_range schema [] h = tt
writes_range schema (w ∷ ws) h = (h.0.docs, writes_range schema ws h.1)

pub are_in_range : (schema : Schema) (h : History) → AllByRecursion (EntryFits schema) h → AreInRange schema h
are_in_range schema [] f = tt
are_in_range schema (e ∷ h) f = (writes_range schema e.writes f.0, are_in_range schema h f.1)

marks_end : (schema : Schema) (n k : ℕ) (h : History) (e : Entry) → k ≡ n + length h + 1 → marks_by_entry schema n (h ++ e ∷ []) ≡ marks_by_entry schema n h ++ entry_marks schema k e ∷ []
marks_end schema n k [] e p = let same : n + 1 ≡ k = omega (arith, p) in ap (λ (i : ℕ). entry_marks schema i e ∷ []) same
marks_end schema n k (f ∷ h) e p = ap (λ l. entry_marks schema (n + 1) f ∷ l) (marks_end schema (n + 1) k h e (omega (arith, p)))

-- a proposal that may be appended
pub record May (m : ModuleTree) (h : History) (p : Proposal) : Type 0 where
  pub answer : IsAnswer (run m (start_of p.call) (docs_at h p.snapshot)) p.reply p.reads
  pub writes : p.writes ≡ (run m (start_of p.call) (docs_at h p.snapshot)).writes
  pub new : kept p.call.session p.call.request h ≡ None
  pub untouched : first_touch (schema_of m.tables) p.reads h p.snapshot ≡ None
  pub fits : AllByRecursion (WriteFits (schema_of m.tables)) p.writes

module _ (m : ModuleTree) (log : Log) (v : Versioned) (p : Proposal) (is : IsCore m log v) (may : May m log.entries p) where
  pub next_legal : IsLegal m (log.entries ++ entry_of p ∷ [])
  next_legal =
      let h = log.entries in
      let r = run m (start_of p.call) (docs_at h p.snapshot) in
      let none : first_touch_places (schema_of m.tables) r.reads h p.snapshot ≡ None =
      sym (touches_go_by_places (schema_of m.tables) r.reads h p.snapshot may.answer.ends (are_in_range (schema_of m.tables) h is.fits))
      ∙ ap (λ reads. first_touch (schema_of m.tables) reads h p.snapshot) (sym may.answer.same_reads) ∙ may.untouched in
      commits_are_legal m h p.snapshot (entry_of p) is.legal (not_kept_is_new p.call.session p.call.request h may.new)
      (record { reply = may.answer.same_reply; writes = may.writes })
      (none_is_untouched (schema_of m.tables) r.reads h p.snapshot none)

  pub next_allowed : (table index : ℕ) → AreAllowed (entries_of (length log.entries + 1) (changes_at table index (changes_of (schema_of m.tables) (length v.docs) p.writes))) (entries_at table index v.tables)
  next_allowed table index = commit_allowed m log.entries (entry_of p) v next_legal is.fits may.fits is.rows table index

  pub next_core : (after : Log) (w : Versioned) → after.entries ≡ log.entries ++ entry_of p ∷ []
      → after.marks ≡ log.marks ++ entry_marks (schema_of m.tables) (length log.entries + 1) (entry_of p) ∷ []
      → w.docs ≡ v.docs ++ new_docs p.writes → shape w.tables ≡ shape v.tables
      → ((table index : ℕ) → entries_at table index w.tables
      ≡ with_all (entries_of (length log.entries + 1) (changes_at table index (changes_of (schema_of m.tables) (length v.docs) p.writes))) (entries_at table index v.tables))
      → IsCore m after w
  next_core after w entries marks docs shapes rows = record {
    legal = subst (IsLegal m) (sym entries) next_legal;
    marks =
        marks ∙ ap (λ l. l ++ entry_marks (schema_of m.tables) (length log.entries + 1) (entry_of p) ∷ []) is.marks
        ∙ sym (marks_end (schema_of m.tables) 0 (length log.entries + 1) log.entries (entry_of p) (omega arith))
        ∙ ap (marks_by_entry (schema_of m.tables) 0) (sym entries);
    fits = subst (AllByRecursion (EntryFits (schema_of m.tables))) (sym entries) (all_append (EntryFits (schema_of m.tables)) log.entries (entry_of p ∷ []) is.fits (may.fits, tt));
    rows = subst (λ (k : History). HoldsRows (schema_of m.tables) k w) (sym entries)
        (commit_holds m log.entries (entry_of p) v next_legal is.fits may.fits is.rows w docs shapes rows);
  }
