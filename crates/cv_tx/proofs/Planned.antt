-- One bounded read with the writes laid over it gives what the scan consumes of the documents with the writes.
use Rattle.std.proofs.Common.{◌≡◌, ℕ, ◌+◌, Bool, true, List, [], ◌++◌, length, Option, sym, ap, ◌∙◌, append-nil, inl, inr, arith}
use Rattle.cv_values.specs.declared.doc.Doc.{Doc}
use Rattle.cv_keys.specs.Places.{PlaceInterval}
use Rattle.cv_keys.specs.declared.schema.Index.{Index}
use Rattle.cv_keys.specs.declared.write.Write.{Write}
use Rattle.fn_tree.specs.Documents.{Docs, applied}
use Rattle.fn_tree.specs.Scan.{rows_size, is_cut, consumed_after}
use Rattle.fn_tree.specs.declared.stop.Left.{Left}
use Rattle.cv_store.specs.Reads.{cut}
use Rattle.cv_tx.specs.Merged.{with_writes}
use Rattle.cv_tx.specs.Pending.{HasDistinctIds, AreTrue}
use Rattle.cv_tx.specs.Plans.{most_rows, removed_rows, removed_size}
use Rattle.cv_tx.proofs.Cuts.{IsCutAt, is_cut_at, rows_cut, size_cuts, front_consumed}
use Rattle.cv_tx.proofs.Fronts.{front_writes, writes_front, Loses, writes_lose}
use Rattle.cv_tx.proofs.Turned.{turned_rows, turned-writes}

module _ (index : Index) (i : PlaceInterval) (desc : Bool) (limit : Option ℕ) (left : Left) where
  -- what is consumed of all rows is known from those that were read
  same_consumed : (ws : List Write) (ds : Docs) (got : List Doc) → HasDistinctIds ds → AreTrue ds ws
      → IsCutAt (most_rows limit left + removed_rows i.table ws) (left.size + removed_size i.table ws) (turned_rows index i desc ds) got
      → consumed_after limit left 0 0 (with_writes index i desc ws got) ≡ consumed_after limit left 0 0 (with_writes index i desc ws (turned_rows index i desc ds))
  same_consumed ws ds got h k c = elim c.ends [
    | inl none ↦ ap (λ l. consumed_after limit left 0 0 (with_writes index i desc ws l)) (sym (append-nil got) ∙ ap (λ l. got ++ l) (sym none) ∙ sym c.all)
    | inr more ↦ both (elim more [
      | inl rows ↦ rows_cut limit left (length front) (rows_size front) (omega (arith, rows, lost.in_rows))
      | inr size ↦ size_cuts limit left (length front) (rows_size front) (omega (arith, size, lost.in_size))
    ])
  ]
    where
      front : List Doc
      front = front_writes index i desc ws got

      lost : Loses got front (removed_rows i.table ws) (removed_size i.table ws)
      lost = writes_lose index i desc ws ds got c.rest h k c.all

      of_front : (T : List Doc) → is_cut limit left (length front) (rows_size front) ≡ true
          → consumed_after limit left 0 0 (with_writes index i desc ws (got ++ T)) ≡ consumed_after limit left 0 0 front
      of_front T e =
          let r = writes_front index i desc ws got T in
          let n0 : 0 + length front ≡ length front = omega arith in
          let s0 : 0 + rows_size front ≡ rows_size front = omega arith in
          ap (consumed_after limit left 0 0) r.1
          ∙ front_consumed limit left 0 0 front r.0 (ap (λ n. is_cut limit left n (0 + rows_size front)) n0 ∙ ap (is_cut limit left (length front)) s0 ∙ e)

      both : is_cut limit left (length front) (rows_size front) ≡ true
          → consumed_after limit left 0 0 (with_writes index i desc ws got) ≡ consumed_after limit left 0 0 (with_writes index i desc ws (turned_rows index i desc ds))
      both e =
          ap (λ l. consumed_after limit left 0 0 (with_writes index i desc ws l)) (sym (append-nil got)) ∙ of_front [] e
          ∙ sym (ap (λ l. consumed_after limit left 0 0 (with_writes index i desc ws l)) c.all ∙ of_front c.rest e)

  pub planned_consumed : (ws : List Write) (ds : Docs) → HasDistinctIds ds → AreTrue ds ws
      → consumed_after limit left 0 0 (with_writes index i desc ws (cut (most_rows limit left + removed_rows i.table ws) (left.size + removed_size i.table ws) (turned_rows index i desc ds)))
      ≡ consumed_after limit left 0 0 (turned_rows index i desc (applied ws ds))
  planned_consumed ws ds h k =
      same_consumed ws ds _ h k (is_cut_at (most_rows limit left + removed_rows i.table ws) (left.size + removed_size i.table ws) (turned_rows index i desc ds))
      ∙ ap (consumed_after limit left 0 0) (sym (turned-writes index i desc ws ds k))
