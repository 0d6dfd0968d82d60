-- A write laid over rows, by the table of the interval.
use Rattle.std.proofs.Common.{◌≡◌, Bool, true, false, List, refl, sym, ap, ◌∙◌}
use Rattle.std.specs.Prelude.{◌==◌}
use Rattle.std.proofs.lemmas.Bool.{cond-true, cond-false, eq-eqb, eqb-true}
use Rattle.cv_values.specs.declared.doc.Doc.{Doc}
use Rattle.cv_keys.specs.Places.{PlaceInterval}
use Rattle.cv_keys.specs.declared.schema.Index.{Index}
use Rattle.cv_keys.specs.declared.interval.Interval.{Interval}
use Rattle.cv_keys.specs.declared.write.Write.{Write}
use Rattle.fn_tree.specs.Documents.{without_id}
use Rattle.cv_tx.specs.Asks.{IsBytesOf}
use Rattle.cv_tx.specs.Merged.{with_row, with_write}

pub laid : (index : Index) (p : PlaceInterval) (desc : Bool) (w : Write) (rows got : List Doc) (i : Interval) → IsBytesOf p i → w.id.table ≡ i.table
    → got ≡ with_row index p desc w.new (without_id w.id rows) → got ≡ with_write index p desc w rows
laid index p desc w rows got i stands e h =
    h ∙ sym (cond-true (w.id.table == p.table) _ _ (eq-eqb w.id.table p.table (e ∙ sym (ap (λ (x : Interval). x.table) stands.bytes_are))))

not_true : (b : Bool) → (b ≡ true → ⊥) → b ≡ false
not_true true f = absurd (f refl)
not_true false f = refl

pub laid_elsewhere : (index : Index) (p : PlaceInterval) (desc : Bool) (w : Write) (rows : List Doc) (i : Interval) → IsBytesOf p i → (w.id.table ≡ i.table → ⊥)
    → rows ≡ with_write index p desc w rows
laid_elsewhere index p desc w rows i stands f =
    sym (cond-false (w.id.table == p.table) _ _
    (not_true (w.id.table == p.table) (λ t. f (eqb-true w.id.table p.table t ∙ ap (λ (x : Interval). x.table) stands.bytes_are))))
