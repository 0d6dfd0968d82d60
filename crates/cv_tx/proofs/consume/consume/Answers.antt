use Rattle.std.proofs.Common.{◌≡◌, Bool, List, Some, length, take, sym, ap, ◌∙◌, subst}
use Rattle.cv_values.specs.declared.doc.Doc.{Doc}
use Rattle.fn_tree.specs.Scan.{rows_size, is_cut, consumed_after}
use Rattle.cv_tx.specs.Asks.{IsBytesOf, part_of}
use Rattle.cv_tx.proofs.consume.consume.Goals as goal

pub returns : goal.returns
returns c p stands =
    let index = c.args.index.now in
    let limit = c.args.limit in
    let left = c.args.left.now in
    let ds = consumed_after limit left 0 0 c.args.rows.items in
    let same : consumed_after limit left 0 0 c.as_slice.result.now ≡ ds = ap (consumed_after limit left 0 0) c.as_slice.ensures.value in
    let docs : c.truncate.new.self.items ≡ ds =
    c.truncate.ensures.items ∙ ap (take c.in_ok-taken.taken.rows) (sym c.as_slice.ensures.value) ∙ c.in_ok-taken.ensures.front ∙ same in
    let cut : c.is_cut-cut.result ≡ is_cut limit left (length ds) (rows_size ds) =
    c.is_cut-cut.ensures
    ∙ ap (λ n. is_cut limit left n c.in_ok-taken.taken.size) (c.in_ok-taken.ensures.rows ∙ ap length same)
    ∙ ap (is_cut limit left (length ds)) (c.in_ok-taken.ensures.size ∙ ap rows_size same) in
    record {
      docs = docs;
      consumed = subst (λ (b : Bool). IsBytesOf (part_of (Some index) p c.args.desc b ds) c.in_ok-consumed.consumed) cut
          (subst (λ (l : List Doc). IsBytesOf (part_of (Some index) p c.args.desc c.is_cut-cut.result l) c.in_ok-consumed.consumed) (c.as_slice-2.ensures.value ∙ docs)
          (c.in_ok-consumed.ensures p stands));
    }
