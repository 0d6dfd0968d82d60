use Rattle.std.proofs.Common.{sym, ap, ◌∙◌}
use Rattle.fn_tree.specs.Documents.{doc_of}
use Rattle.fn_tree.specs.Scan.{id_interval, found}
use Rattle.fn_plain.proofs.answer.answer_get.Goals as goal

pub returns : goal.returns
returns c left =
    let id = c.args.id.now in
    record {
      docs = c.in_ok-docs.ensures ∙ ap (λ rs. found (doc_of id rs)) (c.as_slice.ensures.value ∙ c.in_ok-rows.ensures (id_interval id) c.in_ok-consumed.ensures);
      consumed = sym c.in_ok-consumed.ensures.bytes;
    }
