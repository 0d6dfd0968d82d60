use Rattle.std.proofs.Common.{ap}
use Rattle.std.proofs.lemmas.Bool.{and_parts, and_from}
use Rattle.fn_tree.proofs.laws.same_queries.Goals as goal

pub returns : goal.returns
returns c = λ q r.
    let texts = c.equal_where_same.ensures.texts q.udf r.udf in
    let fields = c.equal_where_same.ensures.fields q.args r.args in (
      λ e. let p = and_parts _ _ e in let udf = texts.0 p.0 in let args = fields.0 p.1 in (λ i. record { udf = udf i; args = args i }),
      λ e. and_from _ _ (texts.1 (ap (λ x. x.udf) e)) (fields.1 (ap (λ x. x.args) e)),
    )
