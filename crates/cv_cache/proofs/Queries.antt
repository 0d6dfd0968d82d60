-- Equal queries.
use Rattle.std.proofs.Common.{◌≡◌, ◌↔◌, true, refl, subst}
use Rattle.std.proofs.lemmas.Bool.{and_parts, and_from}
use Rattle.std.specs.Cmp.Lexicographic.{bytes_decides}
use Rattle.std.specs.Cmp.{eq_by_cmp_equiv}
use Rattle.cv_store.specs.Cache.{same_query}
use Rattle.cv_values.specs.Equality.{same_fields}
use Rattle.cv_values.specs.OrderLaws.{compare_total}
use Rattle.cv_values.specs.Value.{object, members_of}
use Rattle.fn_tree.specs.declared.stop.Query.{Query}

pub same_exact : (q r : Query) → same_query q r ≡ true → q ≡ r
same_exact q r e =
    let p = and_parts _ _ e in
    let udf = (bytes_decides q.udf r.udf).0 p.0 in
    let args = same_fields q.args r.args p.1 in
    (λ i. record { udf = udf i; args = args i })

pub same_itself : (q : Query) → same_query q q ≡ true
same_itself q = and_from _ _ ((bytes_decides q.udf q.udf).1 refl) ((eq_by_cmp_equiv compare_total).refl (object (members_of q.args)))

pub same_decides : (q r : Query) → (same_query q r ≡ true) ↔ (q ≡ r)
same_decides q r = (same_exact q r, λ e. subst (λ s. same_query q s ≡ true) e (same_itself q))
