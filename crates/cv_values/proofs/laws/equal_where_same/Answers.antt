use Rattle.std.proofs.Common.{◌∙◌, ap, sym}
use Rattle.std.specs.Cmp.{eq_by_cmp_equiv}
use Rattle.std.specs.Ordering.{eq_by_cmp}
use Rattle.cv_values.specs.Order.{compare}
use Rattle.cv_values.specs.OrderLaws.{compare_total}
use Rattle.cv_values.specs.Equality.{same_values, same_fields}
use Rattle.cv_values.specs.Trees.{tree}
use Rattle.cv_values.specs.Value.{object, members_of}
use Rattle.std.specs.Cmp.Lexicographic.{bytes_decides}
use Rattle.cv_values.proofs.laws.equal_where_same.Goals as goal

pub returns-clause-values : goal.returns-clause-values
returns-clause-values c = λ v w. (λ e. ap tree (same_values v w e), λ e. sym (ap (λ u. eq_by_cmp compare (tree v) u) e) ∙ (eq_by_cmp_equiv compare_total).refl (tree v))

pub returns-clause-fields : goal.returns-clause-fields
returns-clause-fields c = λ f g. (same_fields f g, λ e. sym (ap (λ u. eq_by_cmp compare (object (members_of f)) (object (members_of u))) e) ∙ (eq_by_cmp_equiv compare_total).refl (object (members_of f)))

pub returns-clause-texts : goal.returns-clause-texts
returns-clause-texts c = bytes_decides
