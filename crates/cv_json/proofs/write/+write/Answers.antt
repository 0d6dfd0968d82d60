use Rattle.std.proofs.Common.{arith, take, ◌≡◌, ℕ, List, [], ◌∷◌, ◌++◌, map, ap, sym, ◌∙◌, subst, append_assoc}
use Rattle.std.proofs.lemmas.List.{take_all}
use Rattle.std.specs.Cmp.Lexicographic.{slice_cmp}
use Rattle.std.specs.List.Sorted.{IsStrictlySortedBy}
use Rattle.std.specs.Map.{keys_of}
use Rattle.std.specs.Ordering.{nat_cmp}
use Rattle.cv_json.proofs.Written.{items_json, put_last}
use Rattle.cv_json.specs.Json.{json_of}
use Rattle.cv_json.specs.Ranges.{MembersInRange}
use Rattle.cv_values.specs.Trees.{tree}
use Rattle.cv_values.specs.Value.{Value, members_of}
use Rattle.serde_json.specs.View.{items_of}
use Rattle.cv_json.proofs.write.+write.Goals as goal

pub write_fields-loop-name-preserved : goal.write_fields-loop-name-preserved
write_fields-loop-name-preserved t c =
    let so_far = c.loop-name.invariant in
    let e : List ℕ × Value = (c.in-Some.name.now, tree c.in-Some.v.now) in
    let left = map (λ e. (e.0, tree e.1)) c.next.new.self in
    let all : c.args.fields.now ≡ so_far.done ++ e ∷ left = so_far.all ∙ ap (λ es. so_far.done ++ map (λ e. (e.0, tree e.1)) es) c.in-Some.ensures.steps in
    let ordered : IsStrictlySortedBy (slice_cmp nat_cmp) (keys_of (so_far.done ++ e ∷ left)) = subst (λ (es : List (List ℕ × Value)). IsStrictlySortedBy (slice_cmp nat_cmp) (keys_of es)) all c.as_map-name-items.ensures.ordered in
    record {
      done = so_far.done ++ e ∷ [];
      all = all ∙ sym (append_assoc so_far.done (e ∷ []) left);
      written = c.in_ok-put.ensures.ok ∙ rw (c.as_str.ensures, c.in_ok-write_value.ensures.value, so_far.written) (put_last so_far.done e left ordered);
      in_range = λ rest. so_far.in_range (subst (λ es. MembersInRange (members_of (map (λ e. (e.0, tree e.1)) es))) (sym c.in-Some.ensures.steps) (c.in_ok-write_value.ensures.in_range, rest));
    }

pub write_values-returns-clause-value : goal.write_values-returns-clause-value
write_values-returns-clause-value t c =
    let whole : take c.loop-item.item-index c.args.items.now ≡ c.args.items.now = take_all _ _ (omega arith) in
    ap items_of (c.loop-item.invariant.0 ∙ ap (λ vs. map json_of (map tree vs)) whole) ∙ items_json (map tree c.args.items.now)
