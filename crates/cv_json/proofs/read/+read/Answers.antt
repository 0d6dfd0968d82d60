use Rattle.std.specs.BTreeMap.{insert_entry}
use Rattle.std.specs.Cmp.Lexicographic.{slice_cmp}
use Rattle.std.specs.List.{AllByRecursion}
use Rattle.std.specs.Ordering.{nat_cmp}
use Rattle.std.proofs.lemmas.List.{drop_all}
use Rattle.std.proofs.Common.{arith, Less, length, ◌≡◌, ◌+◌, ◌<◌, Ok, ℕ, List, [], ◌∷◌, ◌++◌, drop, ap, sym, ◌∙◌, subst, append_assoc, string_cmp}
use Rattle.std.specs.List.Sorted.{IsStrictlySortedBy}
use Rattle.std.specs.Map.{keys_of}
use Rattle.std.specs.String.{string_bytes}
use Rattle.cv_json.proofs.Steps.{on_ok}
use Rattle.cv_json.specs.Reads.{read_items, read_members}
use Rattle.cv_json.proofs.Built.{Entry, after_values, after_members, after_values-none, after_members-none, below_next, insert_last, item_step, member_step, keys_snoc, names_snoc}
use Rattle.cv_values.specs.Trees.{tree as plain}
use Rattle.serde_json.specs.View.{items_view, members_view}
use Rattle.cv_json.proofs.read.+read.Goals as goal

pub read_items-loop-item-preserved : goal.read_items-loop-item-preserved
read_items-loop-item-preserved t c =
    let xs = c.args.items.now in
    let within : c.loop-item.item-index < length xs = omega arith in
    c.loop-item.invariant
    ∙ item_step c.args.depth xs c.loop-item.item-index c.item-item.result (plain c.in_ok-read_at.field-0) c.loop-item.values within c.item-item.is c.in_ok-read_at.ensures.ok
    ∙ ap (λ vs. on_ok (after_values vs) (read_items c.args.depth (items_view (drop (c.loop-item.item-index + 1) xs)))) (sym c.in_ok-push.ensures.ok)

pub read_items-returns-clause-ok : goal.read_items-returns-clause-ok
read_items-returns-clause-ok t c =
    let xs = c.args.items.now in
    let none : drop c.loop-item.item-index xs ≡ [] = drop_all c.loop-item.item-index xs (omega arith) in
    c.loop-item.invariant
    ∙ ap (λ ys. on_ok (after_values c.loop-item.values) (read_items c.args.depth (items_view ys))) none
    ∙ ap Ok (after_values-none c.loop-item.values)

pub read_members-loop-name-preserved : goal.read_members-loop-name-preserved
read_members-loop-name-preserved t c =
    let done = c.loop-name.invariant.0 in
    let e : Entry = (c.in-Some.name.now, c.in-Some.member.now) in
    let left = c.next.new.self in
    let fields = c.loop-name.fields in
    let v = plain c.in_ok-v.v in
    let all : c.args.members.now.entries ≡ done ++ e ∷ left = c.loop-name.invariant.1 ∙ ap (λ es. done ++ es) c.in-Some.ensures.steps in
    let ordered : IsStrictlySortedBy string_cmp (keys_of (done ++ e ∷ left)) = subst (λ (es : List Entry). IsStrictlySortedBy string_cmp (keys_of es)) all c.iter-name-items.ensures.ordered in
    let below = subst (λ (ns : List (List ℕ)). AllByRecursion (λ y. slice_cmp nat_cmp y (string_bytes e.0) ≡ Less) ns) (sym c.loop-name.invariant.2) (below_next done e left ordered) in
    let named : c.in_ok-of.field-0 ≡ string_bytes e.0 = c.in_ok-of.ensures ∙ c.as_str.ensures.value in
    let put : c.insert.new.self ≡ fields ++ (string_bytes e.0, v) ∷ [] =
    c.in_ok-insert.ensures.ok ∙ ap (λ n. insert_entry (slice_cmp nat_cmp) fields n v) named ∙ insert_last fields (string_bytes e.0) v below in (
      done ++ e ∷ [],
      all ∙ sym (append_assoc done (e ∷ []) left),
      ap keys_of put ∙ keys_snoc fields (string_bytes e.0) v ∙ ap (λ ns. ns ++ string_bytes e.0 ∷ []) c.loop-name.invariant.2 ∙ sym (names_snoc done e),
      c.loop-name.invariant.3
          ∙ ap (λ es. on_ok (after_members fields) (read_members c.args.depth (members_view es))) c.in-Some.ensures.steps
          ∙ member_step c.args.depth e left v fields c.in_ok-v.ensures.ok
          ∙ ap (λ ms. on_ok (after_members ms) (read_members c.args.depth (members_view left))) (sym put),
    )

pub read_members-returns-clause-ok : goal.read_members-returns-clause-ok
read_members-returns-clause-ok t c =
    c.loop-name.invariant.3
    ∙ ap (λ es. on_ok (after_members c.loop-name.fields) (read_members c.args.depth (members_view es))) c.in-None.ensures.steps.0
    ∙ ap Ok (after_members-none c.loop-name.fields)
