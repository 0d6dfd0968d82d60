use Rattle.std.proofs.Common.{◌≡◌, ℕ, List, Option, None, map, option_map, sym, ap, ◌∙◌}
use Rattle.std.proofs.lemmas.Map.Made.{lookup-map_values}
use Rattle.std.specs.BTreeMap.{is_at}
use Rattle.std.specs.Map.{lookup}
use Rattle.std.specs.Cmp.Lexicographic.{slice_cmp}
use Rattle.std.specs.Ordering.{nat_cmp}
use Rattle.cv_values.specs.Measures.{add, of_member, of_members}
use Rattle.cv_values.specs.Trees.{tree}
use Rattle.cv_values.specs.declared.val.Val.{Val}
use Rattle.cv_values.proofs.Entries.{map-insert_entry}
use Rattle.cv_values.proofs.Measured.{members_fresh}
use Rattle.cv_values.proofs.val.Fields.insert.Goals as goal
use Rattle.cv_values.proofs.val.Fields.insert.Goals.{in-None, in-Some}

pub returns-clause-before : goal.returns-clause-before
returns-clause-before c = rw (c.in_ok-old.ensures.old, ← c.self.view_is)
    (sym (lookup-map_values {K = List ℕ} tree (is_at (slice_cmp nat_cmp c.args.name)) c.self.inside.inner.entries))

pub returns-clause-ok : goal.returns-clause-ok
returns-clause-ok c = rw (c.in_ok-old.ensures.entries, ← c.self.view_is)
    (map-insert_entry tree (slice_cmp nat_cmp) c.self.inside.inner.entries c.args.name c.args.v)

pub invariant_of-self-2 : goal.invariant_of-self-2
invariant_of-self-2 c =
    let es = c.self.inside.inner.entries in
    let name = c.args.name in
    elim c.match-old.branch [
      | in-None w ↦
          let none : ◌≡◌ {A = Option Val} None (lookup (is_at (slice_cmp nat_cmp name)) es) = sym w.in-None.is ∙ c.in_ok-old.ensures.old in
          let unseen : lookup (is_at (slice_cmp nat_cmp name)) (map (λ e. (e.0, tree e.1)) es) ≡ None = lookup-map_values {K = List ℕ} tree (is_at (slice_cmp nat_cmp name)) es ∙ ap (option_map tree) (sym none) in
          let after : of_members (map (λ e. (e.0, tree e.1)) c.insert.new.self.entries) ≡ add (of_members (map (λ e. (e.0, tree e.1)) es)) (of_member (name, tree c.args.v)) =
          rw (c.in_ok-old.ensures.entries, map-insert_entry tree (slice_cmp nat_cmp) es name c.args.v) (members_fresh (slice_cmp nat_cmp) (map (λ e. (e.0, tree e.1)) es) name (tree c.args.v) unseen) in
          w.self-is ∙ w.add-self-inside.ensures ∙ rw (c.self.invariant, c.of_member-added.ensures) (sym after)
      | in-Some w ↦ w.self-is ∙ w.of_map-self-inside.ensures
    ]
