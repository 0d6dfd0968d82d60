-- All room for a proposal, from what was made for its writes.
use Rattle.std.proofs.Common.{◌≡◌, ℕ, ◌+◌, ◌*◌, ◌^◌, ◌<◌, ◌≤◌, List, length, sym, ap, ◌∙◌, subst, arith}
use Rattle.std.specs.List.{AllByRecursion}
use Rattle.cv_keys.specs.declared.schema.Schema.{Schema}
use Rattle.cv_keys.specs.declared.write.Write.{Write}
use Rattle.cv_store.specs.Marks.{writes_marks}
use Rattle.cv_store.specs.declared.proposal.Proposal.{Proposal}
use Rattle.cv_core.specs.Changes.{changes_of, changes_at, new_docs, WriteFits}
use Rattle.cv_core.specs.Cores.{State, schema_in, IsRoom}
use Rattle.cv_core.specs.Versioned.{spare_at}
use Rattle.cv_core.specs.declared.change.Change.{Change}
use Rattle.cv_core.specs.declared.ready.Room.{Room}
use Rattle.cv_core.proofs.Rooms.{room_at}

module _ (c : State) (p : Proposal) (r : Room) (schema : Schema) (ws : List Write) (s : schema ≡ schema_in c) (w : ws ≡ p.writes) where
  pub room_made : (ts first each : ℕ) → length p.reads < 2 ^ 32 → ts ≡ length c.log + 1 → first ≡ length c.rows.docs
      → r.marks.items ≡ writes_marks schema ts 0 ws → r.changes.items ≡ changes_of schema first ws → r.docs.items ≡ new_docs ws
      → AllByRecursion (WriteFits schema) ws → 0 < c.spare → length c.rows.docs + length r.docs.items < 2 ^ 64 → length r.docs.items ≤ c.rows.spare
      → 2 * length ws ≤ each → AllByRecursion (λ x. each ≤ spare_at x.table x.index c.rows.tables) r.changes.items → IsRoom c p r
  room_made ts first each few at count marks changes docs fits entry numbers versions each_is rooms =
      let new : r.docs.items ≡ new_docs p.writes = docs ∙ ap new_docs w in
      let many : length r.docs.items ≡ length (new_docs p.writes) = ap length new in
      record {
        few = few;
        marks = marks ∙ ap (λ (x : Schema). writes_marks x ts 0 ws) s ∙ ap (writes_marks (schema_in c) ts 0) w ∙ ap (λ (n : ℕ). writes_marks (schema_in c) n 0 p.writes) at;
        changes = changes ∙ ap (λ (x : Schema). changes_of x first ws) s ∙ ap (changes_of (schema_in c) first) w ∙ ap (λ (n : ℕ). changes_of (schema_in c) n p.writes) count;
        docs = new;
        fits = subst (λ (x : Schema). AllByRecursion (WriteFits x) p.writes) s (subst (AllByRecursion (WriteFits schema)) w fits);
        entry = entry;
        numbers = omega (arith, numbers, many);
        versions = omega (arith, versions, many);
        rows = λ table index.
            subst (λ (cs : List Change). length (changes_at table index cs) ≤ spare_at table index c.rows.tables) (sym changes)
            (room_at schema table index first each c.rows.tables ws each_is (subst (AllByRecursion (λ x. each ≤ spare_at x.table x.index c.rows.tables)) changes rooms));
      }
