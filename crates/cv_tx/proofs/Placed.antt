-- One put more among the pending writes.
use Rattle.std.proofs.Common.{◌≡◌, ℕ, suc, ◌+◌, ◌<◌, Bool, true, false, cond, List, [], ◌∷◌, ◌++◌, length, Some, None, refl, sym, ap, ◌∙◌, arith}
use Rattle.std.specs.Prelude.{slice_get, slice_set}
use Rattle.std.specs.List.{position_from}
use Rattle.cv_keys.specs.declared.write.Write.{Write}
use Rattle.fn_tree.specs.Documents.{same_id}
use Rattle.fn_tree.specs.declared.stop.Put.{Put}
use Rattle.cv_tx.specs.Pending.{placed, write_at}

-- the write that a put changes stands j places behind the k-th
record Stands (p : Put) (ws : List Write) (k at : ℕ) : Type 0 where
  j : ℕ
  w : Write
  at_is : at ≡ k + j
  below : j < length ws
  there : slice_get ws j ≡ Some w
  changed : placed p ws ≡ slice_set ws j (record w { new = p.new })

stands : (p : Put) (ws : List Write) (k at : ℕ) → Some at ≡ position_from (λ w. same_id p.id w.id) k ws → Stands p ws k at
stands p [] k at e = cc
stands p (x ∷ ws) k at e = go (same_id p.id x.id) refl e (stands p ws (k + 1) at)
  where
    go : (b : Bool) → same_id p.id x.id ≡ b → Some at ≡ cond b (Some k) (position_from (λ w. same_id p.id w.id) (k + 1) ws)
        → (Some at ≡ position_from (λ w. same_id p.id w.id) (k + 1) ws → Stands p ws (k + 1) at) → Stands p (x ∷ ws) k at
    go true s h ih =
        let same : at ≡ k = cc in
        record { j = 0; w = x; at_is = omega arith; below = omega arith; there = refl; changed = ap (λ b. cond b (record x { new = p.new } ∷ ws) (x ∷ placed p ws)) s }
    go false s h ih =
        let r = ih h in
        let a = r.at_is in
        let b = r.below in
        record {
          j = suc r.j;
          w = r.w;
          at_is = omega (arith, a);
          below = omega (arith, b);
          there = r.there;
          changed = ap (λ b. cond b (record x { new = p.new } ∷ ws) (x ∷ placed p ws)) s ∙ ap (λ l. x ∷ l) r.changed;
        }

-- the same from the first place on
pub record Changes (p : Put) (ws : List Write) (at : ℕ) : Type 0 where
  pub w : Write
  pub below : at < length ws
  pub there : slice_get ws at ≡ Some w
  pub changed : placed p ws ≡ slice_set ws at (record w { new = p.new })

pub changes : (p : Put) (ws : List Write) (at : ℕ) → Some at ≡ write_at p.id ws → Changes p ws at
changes p ws at e =
    let r = stands p ws 0 at e in
    let a : r.j ≡ at = omega (arith, r.at_is) in
    record {
      w = r.w;
      below = omega (arith, r.below, a);
      there = ap (slice_get ws) (sym a) ∙ r.there;
      changed = r.changed ∙ ap (λ n. slice_set ws n (record r.w { new = p.new })) a;
    }

adds_from : (p : Put) (ws : List Write) (k : ℕ) → None ≡ position_from (λ w. same_id p.id w.id) k ws → placed p ws ≡ ws ++ record { id = p.id; old = p.old; new = p.new } ∷ []
adds_from p [] k e = refl
adds_from p (x ∷ ws) k e = go (same_id p.id x.id) e (adds_from p ws (k + 1))
  where
    go : (b : Bool) → None ≡ cond b (Some k) (position_from (λ w. same_id p.id w.id) (k + 1) ws)
        → (None ≡ position_from (λ w. same_id p.id w.id) (k + 1) ws → placed p ws ≡ ws ++ record { id = p.id; old = p.old; new = p.new } ∷ [])
        → cond b (record x { new = p.new } ∷ ws) (x ∷ placed p ws) ≡ x ∷ (ws ++ record { id = p.id; old = p.old; new = p.new } ∷ [])
    go true h ih = cc
    go false h ih = ap (λ l. x ∷ l) (ih h)

-- a put of an id that has no write adds one
pub adds : (p : Put) (ws : List Write) → None ≡ write_at p.id ws → placed p ws ≡ ws ++ record { id = p.id; old = p.old; new = p.new } ∷ []
adds p ws e = adds_from p ws 0 e
