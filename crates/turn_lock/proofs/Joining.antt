-- Two seats become one, one becomes two, and a load recalls what the rule knows.
use Rattle.std.proofs.Common.{◌≡◌, ◌≢◌, ◌⊎◌, ℕ, zero, suc, ◌+◌, ◌<◌, ◌≤◌, List, [], ◌∷◌, ◌++◌, length, set, sym, refl, ap, ◌∙◌, subst, inl, inr, ⊎_elim, arith, Some, None, Option, IfSome}
use Rattle.std.specs.Prelude.{slice_index}
use mathlib.Core.Option.{some, none, some-ne-none, some-injective}
use mathlib.Core.Option as maybe
use mathlib.Core.List.{IsPrefix}
use lib.ListN.{get_elem?}
use Rattle.atomic_table.specs.Table.{State, Me, Act, keeps, step, stepped, carried_after, Valid, Allows, Splits, Joins, Final, Seen}
use Rattle.atomic_table.proofs.Lists.{at_set, at_snoc, set_again, set_else, at_longer}
use Rattle.fn_tree.specs.History.{Entry}
use Rattle.fn_tree.specs.SyntaxTree.{ModuleTree}
use Rattle.turn_lock.specs.Views.{View, spent}
use Rattle.turn_lock.specs.declared.view.Stage.{Stage}
use Rattle.turn_lock.specs.declared.view.Stage.TheVariants.{Rest, Holding, Counted, Spent}
use Rattle.turn_lock.specs.Rule.{Fits, Apart, Topped, Kept, Free, Taken, Quiet, Busy, Keeps, Stands, Rises, AllBegin, newcomer, both, recalls}
use Rattle.turn_lock.proofs.Prefixes.{prefix_self}
use Rattle.turn_lock.proofs.Merging.{longer_begins, begins_longer, merged_stands, merged_keeps, merged_rises, whole_longer}
use Rattle.turn_lock.proofs.Owns.{stands_more}
use mathlib.Core.Logic.{dite}
use native.Mathlib.Decide.{ℕ_discrete}
use Rattle.turn_lock.proofs.Views.{here}

-- what a lookup finds after a join
abbrev Twice : List View → ℕ → ℕ → View → ℕ → View → Type 0
Twice views id other b j u = ((j ≡ other) × (spent ≡ u)) ⊎ (((j ≡ id) × (b ≡ u)) ⊎ ((j ≢ id) × (j ≢ other) × (get_elem? views j ≡ some u)))

twice : (views : List View) (id other : ℕ) (b : View) (j : ℕ) (u : View) → get_elem? (set (set views id b) other spent) j ≡ some u → Twice views id other b j u
twice views id other b j u e =
    ⊎_elim (λ (x : (j ≡ other) × (spent ≡ u)). inl x)
    (λ (x : (j ≢ other) × (get_elem? (set views id b) j ≡ some u)).
    ⊎_elim (λ (y : (j ≡ id) × (b ≡ u)). inr (inl y)) (λ (y : (j ≢ id) × (get_elem? views j ≡ some u)). inr (inr (y.0, x.0, y.1))) (at_set views id j b u x.1))
    (at_set (set views id b) other j spent u e)

-- what holds of all views after a join
twice_all : (P : ℕ → View → Type 0) (views : List View) (id other : ℕ) (b : View) → ((j : ℕ) (u : View) → get_elem? views j ≡ some u → P j u) → P id b → P other spent
    → (j : ℕ) (u : View) → get_elem? (set (set views id b) other spent) j ≡ some u → P j u
twice_all P views id other b rest mine empty j u e =
    ⊎_elim (λ (x : (j ≡ other) × (spent ≡ u)). subst (λ (y : ℕ × View). P y.0 y.1) (λ i. (sym x.0 i, x.1 i)) empty)
    (λ z. ⊎_elim (λ (y : (j ≡ id) × (b ≡ u)). subst (λ (q : ℕ × View). P q.0 q.1) (λ i. (sym y.0 i, y.1 i)) mine)
    (λ (y : (j ≢ id) × (j ≢ other) × (get_elem? views j ≡ some u)). rest j u y.2) z)
    (twice views id other b j u e)

module _ (views : List View) (id other : ℕ) (v w : View) (at : get_elem? views id ≡ some v) (there : get_elem? views other ≡ some w) (apart : Apart views) where
  joined_apart_one : (b : View) → ((p : ℕ) → Keeps p b.own → Keeps p v.own ⊎ Keeps p w.own) → (j : ℕ) (u : View) → j ≢ id → j ≢ other → get_elem? views j ≡ some u → (p : ℕ) → Keeps p b.own → Keeps p u.own → ⊥
  joined_apart_one b from j u ni ne e p kb ku = ⊎_elim (λ (k : Keeps p v.own). apart j id u v e at ni p ku k) (λ (k : Keeps p w.own). apart j other u w e there ne p ku k) (from p kb)

  pub joined_apart : (b : View) → ((p : ℕ) → Keeps p b.own → Keeps p v.own ⊎ Keeps p w.own) → Apart (set (set views id b) other spent)
  joined_apart b from i j x y ex ey ne p kx ky =
      ⊎_elim (λ (a : (i ≡ other) × (spent ≡ x)). subst (λ (u : View). Keeps p u.own) (sym a.1) kx)
      (λ a. ⊎_elim (λ (c : (j ≡ other) × (spent ≡ y)). subst (λ (u : View). Keeps p u.own) (sym c.1) ky)
      (λ c. ⊎_elim
      (λ (a' : (i ≡ id) × (b ≡ x)).
      ⊎_elim (λ (c' : (j ≡ id) × (b ≡ y)). ne (a'.0 ∙ sym c'.0))
      (λ (c' : (j ≢ id) × (j ≢ other) × (get_elem? views j ≡ some y)). joined_apart_one b from j y c'.0 c'.1 c'.2 p (subst (λ (u : View). Keeps p u.own) (sym a'.1) kx) ky) c)
      (λ (a' : (i ≢ id) × (i ≢ other) × (get_elem? views i ≡ some x)).
      ⊎_elim (λ (c' : (j ≡ id) × (b ≡ y)). joined_apart_one b from i x a'.0 a'.1 a'.2 p (subst (λ (u : View). Keeps p u.own) (sym c'.1) ky) kx)
      (λ (c' : (j ≢ id) × (j ≢ other) × (get_elem? views j ≡ some y)). apart i j x y a'.2 c'.2 ne p kx ky) c)
      a)
      (twice views id other b j y ey))
      (twice views id other b i x ex)

module _ {T : Type 0} (history : T → List Entry) (program : T → ModuleTree) (m : ModuleTree) where
  abbrev Rule : State (Option T) View → Type 0
  Rule = Kept history program m

  joined_fits : (log : List Entry) (v w : View) → Fits log v → Fits log w → v.stage ≡ Rest → ((p : ℕ) → Keeps p v.own → Keeps p w.own → ⊥) → Fits log (both v w)
  joined_fits log v w f g idle apart =
      let b = begins_longer v.seen w.seen log f.begins g.begins in record {
        begins = longer_begins v.seen w.seen log f.begins g.begins;
        stands = merged_stands _ v.own w.own (stands_more v.seen _ v.own b.0 f.stands) (stands_more w.seen _ w.own b.1 g.stands);
        rises = merged_rises 0 v.own w.own f.rises g.rises apart;
        olds = (b.0, (b.1, tt));
      }

  spent_fits : (log : List Entry) → Fits log spent
  spent_fits log = record { begins = (log, refl); stands = tt; rises = tt; olds = tt }

  idle_not_busy : (log : List Entry) (v : View) (t : Stage) → t ≡ Rest → Busy log v t → ⊥
  idle_not_busy log v t is b = subst (Busy log v) is b

  joined_topped : (log : List Entry) (views : List View) (id : ℕ) (v : View) (other : ℕ) (w : View) → get_elem? views id ≡ some v → get_elem? views other ≡ some w → ¬ (other ≡ id)
      → Fits log v → Fits log w → Topped log views → Topped log (set (set views id (both v w)) other spent)
  joined_topped log views id v other w at there ne f g t =
      let b = both v w in
      let longer = begins_longer v.seen w.seen log f.begins g.begins in
      let begins = longer_begins v.seen w.seen log f.begins g.begins in
      let found : get_elem? (set (set views id b) other spent) id ≡ some b = set_else (set views id b) other id spent (λ e. ne (sym e)) ∙ here views id v b at in
      dite (ℕ_discrete t.0 id)
      (λ (e : t.0 ≡ id).
      let is : t.1 ≡ v = some-injective t.1 v (sym t.2 ∙ (ap (get_elem? views) e ∙ at)) in
      (id, b, found, whole_longer v.seen b.seen log (sym (ap (λ (u : View). u.seen) is) ∙ t.3) longer.0 begins, λ e'. cc))
      (λ (n : t.0 ≢ id).
      dite (ℕ_discrete t.0 other)
      (λ (e : t.0 ≡ other).
      let is : t.1 ≡ w = some-injective t.1 w (sym t.2 ∙ (ap (get_elem? views) e ∙ there)) in
      (id, b, found, whole_longer w.seen b.seen log (sym (ap (λ (u : View). u.seen) is) ∙ t.3) longer.1 begins, λ e'. cc))
      (λ (n' : t.0 ≢ other). (t.0, t.1, set_else (set views id b) other t.0 spent n' ∙ (set_else views id t.0 b n ∙ t.2), t.3, t.4)))

  pub joins_seat : (id : ℕ) (v : View) (other : ℕ) (w : View) → v.stage ≡ Rest → w.stage ≡ Rest → Joins Rule id v other w (both v w) spent
  joins_seat id v other w idle idle' s kept at ne there' =
      let log = kept.log in
      let there : get_elem? s.views other ≡ some w = sym (set_else s.views id other (both v w) ne) ∙ there' in
      let b = both v w in
      let away : (p : ℕ) → Keeps p v.own → Keeps p w.own → ⊥ = λ p. kept.apart id other v w at there (λ e. ne (sym e)) p in
      let after : State (Option T) View = record { words = s.words; homes = s.homes; views = set (set s.views id b) other spent } in
      record {
        log = log;
        each = twice_all (λ j u. Fits log u) s.views id other b kept.each (joined_fits log v w (kept.each id v at) (kept.each other w there) idle away) (spent_fits log);
        longest = joined_topped log s.views id v other w at there ne (kept.each id v at) (kept.each other w there) kept.longest;
        apart = joined_apart s.views id other v w at there kept.apart b (λ p k. merged_keeps p v.own w.own k);
        slot = ⊎_elim
            (λ (free : Free history program m log s). let r : Free history program m log after = record { words = free.words; rest = twice_all (λ j u. Quiet u.stage) s.views id other b free.rest tt tt; home = free.home } in inl r)
            (λ (out : Taken history program m log s).
            let not_id : out.seat ≢ id = λ e. idle_not_busy log out.holder out.holder.stage (ap (λ (u : View). u.stage) (some-injective out.holder v (sym out.here ∙ (ap (get_elem? s.views) e ∙ at))) ∙ idle) out.busy in
            let not_other : out.seat ≢ other = λ e. idle_not_busy log out.holder out.holder.stage (ap (λ (u : View). u.stage) (some-injective out.holder w (sym out.here ∙ (ap (get_elem? s.views) e ∙ there))) ∙ idle') out.busy in
            let r : Taken history program m log after = record {
              words = out.words;
              seat = out.seat;
              holder = out.holder;
              here = set_else (set s.views id b) other out.seat spent not_other ∙ (set_else s.views id out.seat b not_id ∙ out.here);
              busy = out.busy;
              others = λ j u e ne'. ⊎_elim (λ (x : (j ≡ other) × (spent ≡ u)). subst (λ (y : View). Quiet y.stage) x.1 tt)
                  (λ z. ⊎_elim (λ (y : (j ≡ id) × (b ≡ u)). subst (λ (q : View). Quiet q.stage) y.1 tt)
                  (λ (y : (j ≢ id) × (j ≢ other) × (get_elem? s.views j ≡ some u)). out.others j u y.2 ne') z)
                  (twice s.views id other b j u e);
              away = out.away;
            } in inr r)
            kept.slot;
      }

  snoc_all : (P : View → Type 0) (views : List View) (n : View) → ((j : ℕ) (u : View) → get_elem? views j ≡ some u → P u) → P n → (j : ℕ) (u : View) → get_elem? (views ++ n ∷ []) j ≡ some u → P u
  snoc_all P views n rest new j u e = ⊎_elim (λ (a : get_elem? views j ≡ some u). rest j u a) (λ (b : n ≡ u). subst P b new) (at_snoc views n u j e)

  split_kept : (s : State (Option T) View) (id : ℕ) (v : View) → Rule s → get_elem? s.views id ≡ some v → v.stage ≡ Rest → Rule record { words = s.words; homes = s.homes; views = s.views ++ newcomer v ∷ [] }
  split_kept s id v kept at idle =
      let log = kept.log in
      let n = newcomer v in
      let f = kept.each id v at in
      let after : State (Option T) View = record { words = s.words; homes = s.homes; views = s.views ++ n ∷ [] } in
      record {
        log = log;
        each = λ j u e. snoc_all (λ u. Fits log u) s.views n kept.each record { begins = f.begins; stands = tt; rises = tt; olds = tt } j u e;
        longest = let t = kept.longest in (t.0, t.1, at_longer s.views (n ∷ []) t.0 t.1 t.2, t.3, t.4);
        apart = λ i j x y ex ey ne p kx ky.
            ⊎_elim (λ (a : get_elem? s.views i ≡ some x).
            ⊎_elim (λ (b : get_elem? s.views j ≡ some y). kept.apart i j x y a b ne p kx ky) (λ (b : n ≡ y). subst (λ (u : View). Keeps p u.own) (sym b) ky) (at_snoc s.views n y j ey))
            (λ (a : n ≡ x). subst (λ (u : View). Keeps p u.own) (sym a) kx) (at_snoc s.views n x i ex);
        slot = ⊎_elim
            (λ (free : Free history program m log s). let r : Free history program m log after = record { words = free.words; rest = snoc_all (λ u. Quiet u.stage) s.views n free.rest tt; home = free.home } in inl r)
            (λ (out : Taken history program m log s).
            let r : Taken history program m log after = record {
              words = out.words;
              seat = out.seat;
              holder = out.holder;
              here = at_longer s.views (n ∷ []) out.seat out.holder out.here;
              busy = out.busy;
              others = λ j u e ne'. ⊎_elim (λ (a : get_elem? s.views j ≡ some u). out.others j u a ne') (λ (b : n ≡ u). subst (λ (q : View). Quiet q.stage) b tt) (at_snoc s.views n u j e);
              away = out.away;
            } in inr r)
            kept.slot;
      }

  pub splits_seat : (id : ℕ) (v : View) → v.stage ≡ Rest → Splits Rule id v v (newcomer v)
  splits_seat id v idle s kept at =
      subst (λ (vs : List View). Rule record { words = s.words; homes = s.homes; views = vs ++ newcomer v ∷ [] }) (sym (set_again s.views id v at)) (split_kept s id v kept at idle)

  abbrev LoadGoes : ℕ → Me (Option T) View → State (Option T) View → List ℕ → Type 0
  LoadGoes id me s words =
      (w : View) × (a : Act (Option T)) × Valid s.homes me.1 a
      × Rule (stepped record { words = words; homes = s.homes; views = s.views } 0 (slice_index words 0) id me.1 w a)
      × recalls (step 0 0 0 0 none) me (slice_index words 0) (w, carried_after me.1 a)

  load_goes : (id : ℕ) (me : Me (Option T) View) (s : State (Option T) View) (a n : ℕ) → Rule s → get_elem? s.views id ≡ some me.0 → s.words ≡ a ∷ n ∷ [] → LoadGoes id me s (a ∷ n ∷ [])
  load_goes id me s a n kept at is = (
    me.0,
    keeps,
    tt,
    subst (λ (vs : List View). Rule record { words = a ∷ n ∷ []; homes = s.homes; views = vs }) (sym (set_again s.views id me.0 at)) (subst (λ (ws : List ℕ). Rule record { words = ws; homes = s.homes; views = s.views }) is kept),
    (refl, (kept.each id me.0 at).olds),
  )

  -- a load tells a seat that its olds begin what it has seen
  pub recalls_seat : (slots id : ℕ) (me : Me (Option T) View) → Allows Rule slots id me 0 (λ n. n) (recalls (step slots 0 0 0 none) me)
  recalls_seat slots id me s kept deep at fits =
      let log = kept.log in
      ⊎_elim
      (λ (free : Free history program m log s). subst (LoadGoes id me s) (sym free.words) (load_goes id me s 0 (length log) kept at free.words))
      (λ (out : Taken history program m log s). subst (LoadGoes id me s) (sym out.words) (load_goes id me s 1 (length log) kept at out.words))
      kept.slot

  -- the state at the end, where no seat has the turn
  pub closes : (id : ℕ) (v : View) (ws : List ℕ) (xs : List (Option T)) (word : ℕ) (slot : Option T) → Final (Seen Rule id v) ws xs → v.stage ≡ Rest
      → get_elem? ws 0 ≡ some word → word ≡ 0 → get_elem? xs 0 ≡ some slot → (x : T) × (slot ≡ Some x) × IsPrefix v.seen (history x) × (program x ≡ m) × Stands (history x) v.own × Rises 0 v.own
  closes id v ws xs word slot end idle is zero_word has =
      let s = end.0 in
      let kept = end.1.0 in
      let at = end.1.1 in
      let log = kept.log in
      let f = kept.each id v at in
      ⊎_elim
      (λ (free : Free history program m log s).
      let x = free.home.0 in
      let home : get_elem? s.homes 0 ≡ some (some (Some x)) = ap (λ (hs : List (maybe.Option (Option T))). get_elem? hs 0) free.home.1 in
      let same : Some x ≡ slot = some-injective (Some x) slot (sym (end.4 0 (Some x) home) ∙ has) in
      (let begins = subst (IsPrefix v.seen) (sym free.home.2) f.begins in (x, sym same, begins, free.home.3, stands_more v.seen (history x) v.own begins f.stands, f.rises)))
      (λ (out : Taken history program m log s).
      let one : 1 ≡ word = some-injective 1 word (ap (λ (l : List ℕ). get_elem? l 0) (sym out.words ∙ end.2) ∙ is) in
      absurd (omega arith))
      kept.slot

pub if_some : {T : Type 0} (P : T → Type 0) (o : Option T) (x : T) → o ≡ Some x → P x → IfSome o P
if_some P o x e p = subst (λ o'. IfSome o' P) (sym e) p
