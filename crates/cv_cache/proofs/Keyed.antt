-- Lists of keys with values in which no two keys are equal.
use Rattle.std.proofs.Common.{◌≡◌, ℕ, suc, ◌+◌, ◌-◌, ◌<◌, ◌≤◌, Bool, true, false, not, cond, List, [], ◌∷◌, length, filter, take, slice_get, map, Option, Some, None, option_map, refl, sym, ap, subst, ◌∙◌, arith}
use Rattle.std.proofs.lemmas.List.{take_all}
use Rattle.std.specs.List.{AllByRecursion, IsDistinct}
use Rattle.std.specs.Map.{keys_of, lookup, lookup_entry, remove_entry}
use Rattle.std.specs.Option.{option_map_or}
use Rattle.lru.specs.LruCache.{LruCache, promoted, put_entries, displaced}

module _ {K V : Type 0} (eq : K → K → Bool) (exact : (q r : K) → eq q r ≡ true → q ≡ r) (q : K) where
  abbrev pub others : List (K × V) → List (K × V)
  others es = filter (λ e. not (eq q e.0)) es

  abbrev pub NoneIs : List (K × V) → Type 0
  NoneIs es = AllByRecursion (λ r. eq q r ≡ false) (keys_of es)

  pub all_others : (es : List (K × V)) → NoneIs es → others es ≡ es
  all_others [] h = refl
  all_others (e ∷ es) h = rw (h.0) (ap (λ r. e ∷ r) (all_others es h.1))

  pub none_looked_up : (es : List (K × V)) → lookup (eq q) es ≡ None → NoneIs es
  none_looked_up [] h = tt
  none_looked_up (e ∷ es) h = (elim (eq q e.0) as (λ b. eq q e.0 ≡ b → NoneIs (e ∷ es)) [
    | true ↦ λ t. absurd (let h' = rw t at h in cc)
    | false ↦ λ t. (t, none_looked_up es (rw t at h))
  ]) refl

  length-others : (es : List (K × V)) → length (others es) ≤ length es
  length-others [] = omega arith
  length-others (e ∷ es) = elim (eq q e.0) as (λ b. length (cond (not b) (e ∷ others es) (others es)) ≤ suc (length es)) [
    | true ↦ omega (arith, length-others es)
    | false ↦ omega (arith, length-others es)
  ]

  -- where there is an entry of the key, there are fewer others
  pub fewer_others : (es : List (K × V)) (v : V) → lookup (eq q) es ≡ Some v → length (others es) < length es
  fewer_others [] v h = absurd (cc)
  fewer_others (e ∷ es) v h = (elim (eq q e.0) as (λ b. eq q e.0 ≡ b → length (others (e ∷ es)) < length (e ∷ es)) [
    | true ↦ λ t. rw t (omega (arith, length-others es))
    | false ↦ λ t. rw t (omega (arith, fewer_others es v (rw t at h)))
  ]) refl

  none_found : (es : List (K × V)) → lookup_entry (eq q) es ≡ None → NoneIs es
  none_found [] h = tt
  none_found (e ∷ es) h = (elim (eq q e.0) as (λ b. eq q e.0 ≡ b → NoneIs (e ∷ es)) [
    | true ↦ λ t. absurd (let h' = rw t at h in cc)
    | false ↦ λ t. (t, none_found es (rw t at h))
  ]) refl

  distinct_rest : (e : K × V) (es : List (K × V)) → IsDistinct eq (keys_of (e ∷ es)) → eq q e.0 ≡ true → NoneIs es
  unfolding IsDistinct
  distinct_rest e es d t = subst (λ r. AllByRecursion (λ y. eq r y ≡ false) (keys_of es)) (sym (exact q e.0 t)) d.0

  distinct_tail : (e : K × V) (es : List (K × V)) → IsDistinct eq (keys_of (e ∷ es)) → IsDistinct eq (keys_of es)
  unfolding IsDistinct
  distinct_tail e es d = d.1

  pub removed_is_others : (es : List (K × V)) → IsDistinct eq (keys_of es) → remove_entry (eq q) es ≡ others es
  removed_is_others [] d = refl
  removed_is_others (e ∷ es) d = (elim (eq q e.0) as (λ b. eq q e.0 ≡ b → remove_entry (eq q) (e ∷ es) ≡ others (e ∷ es)) [
    | true ↦ λ t. rw t (sym (all_others es (distinct_rest e es d t)))
    | false ↦ λ t. rw t (ap (λ r. e ∷ r) (removed_is_others es (distinct_tail e es d)))
  ]) refl

  -- what a look-up finds, with its key
  abbrev pub Finds : List (K × V) → Option (K × V) → Type 0
  Finds es None = (lookup (eq q) es ≡ None) × NoneIs es
  Finds es (Some e) = (lookup (eq q) es ≡ Some e.1) × (e.0 ≡ q) × (length (remove_entry (eq q) es) + 1 ≡ length es)

  pub finds : (es : List (K × V)) → Finds es (lookup_entry (eq q) es)
  finds [] = (refl, tt)
  finds (e ∷ es) = (elim (eq q e.0) as (λ b. eq q e.0 ≡ b → Finds (e ∷ es) (lookup_entry (eq q) (e ∷ es))) [
    | true ↦ λ t. rw t (rw t refl, sym (exact q e.0 t), rw t (omega arith))
    | false ↦ λ t. rw t (further e es t (lookup_entry (eq q) es) (finds es))
  ]) refl
    where
      further : (e : K × V) (es : List (K × V)) → eq q e.0 ≡ false → (o : Option (K × V)) → Finds es o → Finds (e ∷ es) o
      further e es t None f = rw t (f.0, (refl, f.1))
      further e es t (Some g) f = rw t (f.0, f.1, omega (arith, f.2))

  -- the entry of the key goes first
  pub promoted_is : (es : List (K × V)) → IsDistinct eq (keys_of es) → promoted (eq q) es ≡ option_map_or (λ k. (q, k) ∷ others es) (lookup (eq q) es) es
  promoted_is es d = rw (removed_is_others es d) (by_cases (lookup_entry (eq q) es) (finds es))
    where
      by_cases : (o : Option (K × V)) → Finds es o → option_map_or (λ e. e ∷ others es) o es ≡ option_map_or (λ k. (q, k) ∷ others es) (lookup (eq q) es) es
      by_cases None f = rw f.0 refl
      by_cases (Some e) f = rw f.0 (ap (λ k. (k, e.1) ∷ others es) f.1)

  pub put_is : (n : ℕ) (v : V) (c : LruCache K V) → IsDistinct eq (keys_of c.entries) → c.cap ≡ suc n → length c.entries ≤ suc n → put_entries eq c q v ≡ take (suc n) ((q, v) ∷ others c.entries)
  put_is n v c d cap few = by_cases (lookup_entry (eq q) c.entries) (finds c.entries)
    where
      pushed : List (K × V)
      pushed = (q, v) ∷ take (c.cap - 1) c.entries

      by_cases : (o : Option (K × V)) → Finds c.entries o → option_map_or (λ e. (e.0, v) ∷ remove_entry (eq q) c.entries) o ((q, v) ∷ take (c.cap - 1) c.entries) ≡ take (suc n) ((q, v) ∷ others c.entries)
      by_cases None f =
          let less : c.cap - 1 ≡ n = omega (arith, cap) in
          rw (less, all_others c.entries f.1) refl
      by_cases (Some e) f =
          let same = removed_is_others c.entries d in
          let short : length (others c.entries) ≤ n = omega (arith, f.2, few, ap length same) in
          rw (f.1, same, take_all n (others c.entries) short) refl

  pub displaced_is : (n : ℕ) (v : V) (c : LruCache K V) → c.cap ≡ suc n → option_map (λ e. e.1) (displaced eq c q v) ≡ option_map_or (λ k. Some k) (lookup (eq q) c.entries) (option_map (λ e. e.1) (slice_get c.entries n))
  displaced_is n v c cap =
      let less : c.cap - 1 ≡ n = omega (arith, cap) in
      rw less (by_cases (lookup (eq q) c.entries))
    where
      by_cases : (o : Option V) → option_map (λ e. e.1) (option_map_or (λ old. Some (q, old)) o (slice_get c.entries n)) ≡ option_map_or (λ k. Some k) o (option_map (λ e. e.1) (slice_get c.entries n))
      by_cases None = refl
      by_cases (Some k) = refl
