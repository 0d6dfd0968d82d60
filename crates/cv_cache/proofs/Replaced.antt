-- What comes in place of what, where an entry is put first.
use Rattle.std.proofs.Common.{◌≡◌, ◌↔◌, ℕ, suc, ◌<◌, ◌≤◌, Bool, true, ◌==◌, ◌⊎◌, inl, inr, List, [], ◌∷◌, length, take, slice_get, Option, Some, None, option_map, refl, sym, ap, subst, ◌∙◌, arith}
use Rattle.std.proofs.lemmas.List.{take_all}
use Rattle.std.proofs.lemmas.Option.{slice_get_cases}
use Rattle.std.specs.List.{IsDistinct}
use Rattle.std.specs.Map.{keys_of, lookup}
use Rattle.std.specs.Option.{option_map_or}
use Rattle.cv_cache.proofs.Keyed.{others, all_others, none_looked_up, fewer_others}
use Rattle.cv_cache.proofs.Numbered.{IsOwn, place_is_own, all_but_last, found_is_own, others_by_number}
use Rattle.cv_cache.specs.Numbers.{of_number, query_of, without_number, numbers_of}
use Rattle.cv_cache.proofs.Queries.{same_decides}
use Rattle.cv_cache.specs.Recent.{Held, IsRecent, put_first, gone_for}
use Rattle.cv_store.specs.Cache.{same_query}
use Rattle.cv_cache.specs.declared.kept.Kept.{Kept}
use Rattle.fn_tree.specs.declared.stop.Query.{Query}

module _ {X : Type 0} (f : Held → X) (none : X) where
  -- the others stay behind the new entry, but for the one that goes, which is the one of its number
  abbrev pub Replaces : Held → List Held → Option Kept → List Held → Type 0
  Replaces e es None es' = es' ≡ e ∷ es
  Replaces e es (Some g) es' = (q : Query) × IsOwn f none (q, g) es × (es' ≡ e ∷ without_number g.owner es)

  module _ (eq : Query → Query → Bool) (exact : (q r : Query) → (eq q r ≡ true) ↔ (q ≡ r)) where
    abbrev gone : ℕ → Query → List Held → Option Kept → Option Kept
    gone n q es found = option_map_or (λ k. Some k) found (option_map (λ e. e.1) (slice_get es n))

    pub replaces : (n : ℕ) (q : Query) (k : Kept) (es : List Held) → IsDistinct eq (keys_of es) → IsDistinct ◌==◌ (numbers_of es) → length es ≤ suc n
        → Replaces (q, k) es (gone n q es (lookup (eq q) es)) (take (suc n) ((q, k) ∷ others eq (λ q r e. (exact q r).0 e) q es))
    replaces n q k es once apart few = by_found (lookup (eq q) es) refl
      where
        by_last : (o : Option Held) → slice_get es n ≡ o → Replaces (q, k) es (option_map (λ e. e.1) o) ((q, k) ∷ take n es)
        by_last None h = elim (slice_get_cases es n).1 [
          | inl s ↦ absurd (let bad = sym h ∙ s.2 in cc)
          | inr s ↦ ap (λ r. (q, k) ∷ r) (take_all n es s.0)
        ]
        by_last (Some l) h = (l.0, place_is_own f none n es l apart h, ap (λ r. (q, k) ∷ r) (all_but_last n es l apart few h))

        by_found : (o : Option Kept) → lookup (eq q) es ≡ o → Replaces (q, k) es (gone n q es o) ((q, k) ∷ take n (others eq (λ q r e. (exact q r).0 e) q es))
        by_found None h =
            let same = all_others eq (λ q r e. (exact q r).0 e) q es (none_looked_up eq (λ q r e. (exact q r).0 e) q es h) in
            rw same (by_last (slice_get es n) refl)
        by_found (Some g) h =
            let short : length (others eq (λ q r e. (exact q r).0 e) q es) ≤ n = omega (arith, fewer_others eq (λ q r e. (exact q r).0 e) q es g h) in (
              q,
              found_is_own eq exact f none q es g apart h,
              ap (λ r. (q, k) ∷ r) (take_all n (others eq (λ q r e. (exact q r).0 e) q es) short ∙ others_by_number eq exact q es g once apart h),
            )

pub put_replaces : {X : Type 0} (f : Held → X) (none : X) (q : Query) (k : Kept) (es : List Held) → IsRecent es → IsDistinct ◌==◌ (numbers_of es) → Replaces f none (q, k) es (gone_for q es) (put_first q k es)
put_replaces f none q k es recent apart = replaces f none same_query same_decides 1023 q k es recent.distinct apart recent.few
