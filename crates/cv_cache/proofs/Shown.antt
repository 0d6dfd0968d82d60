-- The cache that entries stand for.
use Rattle.std.proofs.Common.{◌≡◌, ◌↔◌, ℕ, suc, ◌≤◌, ◌<◌, Bool, true, false, not, ◌&&◌, ◌||◌, nat_le, nat_lt, cond, List, [], ◌∷◌, length, filter, map, take, Option, Some, None, refl, sym, ap, ◌∙◌, subst}
use Rattle.std.specs.Prelude.{is_some, is_none}
use Rattle.std.proofs.lemmas.Bool.{le-leb, lt-leb}
use Rattle.std.proofs.lemmas.List.{take-map}
use Rattle.std.specs.List.{AllByRecursion, IsDistinct}
use Rattle.std.specs.Map.{keys_of, lookup}
use Rattle.cv_cache.proofs.Queries.{same_exact}
use Rattle.cv_reads.specs.FirstTouch.{first_touch}
use Rattle.cv_reads.specs.declared.mark.Mark.{Mark}
use Rattle.cv_ranges.specs.Hits.{is_touched}
use Rattle.cv_cache.specs.Caches.{IsCache}
use Rattle.cv_cache.specs.Entries.{cached_of, cache_of}
use Rattle.cv_cache.specs.Recent.{Held, IsRecent, without, used_again, put_first, untouched}
use Rattle.cv_cache.specs.declared.kept.Kept.{Kept}
use Rattle.cv_store.specs.Cache.{Cached, Cache, same_query, cache_entries, cached_at, used, after_look, has_later, Shows, untouched_by}
use Rattle.cv_store.specs.declared.look.Look.TheVariants.{Hit, Miss}
use Rattle.cv_keys.specs.declared.interval.Interval.{Interval}
use Rattle.fn_tree.specs.EntryViews.{reply_view}
use Rattle.fn_tree.specs.declared.entry.Reply.{Reply}
use Rattle.fn_tree.specs.declared.stop.Query.{Query}

pub shown_without : (q : Query) (es : List Held) → cache_of (without q es) ≡ filter (λ f. not (same_query q f.query)) (cache_of es)
shown_without q [] = refl
shown_without q (e ∷ es) =
    elim (same_query q e.0) as (λ b. cache_of (cond (not b) (e ∷ without q es) (without q es)) ≡ cond (not b) (cached_of e ∷ filter (λ f. not (same_query q f.query)) (cache_of es)) (filter (λ f. not (same_query q f.query)) (cache_of es))) [
      | true ↦ shown_without q es
      | false ↦ ap (λ r. cached_of e ∷ r) (shown_without q es)
    ]

-- no entry is of the query
abbrev NoneIs : Query → List Held → Type 0
NoneIs q es = AllByRecursion (λ r. same_query q r ≡ false) (keys_of es)

none_at : (q : Query) (ts : ℕ) (es : List Held) → NoneIs q es → cached_at q ts (cache_of es) ≡ None
none_at q ts [] h = refl
none_at q ts (e ∷ es) h = rw h.0 (none_at q ts es h.1)

none_later : (q : Query) (ts : ℕ) (es : List Held) → NoneIs q es → has_later q ts (cache_of es) ≡ false
none_later q ts [] h = refl
none_later q ts (e ∷ es) h = rw h.0 (none_later q ts es h.1)

rest_is_other : (q : Query) (e : Held) (es : List Held) → IsDistinct same_query (keys_of (e ∷ es)) → same_query q e.0 ≡ true → NoneIs q es
unfolding IsDistinct
rest_is_other q e es d t = subst (λ r. AllByRecursion (λ s. same_query r s ≡ false) (keys_of es)) (sym (same_exact q e.0 t)) d.0

once_tail : (e : Held) (es : List Held) → IsDistinct same_query (keys_of (e ∷ es)) → IsDistinct same_query (keys_of es)
unfolding IsDistinct
once_tail e es d = d.1

-- what is shown of the entry of a query at a timestamp
abbrev pub shown_at : Query → ℕ → Option Kept → Option Cached
shown_at q ts None = None
shown_at q ts (Some k) = cond (nat_le k.ts ts) (Some (cached_of (q, k))) None

abbrev pub is_later : ℕ → Option Kept → Bool
is_later ts None = false
is_later ts (Some k) = nat_lt ts k.ts

pub at_is : (q : Query) (ts : ℕ) (es : List Held) → IsDistinct same_query (keys_of es) → cached_at q ts (cache_of es) ≡ shown_at q ts (lookup (same_query q) es)
at_is q ts [] d = refl
at_is q ts (e ∷ es) d = (elim (same_query q e.0) as (λ b. same_query q e.0 ≡ b → cond (b && nat_le e.1.ts ts) (Some (cached_of e)) (cached_at q ts (cache_of es)) ≡ shown_at q ts (cond b (Some e.1) (lookup (same_query q) es))) [
  | true ↦ λ t.
      let none = none_at q ts es (rest_is_other q e es d t) in
      let one : cached_of e ≡ cached_of (q, e.1) = ap (λ r. cached_of (r, e.1)) (sym (same_exact q e.0 t)) in
      rw (none, one) refl
  | false ↦ λ t. at_is q ts es (once_tail e es d)
]) refl

pub later_is : (q : Query) (ts : ℕ) (es : List Held) → IsDistinct same_query (keys_of es) → has_later q ts (cache_of es) ≡ is_later ts (lookup (same_query q) es)
later_is q ts [] d = refl
later_is q ts (e ∷ es) d = (elim (same_query q e.0) as (λ b. same_query q e.0 ≡ b → ((b && nat_lt ts e.1.ts) || has_later q ts (cache_of es)) ≡ is_later ts (cond b (Some e.1) (lookup (same_query q) es))) [
  | true ↦ λ t.
      let none = none_later q ts es (rest_is_other q e es d t) in
      rw none (or_false (nat_lt ts e.1.ts))
  | false ↦ λ t. later_is q ts es (once_tail e es d)
]) refl
  where
    or_false : (b : Bool) → (b || false) ≡ b
    or_false true = refl
    or_false false = refl

-- an entry that is used again
pub shown_again : (q : Query) (k : Kept) (es : List Held) → lookup (same_query q) es ≡ Some k → cache_of (used_again q es) ≡ used (cached_of (q, k)) (cache_of es)
shown_again q k es h = rw h (ap (λ r. cached_of (q, k) ∷ r) (shown_without q es))

-- an entry that is put first
pub shown_first : (q : Query) (k : Kept) (es : List Held) → cache_of (put_first q k es) ≡ take cache_entries (used (cached_of (q, k)) (cache_of es))
shown_first q k es = sym (take-map cached_of cache_entries ((q, k) ∷ without q es)) ∙ ap (λ r. take cache_entries (cached_of (q, k) ∷ r)) (shown_without q es)

shown_queries : (es : List Held) → map (λ e. e.query) (cache_of es) ≡ keys_of es
shown_queries [] = refl
shown_queries (e ∷ es) = ap (λ r. e.0 ∷ r) (shown_queries es)

shown_length : (es : List Held) → length (cache_of es) ≡ length es
shown_length [] = refl
shown_length (e ∷ es) = ap suc (shown_length es)

pub shown_cache : (es : List Held) → IsRecent es → IsCache (cache_of es)
shown_cache es r = record {
  once = subst (IsDistinct same_query) (sym (shown_queries es)) r.distinct;
  few = subst (λ n. n ≤ cache_entries) (sym (shown_length es)) r.few;
}

-- the entries that stay where exactly the numbers of touched ones are flagged
pub shown_untouched : (touched : ℕ → Bool) (marks : List Mark) (es : List Held) → AllByRecursion (λ e. touched e.1.owner ≡ is_touched marks e.1.reads) es → cache_of (untouched touched es) ≡ untouched_by marks (cache_of es)
shown_untouched touched marks [] h = refl
shown_untouched touched marks (e ∷ es) h =
    let rest = shown_untouched touched marks es h.1 in
    rw h.0 (elim (first_touch marks e.1.reads) as (λ o. cache_of (cond (not (is_some o)) (e ∷ untouched touched es) (untouched touched es)) ≡ cond (is_none o) (cached_of e ∷ untouched_by marks (cache_of es)) (untouched_by marks (cache_of es))) [
      | None ↦ ap (λ r. cached_of e ∷ r) rest
      | Some place ↦ rest
    ])

-- ---- what a look gives

module _ (q : Query) (ts : ℕ) (es : List Held) (once : IsDistinct same_query (keys_of es)) where
  none_found : None ≡ lookup (same_query q) es → cached_at q ts (cache_of es) ≡ None
  none_found none = at_is q ts es once ∙ ap (shown_at q ts) (sym none)

  module _ (k : Kept) (found : Some k ≡ lookup (same_query q) es) where
    one_found : cached_at q ts (cache_of es) ≡ cond (nat_le k.ts ts) (Some (cached_of (q, k))) None
    one_found = at_is q ts es once ∙ ap (shown_at q ts) (sym found)

    late_found : ts < k.ts → cached_at q ts (cache_of es) ≡ None
    late_found late = one_found ∙ ap (λ b. cond b (Some (cached_of (q, k))) None) (lt-leb k.ts ts late)

    hit_found : k.ts ≤ ts → cached_at q ts (cache_of es) ≡ Some (cached_of (q, k))
    hit_found early = one_found ∙ ap (λ b. cond b (Some (cached_of (q, k))) None) (le-leb k.ts ts early)

    pub hit_shows : (reply : Reply) (reads : List Interval) → k.ts ≤ ts → reply ≡ k.reply → reads ≡ k.reads → Shows (Hit reply reads) (cached_at q ts (cache_of es))
    hit_shows reply reads early r i = subst (Shows (Hit reply reads)) (sym (hit_found early)) (ap reply_view r, i)

    pub hit_used : k.ts ≤ ts → cache_of (used_again q es) ≡ after_look (cached_at q ts (cache_of es)) (cache_of es)
    hit_used early = shown_again q k es (sym found) ∙ ap (λ o. after_look o (cache_of es)) (sym (hit_found early))

    pub late_is_miss : ts < k.ts → Shows Miss (cached_at q ts (cache_of es))
    late_is_miss late = subst (Shows Miss) (sym (late_found late)) tt

    pub late_stays : ts < k.ts → cache_of es ≡ after_look (cached_at q ts (cache_of es)) (cache_of es)
    late_stays late = ap (λ o. after_look o (cache_of es)) (sym (late_found late))

  pub none_is_miss : None ≡ lookup (same_query q) es → Shows Miss (cached_at q ts (cache_of es))
  none_is_miss none = subst (Shows Miss) (sym (none_found none)) tt

  pub none_stays : None ≡ lookup (same_query q) es → cache_of es ≡ after_look (cached_at q ts (cache_of es)) (cache_of es)
  none_stays none = ap (λ o. after_look o (cache_of es)) (sym (none_found none))
