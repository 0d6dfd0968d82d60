-- The first touch of a history that goes on.
use Rattle.std.proofs.Common.{◌≡◌, ℕ, zero, suc, ◌+◌, ◌≤◌, List, [], ◌∷◌, ◌++◌, drop, length, Option, Some, None, refl, sym, ap, ◌∙◌, arith}
use Rattle.std.specs.Option.{option_or}
use Rattle.cv_keys.specs.declared.schema.Schema.{Schema}
use Rattle.fn_tree.specs.History.{Entry, History}
use Rattle.cv_store.specs.FirstTouch.{Test, by_key, by_place, entry_touch, entries_touch, first_touch, first_touch_places}
use Rattle.cv_store.specs.HistoryLaws.{TouchesGoOn}
use Rattle.cv_store.specs.declared.conflict.Conflict.{Conflict}

or_assoc : (a b c : Option Conflict) → option_or (option_or a b) c ≡ option_or a (option_or b c)
or_assoc None b c = refl
or_assoc (Some x) b c = refl

or_none : (a : Option Conflict) → option_or a None ≡ a
or_none None = refl
or_none (Some x) = refl

or_first : (a b : Option Conflict) (c : Conflict) → a ≡ Some c → option_or a b ≡ Some c
or_first a b c e = ap (λ (o : Option Conflict). option_or o b) e

neither : (a b : Option Conflict) → option_or a b ≡ None → a ≡ None
neither None b e = refl
neither (Some x) b e = cc

module _ {R : Type 0} (test : Test R) (schema : Schema) (reads : List R) where
  abbrev touch : (ts : ℕ) → History → Option Conflict
  touch ts h = entries_touch schema test reads ts h

  touch_append : (ts n : ℕ) (a b : History) → n ≡ ts + length a → touch ts (a ++ b) ≡ option_or (touch ts a) (touch n b)
  touch_append ts n [] b p =
      let same : ts ≡ n = omega (arith, p) in
      ap (λ (k : ℕ). touch k b) same
  touch_append ts n (e ∷ a) b p =
      ap (option_or (entry_touch schema test reads (ts + 1) e)) (touch_append (ts + 1) n a b (omega (arith, p)))
      ∙ sym (or_assoc (entry_touch schema test reads (ts + 1) e) (touch (ts + 1) a) (touch n b))

  -- of what is left after s entries, numbered from ts on
  none_left : (ts s : ℕ) (h : History) → s ≡ length h → touch ts (drop s h) ≡ None
  none_left ts zero [] p = refl
  none_left ts zero (e ∷ h) p = absurd (omega (arith, p))
  none_left ts (suc s) [] p = refl
  none_left ts (suc s) (e ∷ h) p = none_left ts s h (omega (arith, p))

  left_entry : (ts n s : ℕ) (h : History) (e : Entry) → s ≤ length h → n + s ≡ ts + length h + 1
      → touch ts (drop s (h ++ e ∷ [])) ≡ option_or (touch ts (drop s h)) (entry_touch schema test reads n e)
  left_entry ts n zero h e le p = touch_end ts n h (omega (arith, p))
    where
      touch_end : (ts n : ℕ) (h : History) → n ≡ ts + length h + 1 → touch ts (h ++ e ∷ []) ≡ option_or (touch ts h) (entry_touch schema test reads n e)
      touch_end ts n h p =
          let same : (ts + length h) + 1 ≡ n = omega (arith, p) in
          touch_append ts (ts + length h) h (e ∷ []) refl
          ∙ ap (option_or (touch ts h)) (or_none (entry_touch schema test reads ((ts + length h) + 1) e) ∙ ap (λ (k : ℕ). entry_touch schema test reads k e) same)
  left_entry ts n (suc s) [] e le p = absurd (omega (arith, le))
  left_entry ts n (suc s) (f ∷ h) e le p = left_entry ts n s h e (omega (arith, le)) (omega (arith, p))

  left_front : (ts s : ℕ) (h more : History) (c : Conflict) → touch ts (drop s h) ≡ Some c → touch ts (drop s (h ++ more)) ≡ Some c
  left_front ts zero h more c e = touch_append ts (ts + length h) h more refl ∙ or_first (touch ts h) (touch (ts + length h) more) c e
  left_front ts (suc s) [] more c e = cc
  left_front ts (suc s) (f ∷ h) more c e = left_front ts s h more c e

  left_none : (ts s : ℕ) (h more : History) → touch ts (drop s (h ++ more)) ≡ None → touch ts (drop s h) ≡ None
  left_none ts zero h more e = neither (touch ts h) (touch (ts + length h) more) (sym (touch_append ts (ts + length h) h more refl) ∙ e)
  left_none ts (suc s) [] more e = refl
  left_none ts (suc s) (f ∷ h) more e = left_none ts s h more e

pub keys_go_on : TouchesGoOn by_key first_touch
unfolding first_touch
keys_go_on = record {
  end = λ schema reads h. none_left by_key schema reads (length h) (length h) h refl;
  entry = λ schema reads h e s le. left_entry by_key schema reads s (length h + 1) s h e le (omega arith);
  front = λ schema reads h more s c e. left_front by_key schema reads s s h more c e;
  none = λ schema reads h more s e. left_none by_key schema reads s s h more e;
}

pub places_go_on : TouchesGoOn by_place first_touch_places
unfolding first_touch_places
places_go_on = record {
  end = λ schema reads h. none_left by_place schema reads (length h) (length h) h refl;
  entry = λ schema reads h e s le. left_entry by_place schema reads s (length h + 1) s h e le (omega arith);
  front = λ schema reads h more s c e. left_front by_place schema reads s s h more c e;
  none = λ schema reads h more s e. left_none by_place schema reads s s h more e;
}
