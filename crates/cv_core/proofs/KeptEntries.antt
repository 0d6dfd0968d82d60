-- The entry of a session's request, by its timestamp.
use Rattle.std.proofs.Common.{◌≡◌, ℕ, suc, ◌+◌, Bool, true, false, cond, [], ◌∷◌, Option, Some, None, refl, sym, ap, ◌∙◌, arith}
use Rattle.std.specs.Prelude.{option_map, slice_get}
use Rattle.fn_tree.specs.Course.{Reply}
use Rattle.fn_tree.specs.History.{Entry, History}
use Rattle.cv_store.specs.Kept.{is_of, kept_after, kept}
use Rattle.cv_log.specs.Logs.{entry_at, timestamp_of}

-- where what is kept stands
record StandsAt (n : ℕ) (h : History) (k : ℕ × Reply) : Type 0 where
  place : ℕ
  entry : Entry
  number : k.0 ≡ n + suc place
  there : slice_get h place ≡ Some entry
  reply : k.1 ≡ entry.reply

stands_at : (session request n : ℕ) (h : History) (k : ℕ × Reply) → kept_after session request n h ≡ Some k → StandsAt n h k
stands_at session request n [] k e = cc
stands_at session request n (f ∷ h) k e = go (is_of session request f) (stands_at session request (n + 1) h k) e
  where
    go : (b : Bool) → (kept_after session request (n + 1) h ≡ Some k → StandsAt (n + 1) h k) → cond b (Some (n + 1, f.reply)) (kept_after session request (n + 1) h) ≡ Some k → StandsAt n (f ∷ h) k
    go true ih q =
        let same : ◌≡◌ {A = ℕ × Reply} (n + 1, f.reply) k = cc in
        let number : n + 1 ≡ k.0 = ap (λ (p : ℕ × Reply). p.0) same in
        record { place = 0; entry = f; number = omega (arith, number); there = refl; reply = sym (ap (λ (p : ℕ × Reply). p.1) same) }
    go false ih q =
        let s = ih q in
        record { place = suc s.place; entry = s.entry; number = omega (arith, s.number); there = s.there; reply = s.reply }

pub kept_found : (session request ts : ℕ) (h : History) (e : Entry) → timestamp_of session request h ≡ Some ts → entry_at ts h ≡ Some e → kept session request h ≡ Some (ts, e.reply)
unfolding kept
kept_found session request ts h e t at = go (kept session request h) refl
  where
    go : (o : Option (ℕ × Reply)) → kept session request h ≡ o → kept session request h ≡ Some (ts, e.reply)
    go None q = let f : ◌≡◌ {A = Option ℕ} None (Some ts) = ap (option_map (λ (k : ℕ × Reply). k.0)) (sym q) ∙ t in cc
    go (Some k) q =
        let s = stands_at session request 0 h k q in
        let first : ◌≡◌ {A = Option ℕ} (Some k.0) (Some ts) = ap (option_map (λ (k : ℕ × Reply). k.0)) (sym q) ∙ t in
        let number : k.0 ≡ ts = cc in
        let place : ts ≡ suc s.place = omega (arith, number, s.number) in
        let entries : ◌≡◌ {A = Option Entry} (Some s.entry) (Some e) = sym s.there ∙ sym (ap (λ (n : ℕ). entry_at n h) place) ∙ at in
        let same : s.entry ≡ e = cc in
        let pair : k ≡ (ts, e.reply) = λ i. (number i, (s.reply ∙ ap (λ (x : Entry). x.reply) same) i) in
        q ∙ ap Some pair

pub kept_there : (session request ts : ℕ) (h : History) → timestamp_of session request h ≡ Some ts → entry_at ts h ≡ None → ⊥
unfolding kept
kept_there session request ts h t none = go (kept session request h) refl
  where
    go : (o : Option (ℕ × Reply)) → kept session request h ≡ o → ⊥
    go None q = let f : ◌≡◌ {A = Option ℕ} None (Some ts) = ap (option_map (λ (k : ℕ × Reply). k.0)) (sym q) ∙ t in cc
    go (Some k) q =
        let s = stands_at session request 0 h k q in
        let first : ◌≡◌ {A = Option ℕ} (Some k.0) (Some ts) = ap (option_map (λ (k : ℕ × Reply). k.0)) (sym q) ∙ t in
        let number : k.0 ≡ ts = cc in
        let place : ts ≡ suc s.place = omega (arith, number, s.number) in
        let f : ◌≡◌ {A = Option Entry} (Some s.entry) None = sym s.there ∙ sym (ap (λ (n : ℕ). entry_at n h) place) ∙ none in cc

-- no timestamp, no entry
pub kept_none : (session request : ℕ) (h : History) → timestamp_of session request h ≡ None → kept session request h ≡ None
kept_none session request h t = go (kept session request h) refl
  where
    go : (o : Option (ℕ × Reply)) → kept session request h ≡ o → kept session request h ≡ None
    go None q = q
    go (Some k) q = let f : ◌≡◌ {A = Option ℕ} (Some k.0) None = ap (option_map (λ (k : ℕ × Reply). k.0)) (sym q) ∙ t in cc
