-- The entry of a session's request in a log with one entry more.
use Rattle.std.proofs.Common.{◌≡◌, ℕ, suc, ◌+◌, Bool, true, false, ◌&&◌, nat_eq, cond, List, [], ◌∷◌, ◌++◌, length, Option, Some, None, refl, sym, ap, ◌∙◌, arith}
use Rattle.std.specs.Prelude.{option_map}
use Rattle.std.specs.Option.{option_or}
use Rattle.std.proofs.lemmas.Bool.{and_parts, eqb-true}
use Rattle.fn_tree.specs.Course.{Reply}
use Rattle.fn_tree.specs.EntryViews.{entry_view}
use Rattle.fn_tree.specs.History.{Entry, History}
use Rattle.cv_store.specs.Kept.{is_of, kept}
use Rattle.cv_store.proofs.KeptLaws.{kept_with_entry}
use Rattle.cv_log.specs.Logs.{entries_in, timestamp_of}
use Rattle.cv_log.specs.declared.touch.Marked.{Marked}

-- where the entry's own request isn't there before
pub timestamp_end : (session request n : ℕ) (h : History) (e : Entry) → n ≡ length h + 1 → kept e.call.session e.call.request h ≡ None
    → timestamp_of session request (h ++ e ∷ []) ≡ cond (nat_eq e.call.session session && nat_eq e.call.request request) (Some n) (timestamp_of session request h)
timestamp_end session request n h e p none =
    ap (λ k. option_map (λ q. q.0) k) (kept_with_entry session request h e)
    ∙ ap (λ (k : ℕ). option_map (λ q. q.0) (option_or (kept session request h) (cond (is_of session request e) (Some (k, e.reply)) None))) (sym p)
    ∙ go (is_of session request e) refl
  where
    gone : (b : Bool) → is_of session request e ≡ b → b ≡ true → kept session request h ≡ None
    gone b f t =
        let parts = and_parts (nat_eq e.call.session session) (nat_eq e.call.request request) (f ∙ t) in
        let s : e.call.session ≡ session = eqb-true e.call.session session parts.0 in
        let r : e.call.request ≡ request = eqb-true e.call.request request parts.1 in
        ap (λ (k : ℕ). kept k request h) (sym s) ∙ ap (λ (k : ℕ). kept e.call.session k h) (sym r) ∙ none

    go : (b : Bool) → is_of session request e ≡ b
        → option_map (λ q. q.0) (option_or (kept session request h) (cond b (Some (n, e.reply)) None)) ≡ cond b (Some n) (timestamp_of session request h)
    go true f = ap (λ k. option_map (λ q. q.0) (option_or k (Some (n, e.reply)))) (gone true f refl)
    go false f = kept_or (kept session request h)
      where
        kept_or : (k : Option (ℕ × Reply)) → option_map (λ q. q.0) (option_or k None) ≡ option_map (λ q. q.0) k
        kept_or None = refl
        kept_or (Some k) = refl

pub entries_end : (ms : List Marked) (m : Marked) → entries_in (ms ++ m ∷ []) ≡ entries_in ms ++ entry_view m.entry ∷ []
entries_end [] m = refl
entries_end (x ∷ ms) m = ap (λ h. entry_view x.entry ∷ h) (entries_end ms m)

pub length_entries : (ms : List Marked) → length (entries_in ms) ≡ length ms
length_entries [] = refl
length_entries (x ∷ ms) = ap (λ (n : ℕ). suc n) (length_entries ms)

-- no timestamp, no entry
pub kept_none : (session request : ℕ) (h : History) → timestamp_of session request h ≡ None → kept session request h ≡ None
kept_none session request h t = go (kept session request h) refl
  where
    go : (o : Option (ℕ × Reply)) → kept session request h ≡ o → kept session request h ≡ None
    go None q = q
    go (Some k) q = let f : ◌≡◌ {A = Option ℕ} (Some k.0) None = ap (option_map (λ (p : ℕ × Reply). p.0)) (sym q) ∙ t in cc
