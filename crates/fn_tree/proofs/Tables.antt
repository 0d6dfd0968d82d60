-- What begins a production, what goes on a text of it, and what its first token must be.
use Rattle.std.proofs.Common.{List, [], ◌∷◌, ◌≡◌, refl, subst, ◌⊎◌, inl, inr, Bool, true, false}
use Rattle.fn_tree.specs.declared.lexeme.Lexeme.{Lexeme}
use Rattle.fn_tree.specs.declared.lexeme.Terminal.{Terminal}
use Rattle.fn_tree.specs.Rules.{Rule}
use Rattle.fn_tree.specs.Grammar.{Prod, Parse, Takes, Reads, Bound}
use Rattle.fn_tree.specs.Grammar.Prod.{token, empty, seq, alt, turns, rule}
use Rattle.fn_tree.specs.Grammar.Takes.{one, nothing, both, left, right, stop, turn, call}
use Rattle.fn_tree.specs.Grammar.Reads.{none_yet, the_token, in_first, in_next, in_one, in_other, in_turn, in_later, in_call}
use Rattle.fn_tree.specs.Fronts.{Ends, same}
use Rattle.fn_tree.proofs.Fronts.{ends_trans, ends_full, takes_ends}
use Rattle.fn_tree.proofs.Tokens.{or, and, no, or_left, or_right, and_both, no_false, each, at_each}

-- for each name: may its production be nothing, what begins it, what goes on a text of it
pub record Tables : Type 0 where
  pub nil : Rule → Bool
  pub first : Rule → Terminal → Bool
  pub after : Rule → Terminal → Bool

abbrev pub nil : Tables → Prod → Bool
nil s (token f) = false
nil s empty = true
nil s (seq p q) = and (nil s p) (nil s q)
nil s (alt p q) = or (nil s p) (nil s q)
nil s (turns n p) = true
nil s (rule i) = s.nil i

abbrev pub starts : Tables → Prod → Terminal → Bool
starts s (token f) k = f k
starts s empty k = false
starts s (seq p q) k = or (starts s p k) (and (nil s p) (starts s q k))
starts s (alt p q) k = or (starts s p k) (starts s q k)
starts s (turns n p) k = starts s p k
starts s (rule i) k = s.first i k

abbrev pub follows : Tables → Prod → Terminal → Bool
follows s (token f) k = false
follows s empty k = false
follows s (seq p q) k = or (follows s q k) (and (nil s q) (follows s p k))
follows s (alt p q) k = or (or (follows s p k) (follows s q k)) (or (and (nil s p) (starts s q k)) (and (nil s q) (starts s p k)))
follows s (turns n p) k = or (starts s p k) (follows s p k)
follows s (rule i) k = s.after i k

abbrev pub at_head : (Terminal → Bool) → List Lexeme → Type 0
at_head f [] = ⊥
at_head f (c ∷ ts) = f c.terminal ≡ true

pub head_map : (f h : Terminal → Bool) → ((k : Terminal) → f k ≡ true → h k ≡ true) → (ts : List Lexeme) → at_head f ts → at_head h ts
head_map f h m [] x = x
head_map f h m (c ∷ ts) x = m c.terminal x

pub head_not : (f h : Terminal → Bool) → each (λ k. no (and (f k) (h k))) ≡ true → (ts : List Lexeme) → at_head f ts → at_head h ts → ⊥
head_not f h e [] x y = x
head_not f h e (c ∷ ts) x y = no_false _ _ (at_each (λ k. no (and (f k) (h k))) e c.terminal) x y

-- the tables hold what the productions give, and each production is decided
pub record Sound (g : Rule → Prod) (s : Tables) : Type 0 where
  pub nil : (i : Rule) → nil s (g i) ≡ true → s.nil i ≡ true
  pub first : (i : Rule) (k : Terminal) → starts s (g i) k ≡ true → s.first i k ≡ true

-- A text that isn't empty begins with a token that begins the production.
pub takes_nil : {g : Rule → Prod} {s : Tables} {p : Prod} {a : Parse} {ts r : List Lexeme} → Sound g s → Takes g p a ts r → (Ends ts r × (nil s p ≡ true)) ⊎ at_head (starts s p) ts
takes_nil w (one h) = inr h
takes_nil w nothing = inl (same, refl)
takes_nil {s = s} w (both {p = p} {q = q} t u) = go s p q (takes_ends t) (takes_nil w t) (takes_nil w u)
  where
    go : {ts m r : List Lexeme} (s : Tables) (p q : Prod) → Ends m ts → (Ends ts m × (nil s p ≡ true)) ⊎ at_head (starts s p) ts → (Ends m r × (nil s q ≡ true)) ⊎ at_head (starts s q) m → (Ends ts r × (nil s (seq p q) ≡ true)) ⊎ at_head (starts s (seq p q)) ts
    go {ts = ts} s p q e (inr x) y = inr (head_map (starts s p) (starts s (seq p q)) (λ k h. or_left (starts s p k) _ h) ts x)
    go s p q e (inl x) (inl y) = inl (ends_trans x.0 y.0, and_both _ _ x.1 y.1)
    go {ts = ts} s p q e (inl x) (inr y) = inr (head_map (starts s q) (starts s (seq p q)) (λ k h. or_right (starts s p k) _ (and_both _ _ x.1 h)) ts (subst (λ (z : List Lexeme). at_head (starts s q) z) (ends_full e x.0) y))
takes_nil {s = s} w (left {p = p} {q = q} {ts = ts} {r = r} t) = go (takes_nil w t)
  where
    go : (Ends ts r × (nil s p ≡ true)) ⊎ at_head (starts s p) ts → (Ends ts r × (nil s (alt p q) ≡ true)) ⊎ at_head (starts s (alt p q)) ts
    go (inl x) = inl (x.0, or_left _ _ x.1)
    go (inr x) = inr (head_map (starts s p) (starts s (alt p q)) (λ k h. or_left _ _ h) ts x)
takes_nil {s = s} w (right {p = p} {q = q} {ts = ts} {r = r} t) = go (takes_nil w t)
  where
    go : (Ends ts r × (nil s q ≡ true)) ⊎ at_head (starts s q) ts → (Ends ts r × (nil s (alt p q) ≡ true)) ⊎ at_head (starts s (alt p q)) ts
    go (inl x) = inl (x.0, or_right _ _ x.1)
    go (inr x) = inr (head_map (starts s q) (starts s (alt p q)) (λ k h. or_right _ _ h) ts x)
takes_nil w stop = inl (same, refl)
takes_nil {s = s} w (turn {n = n} {p = p} l t u) = go s p n (takes_ends t) (takes_nil w t) (takes_nil w u)
  where
    go : {ts m r : List Lexeme} (s : Tables) (p : Prod) (n : Bound) → Ends m ts → (Ends ts m × (nil s p ≡ true)) ⊎ at_head (starts s p) ts → (Ends m r × (true ≡ true)) ⊎ at_head (starts s p) m → (Ends ts r × (true ≡ true)) ⊎ at_head (starts s p) ts
    go s p n e (inr x) y = inr x
    go s p n e (inl x) (inl y) = inl (ends_trans x.0 y.0, refl)
    go s p n e (inl x) (inr y) = inr (subst (λ (z : List Lexeme). at_head (starts s p) z) (ends_full e x.0) y)
takes_nil {g = g} {s = s} w (call {i = i} {ts = ts} {r = r} t) = go (takes_nil w t)
  where
    go : (Ends ts r × (nil s (g i) ≡ true)) ⊎ at_head (starts s (g i)) ts → (Ends ts r × (s.nil i ≡ true)) ⊎ at_head (s.first i) ts
    go (inl x) = inl (x.0, w.nil i x.1)
    go (inr x) = inr (head_map (starts s (g i)) (s.first i) (w.first i) ts x)

-- So does a front that isn't empty.
pub reads_nil : {g : Rule → Prod} {s : Tables} {p : Prod} {ts r : List Lexeme} → Sound g s → Reads g p ts r → Ends ts r ⊎ at_head (starts s p) ts
reads_nil w none_yet = inl same
reads_nil w (the_token h) = inr h
reads_nil {s = s} w (in_first {p = p} {q = q} {ts = ts} {r = r} t) = go (reads_nil w t)
  where
    go : Ends ts r ⊎ at_head (starts s p) ts → Ends ts r ⊎ at_head (starts s (seq p q)) ts
    go (inl x) = inl x
    go (inr x) = inr (head_map (starts s p) (starts s (seq p q)) (λ k h. or_left (starts s p k) _ h) ts x)
reads_nil {s = s} w (in_next {p = p} {q = q} t u) = go s p q (takes_ends t) (takes_nil w t) (reads_nil w u)
  where
    go : {ts m r : List Lexeme} (s : Tables) (p q : Prod) → Ends m ts → (Ends ts m × (nil s p ≡ true)) ⊎ at_head (starts s p) ts → Ends m r ⊎ at_head (starts s q) m → Ends ts r ⊎ at_head (starts s (seq p q)) ts
    go {ts = ts} s p q e (inr x) y = inr (head_map (starts s p) (starts s (seq p q)) (λ k h. or_left (starts s p k) _ h) ts x)
    go s p q e (inl x) (inl y) = inl (ends_trans x.0 y)
    go {ts = ts} s p q e (inl x) (inr y) = inr (head_map (starts s q) (starts s (seq p q)) (λ k h. or_right (starts s p k) _ (and_both _ _ x.1 h)) ts (subst (λ (z : List Lexeme). at_head (starts s q) z) (ends_full e x.0) y))
reads_nil {s = s} w (in_one {p = p} {q = q} {ts = ts} {r = r} t) = go (reads_nil w t)
  where
    go : Ends ts r ⊎ at_head (starts s p) ts → Ends ts r ⊎ at_head (starts s (alt p q)) ts
    go (inl x) = inl x
    go (inr x) = inr (head_map (starts s p) (starts s (alt p q)) (λ k h. or_left _ _ h) ts x)
reads_nil {s = s} w (in_other {p = p} {q = q} {ts = ts} {r = r} t) = go (reads_nil w t)
  where
    go : Ends ts r ⊎ at_head (starts s q) ts → Ends ts r ⊎ at_head (starts s (alt p q)) ts
    go (inl x) = inl x
    go (inr x) = inr (head_map (starts s q) (starts s (alt p q)) (λ k h. or_right _ _ h) ts x)
reads_nil {s = s} w (in_turn l t) = reads_nil w t
reads_nil {s = s} w (in_later {p = p} l t u) = go s p (takes_ends t) (takes_nil w t) (reads_nil w u)
  where
    go : {ts m r : List Lexeme} (s : Tables) (p : Prod) → Ends m ts → (Ends ts m × (nil s p ≡ true)) ⊎ at_head (starts s p) ts → Ends m r ⊎ at_head (starts s p) m → Ends ts r ⊎ at_head (starts s p) ts
    go s p e (inr x) y = inr x
    go s p e (inl x) (inl y) = inl (ends_trans x.0 y)
    go s p e (inl x) (inr y) = inr (subst (λ (z : List Lexeme). at_head (starts s p) z) (ends_full e x.0) y)
reads_nil {g = g} {s = s} w (in_call {i = i} {ts = ts} {r = r} t) = go (reads_nil w t)
  where
    go : Ends ts r ⊎ at_head (starts s (g i)) ts → Ends ts r ⊎ at_head (s.first i) ts
    go (inl x) = inl x
    go (inr x) = inr (head_map (starts s (g i)) (s.first i) (w.first i) ts x)

-- nothing begins at a token that doesn't begin the production
pub shut_at : {g : Rule → Prod} {s : Tables} {p : Prod} {c : Lexeme} {ts l : List Lexeme} → Sound g s → starts s p c.terminal ≡ false → Reads g p (c ∷ ts) l → Ends (c ∷ ts) l
shut_at {s = s} {p = p} {c = c} {ts = ts} w h x = go (reads_nil w x)
  where
    go : {l : List Lexeme} → Ends (c ∷ ts) l ⊎ (starts s p c.terminal ≡ true) → Ends (c ∷ ts) l
    go (inl e) = e
    go (inr e) = absurd (cc)
