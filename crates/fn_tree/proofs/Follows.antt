-- What goes on a text of a production stands in the table of what follows; parts that one token tells apart.
use Rattle.std.proofs.Common.{List, ◌∷◌, ◌≡◌, refl, ap, subst, ◌⊎◌, inl, inr, Bool, true, false}
use Rattle.fn_tree.specs.declared.lexeme.Lexeme.{Lexeme}
use Rattle.fn_tree.specs.declared.lexeme.Terminal.{Terminal}
use Rattle.fn_tree.specs.Rules.{Rule}
use Rattle.fn_tree.specs.Grammar.{Prod, Parse, Takes, Reads, Bound, Less}
use Rattle.fn_tree.specs.Grammar.Prod.{token, empty, seq, alt, turns, rule}
use Rattle.fn_tree.specs.Grammar.Parse.{leaf, none, in_left, in_right}
use Rattle.fn_tree.specs.Grammar.Takes.{one, nothing, both, left, right, stop, turn, call}
use Rattle.fn_tree.specs.Grammar.Reads.{none_yet, the_token, in_first, in_next, in_one, in_other, in_turn, in_later, in_call}
use Rattle.fn_tree.specs.Grammar.Less.{one_less, no_less}
use Rattle.fn_tree.specs.Fronts.{Ends, same, before, NoClash}
use Rattle.fn_tree.proofs.Fronts.{ends_trans, ends_full, takes_ends, not_behind}
use Rattle.fn_tree.proofs.Tables.{Tables, Sound, nil, starts, follows, at_head, head_map, head_not, takes_nil, reads_nil}
use Rattle.fn_tree.proofs.Tokens.{or, and, no, or_left, or_right, and_both, and_first, and_next, each, not_true, true_or_false}

-- two texts end at one place, or the shorter one is gone on from by a token of f
pub data Meets (f : Terminal → Bool) : List Lexeme → List Lexeme → Type 0 where
  level : {r : List Lexeme} → Meets f r r
  short : {r k : List Lexeme} → Ends k r → at_head f r → Meets f r k
  long : {r k : List Lexeme} → Ends r k → at_head f k → Meets f r k

-- no token that goes on a text of p begins q
abbrev pub Apart : Tables → Prod → Prod → Type 0
Apart s p q = each (λ k. no (and (follows s p k) (starts s q k))) ≡ true

-- no token begins both
abbrev pub Away : Tables → Prod → Prod → Type 0
Away s p q = each (λ k. no (and (starts s p k) (starts s q k))) ≡ true

-- two alternatives that more than one token decides
pub record Cross (g : Rule → Prod) (s : Tables) (p q : Prod) : Type 0 where
  pub texts : (a b : Parse) (ts r k : List Lexeme) → Takes g p a ts r → Takes g q b ts k → Meets (follows s (alt p q)) r k
  pub ahead : (a : Parse) (ts r l : List Lexeme) → Takes g p a ts r → Reads g q ts l → Ends r l ⊎ at_head (follows s (alt p q)) r
  pub back : (b : Parse) (ts r l : List Lexeme) → Takes g q b ts r → Reads g p ts l → Ends r l ⊎ at_head (follows s (alt p q)) r
  pub one : (a b : Parse) (ts r : List Lexeme) → Takes g p a ts r → Takes g q b ts r → ⊥

-- the names that are spoken of
abbrev pub Named : Type 0
Named = Rule → Bool

-- each part is told apart from what may follow it by one token, or crosses
abbrev pub Good : (Rule → Prod) → Tables → Named → Prod → Type 0
Good g s d (token f) = Unit {0}
Good g s d empty = Unit {0}
Good g s d (seq p q) = Good g s d p × Good g s d q × Apart s p q
Good g s d (alt p q) = Good g s d p × Good g s d q × (Away s p q ⊎ Cross g s p q)
Good g s d (turns n p) = Good g s d p × Apart s p p × (nil s p ≡ false)
Good g s d (rule i) = d i ≡ true

-- each of these productions is told apart, and the table holds what follows
pub record Decided (g : Rule → Prod) (s : Tables) (d : Named) : Type 0 where
  pub sound : Sound g s
  pub after : (i : Rule) (k : Terminal) → follows s (g i) k ≡ true → s.after i k ≡ true
  pub decided : (i : Rule) → d i ≡ true → Good g s d (g i)

-- the same by a test, for productions whose alternatives one token tells apart
abbrev pub decided : Tables → Named → Prod → Bool
decided s d (token f) = true
decided s d empty = true
decided s d (seq p q) = and (and (decided s d p) (decided s d q)) (each (λ k. no (and (follows s p k) (starts s q k))))
decided s d (alt p q) = and (and (decided s d p) (decided s d q)) (each (λ k. no (and (starts s p k) (starts s q k))))
decided s d (turns n p) = and (and (decided s d p) (each (λ k. no (and (follows s p k) (starts s p k))))) (no (nil s p))
decided s d (rule i) = d i

pub good : (g : Rule → Prod) (s : Tables) (d : Named) (p : Prod) → decided s d p ≡ true → Good g s d p
good g s d (token f) h = tt
good g s d empty h = tt
good g s d (seq p q) h =
    let k = and_first (and (decided s d p) (decided s d q)) _ h in
    (good g s d p (and_first _ _ k), good g s d q (and_next _ _ k), and_next (and (decided s d p) (decided s d q)) _ h)
good g s d (alt p q) h =
    let k = and_first (and (decided s d p) (decided s d q)) _ h in
    (good g s d p (and_first _ _ k), good g s d q (and_next _ _ k), inl (and_next (and (decided s d p) (decided s d q)) _ h))
good g s d (turns n p) h =
    let k = and_first (and (decided s d p) (each (λ k. no (and (follows s p k) (starts s p k))))) (no (nil s p)) h in
    (good g s d p (and_first _ _ k), and_next (decided s d p) _ k, not_true (nil s p) (and_next (and (decided s d p) (each (λ k. no (and (follows s p k) (starts s p k))))) (no (nil s p)) h))
good g s d (rule i) h = h

meets_map : {f h : Terminal → Bool} {r k : List Lexeme} → ((k : Terminal) → f k ≡ true → h k ≡ true) → Meets f r k → Meets h r k
meets_map m level = level
meets_map {f = f} {h = h} m (short {r = r} e x) = short e (head_map f h m r x)
meets_map {f = f} {h = h} m (long {k = k} e x) = long e (head_map f h m k x)

apart : (s : Tables) (p q : Prod) → Apart s p q → (ts : List Lexeme) → at_head (follows s p) ts → at_head (starts s q) ts → ⊥
apart s p q d ts = head_not (follows s p) (starts s q) d ts

other : (s : Tables) (p q : Prod) → Away s p q → (ts : List Lexeme) → at_head (starts s p) ts → at_head (starts s q) ts → ⊥
other s p q d ts = head_not (starts s p) (starts s q) d ts

-- what follows the last of two parts follows both, and what follows the first, where the last may be nothing
last_follows : (s : Tables) (p q : Prod) (k : Terminal) → follows s q k ≡ true → follows s (seq p q) k ≡ true
last_follows s p q k h = or_left (follows s q k) _ h

first_follows : (s : Tables) (p q : Prod) → nil s q ≡ true → (k : Terminal) → follows s p k ≡ true → follows s (seq p q) k ≡ true
first_follows s p q n k h = or_right (follows s q k) _ (and_both _ _ n h)

-- the second part after the place where the first is gone on from
stuck : {r : List Lexeme} (s : Tables) (p q : Prod) → Apart s p q → (m : List Lexeme) → at_head (follows s p) m → Ends r m → (Ends m r × (nil s q ≡ true)) ⊎ at_head (starts s q) m → at_head (follows s (seq p q)) r
stuck s p q d m x e (inr y) = absurd (apart s p q d m x y)
stuck s p q d m x e (inl y) = subst (λ (z : List Lexeme). at_head (follows s (seq p q)) z) (ends_full y.0 e) (head_map (follows s p) (follows s (seq p q)) (first_follows s p q y.1) m x)

level_of : {f : Terminal → Bool} {a b : List Lexeme} → a ≡ b → Meets f a b
level_of {f = f} {a = a} e = subst (λ (z : List Lexeme). Meets f a z) e level

-- one alternative and another
cross : {ts r k : List Lexeme} (s : Tables) (p q : Prod) → Away s p q → Ends r ts → Ends k ts → (Ends ts r × (nil s p ≡ true)) ⊎ at_head (starts s p) ts → (Ends ts k × (nil s q ≡ true)) ⊎ at_head (starts s q) ts → Meets (follows s (alt p q)) r k
cross {ts = ts} s p q d e f (inr x) (inr y) = absurd (other s p q d ts x y)
cross s p q d e f (inl x) (inl y) = level_of (ends_full (ends_trans e y.0) (ends_trans f x.0))
cross {ts = ts} {r = r} s p q d e f (inl x) (inr y) = short (ends_trans f x.0) (subst (λ (z : List Lexeme). at_head (follows s (alt p q)) z) (ends_full x.0 e) (head_map (starts s q) (follows s (alt p q)) (λ k h. or_right (or (follows s p k) (follows s q k)) _ (or_left _ _ (and_both _ _ x.1 h))) ts y))
cross {ts = ts} s p q d e f (inr x) (inl y) = long (ends_trans e y.0) (subst (λ (z : List Lexeme). at_head (follows s (alt p q)) z) (ends_full y.0 f) (head_map (starts s p) (follows s (alt p q)) (λ k h. or_right (or (follows s p k) (follows s q k)) _ (or_right (and (nil s p) (starts s q k)) _ (and_both _ _ y.1 h))) ts x))

turned : {f : Terminal → Bool} {r k : List Lexeme} → Meets f r k → Meets f k r
turned level = level
turned (short e x) = long e x
turned (long e x) = short e x

lr : {g : Rule → Prod} {s : Tables} {p q : Prod} {a b : Parse} {ts r k : List Lexeme} → Sound g s → Away s p q ⊎ Cross g s p q → Takes g p a ts r → Takes g q b ts k → Meets (follows s (alt p q)) r k
lr {s = s} {p = p} {q = q} w (inl d) t v = cross s p q d (takes_ends t) (takes_ends v) (takes_nil w t) (takes_nil w v)
lr {a = a} {b = b} {ts = ts} {r = r} {k = k} w (inr x) t v = x.texts a b ts r k t v

one_level : {g : Rule → Prod} {f j : Terminal → Bool} {b : Parse} {c : Lexeme} {ts k : List Lexeme} → Takes g (token j) b (c ∷ ts) k → Meets f ts k
one_level (one h) = level

one_ends : {g : Rule → Prod} {j : Terminal → Bool} {c : Lexeme} {ts k : List Lexeme} → Reads g (token j) (c ∷ ts) k → Ends ts k
one_ends none_yet = before same
one_ends (the_token h) = same

reads_empty : {g : Rule → Prod} {ts l : List Lexeme} → Reads g empty ts l → Ends ts l
reads_empty none_yet = same

one_less_alone : {n i j : Bound} → Less j n → Less i n → i ≡ j
one_less_alone one_less one_less = refl
one_less_alone no_less no_less = refl

-- a turn begins what may follow the turns before it
begun : {ts m : List Lexeme} (s : Tables) (p : Prod) (n : Bound) → nil s p ≡ false → (Ends ts m × (nil s p ≡ true)) ⊎ at_head (starts s p) ts → at_head (follows s (turns n p)) ts
begun s p n z (inl x) = absurd (true_or_false _ x.1 z)
begun {ts = ts} s p n z (inr x) = head_map (starts s p) (follows s (turns n p)) (λ k h. or_left _ _ h) ts x

-- the further turns after the place where a turn is gone on from
stuck_turn : {r : List Lexeme} (s : Tables) (p : Prod) (n : Bound) → Apart s p p → (m : List Lexeme) → at_head (follows s p) m → Ends r m → (Ends m r × (true ≡ true)) ⊎ at_head (starts s p) m → at_head (follows s (turns n p)) r
stuck_turn s p n d m x e (inr y) = absurd (apart s p p d m x y)
stuck_turn s p n d m x e (inl y) = subst (λ (z : List Lexeme). at_head (follows s (turns n p)) z) (ends_full y.0 e) (head_map (follows s p) (follows s (turns n p)) (λ k h. or_right (starts s p k) _ h) m x)

pub texts_meet : {g : Rule → Prod} {s : Tables} {d : Named} {p : Prod} {a b : Parse} {ts r k : List Lexeme} → Decided g s d → Good g s d p → Takes g p a ts r → Takes g p b ts k → Meets (follows s p) r k
texts_meet w d (one h) v = one_level v
texts_meet w d nothing nothing = level
texts_meet {s = s} w d (both {p = p} {q = q} {m = m} t u) (both {m = n} v x) =
    go s p q d.2 w (takes_ends u) (takes_ends x) (takes_nil w.sound u) (takes_nil w.sound x) (λ y. texts_meet w d.1 u y) x (texts_meet w d.0 t v)
  where
    go : {g : Rule → Prod} {o : Named} {b : Parse} {m n r k : List Lexeme} (s : Tables) (p q : Prod) → Apart s p q → Decided g s o → Ends r m → Ends k n → (Ends m r × (nil s q ≡ true)) ⊎ at_head (starts s q) m → (Ends n k × (nil s q ≡ true)) ⊎ at_head (starts s q) n → (Takes g q b m k → Meets (follows s q) r k) → Takes g q b n k → Meets (follows s p) m n → Meets (follows s (seq p q)) r k
    go s p q d w e f y z ih x level = meets_map (last_follows s p q) (ih x)
    go {m = m} s p q d w e f (inr y) z ih x (short h j) = absurd (apart s p q d m j y)
    go {m = m} s p q d w e f (inl y) z ih x (short h j) = short (ends_trans f (ends_trans h y.0)) (stuck s p q d m j e (inl y))
    go {n = n} s p q d w e f y (inr z) ih x (long h j) = absurd (apart s p q d n j z)
    go {n = n} s p q d w e f y (inl z) ih x (long h j) = long (ends_trans e (ends_trans h z.0)) (stuck s p q d n j f (inl z))
texts_meet {s = s} w d (left {p = p} {q = q} t) (left v) = meets_map (λ k h. or_left _ _ (or_left (follows s p k) (follows s q k) h)) (texts_meet w d.0 t v)
texts_meet {s = s} w d (left {p = p} {q = q} t) (right v) = lr w.sound d.2 t v
texts_meet {s = s} w d (right {p = p} {q = q} t) (left v) = turned (lr w.sound d.2 v t)
texts_meet {s = s} w d (right {p = p} {q = q} t) (right v) = meets_map (λ k h. or_left _ _ (or_right (follows s p k) _ h)) (texts_meet w d.1 t v)
texts_meet w d stop stop = level
texts_meet {s = s} w d stop (turn {n = n} {p = p} l v x) = short (takes_ends (turn l v x)) (begun s p n d.2 (takes_nil w.sound v))
texts_meet {s = s} w d (turn {n = n} {p = p} l t u) stop = long (takes_ends (turn l t u)) (begun s p n d.2 (takes_nil w.sound t))
texts_meet {s = s} w d (turn {n = n} {k = j} {p = p} {m = m} l t u) (turn {k = i} {m = o} h v x) =
    go s p n j i d.1 d.2 (one_less_alone l h) (takes_ends u) (takes_ends x) (takes_nil w.sound u) (takes_nil w.sound x) (λ y. texts_meet w d u y) x (texts_meet w d.0 t v)
  where
    go : {g : Rule → Prod} {b : Parse} {m o r k : List Lexeme} (s : Tables) (p : Prod) (n j i : Bound) → Apart s p p → nil s p ≡ false → i ≡ j → Ends r m → Ends k o → (Ends m r × (true ≡ true)) ⊎ at_head (starts s p) m → (Ends o k × (true ≡ true)) ⊎ at_head (starts s p) o → (Takes g (turns j p) b m k → Meets (follows s (turns j p)) r k) → Takes g (turns i p) b o k → Meets (follows s p) m o → Meets (follows s (turns n p)) r k
    go {g = g} {b = b} {m = m} {k = k} s p n j i d c q e f y z ih x level = meets_map (λ q h. h) (ih (subst (λ (w : Bound). Takes g (turns w p) b m k) q x))
    go {m = m} s p n j i d c q e f (inr y) z ih x (short h a) = absurd (apart s p p d m a y)
    go {m = m} s p n j i d c q e f (inl y) z ih x (short h a) = short (ends_trans f (ends_trans h y.0)) (stuck_turn s p n d m a e (inl y))
    go {o = o} s p n j i d c q e f y (inr z) ih x (long h a) = absurd (apart s p p d o a z)
    go {o = o} s p n j i d c q e f y (inl z) ih x (long h a) = long (ends_trans e (ends_trans h z.0)) (stuck_turn s p n d o a f (inl z))
texts_meet {s = s} w d (call {i = i} t) (call v) = meets_map (w.after i) (texts_meet w (w.decided i d) t v)

-- A front goes no further than a text, or past it by a token of the table.
pub front_meets : {g : Rule → Prod} {s : Tables} {d : Named} {p : Prod} {a : Parse} {ts r l : List Lexeme} → Decided g s d → Good g s d p → Takes g p a ts r → Reads g p ts l → Ends r l ⊎ at_head (follows s p) r
front_meets w d (one h) v = inl (one_ends v)
front_meets w d nothing v = inl (reads_empty v)
front_meets {s = s} w d (both {p = p} {q = q} {m = m} t u) (in_first v) = go s p q d.2 (takes_ends u) (takes_nil w.sound u) (front_meets w d.0 t v)
  where
    go : {m r l : List Lexeme} (s : Tables) (p q : Prod) → Apart s p q → Ends r m → (Ends m r × (nil s q ≡ true)) ⊎ at_head (starts s q) m → Ends m l ⊎ at_head (follows s p) m → Ends r l ⊎ at_head (follows s (seq p q)) r
    go s p q d e y (inl h) = inl (ends_trans e h)
    go {m = m} s p q d e y (inr h) = inr (stuck s p q d m h e y)
front_meets {s = s} w d (both {p = p} {q = q} {m = m} t u) (in_next {m = n} v x) =
    go s p q d.2 w (takes_ends u) (takes_nil w.sound u) (reads_nil w.sound x) (λ y. front_meets w d.1 u y) x (texts_meet w d.0 t v)
  where
    go : {g : Rule → Prod} {o : Named} {m n r l : List Lexeme} (s : Tables) (p q : Prod) → Apart s p q → Decided g s o → Ends r m → (Ends m r × (nil s q ≡ true)) ⊎ at_head (starts s q) m → Ends n l ⊎ at_head (starts s q) n → (Reads g q m l → Ends r l ⊎ at_head (follows s q) r) → Reads g q n l → Meets (follows s p) m n → Ends r l ⊎ at_head (follows s (seq p q)) r
    go {r = r} {l = l} s p q d w e y z ih x level = on (ih x)
      where
        on : Ends r l ⊎ at_head (follows s q) r → Ends r l ⊎ at_head (follows s (seq p q)) r
        on (inl h) = inl h
        on (inr h) = inr (head_map (follows s q) (follows s (seq p q)) (last_follows s p q) r h)
    go {m = m} s p q d w e y z ih x (short h j) = inr (stuck s p q d m j e y)
    go s p q d w e y (inl z) ih x (long h j) = inl (ends_trans e (ends_trans h z))
    go {n = n} s p q d w e y (inr z) ih x (long h j) = absurd (apart s p q d n j z)
front_meets {s = s} w d (left {p = p} {q = q} {r = r} t) (in_one {r = l} v) = go (front_meets w d.0 t v)
  where
    go : Ends r l ⊎ at_head (follows s p) r → Ends r l ⊎ at_head (follows s (alt p q)) r
    go (inl h) = inl h
    go (inr h) = inr (head_map (follows s p) (follows s (alt p q)) (λ k y. or_left _ _ (or_left (follows s p k) (follows s q k) y)) r h)
front_meets {s = s} w d (right {p = p} {q = q} {r = r} t) (in_other {r = l} v) = go (front_meets w d.1 t v)
  where
    go : Ends r l ⊎ at_head (follows s q) r → Ends r l ⊎ at_head (follows s (alt p q)) r
    go (inl h) = inl h
    go (inr h) = inr (head_map (follows s q) (follows s (alt p q)) (λ k y. or_left _ _ (or_right (follows s p k) _ y)) r h)
front_meets {g = g} {s = s} w d (left {p = p} {q = q} {a = a} {ts = ts} {r = r} t) (in_other {r = l} v) = pick d.2
  where
    go : {ts r l : List Lexeme} (s : Tables) (p q : Prod) → Away s p q → Ends r ts → (Ends ts r × (nil s p ≡ true)) ⊎ at_head (starts s p) ts → Ends ts l ⊎ at_head (starts s q) ts → Ends r l ⊎ at_head (follows s (alt p q)) r
    go s p q d e x (inl y) = inl (ends_trans e y)
    go {ts = ts} s p q d e (inr x) (inr y) = absurd (other s p q d ts x y)
    go {ts = ts} s p q d e (inl x) (inr y) = inr (subst (λ (z : List Lexeme). at_head (follows s (alt p q)) z) (ends_full x.0 e) (head_map (starts s q) (follows s (alt p q)) (λ k h. or_right (or (follows s p k) (follows s q k)) _ (or_left _ _ (and_both _ _ x.1 h))) ts y))

    pick : Away s p q ⊎ Cross g s p q → Ends r l ⊎ at_head (follows s (alt p q)) r
    pick (inl x) = go s p q x (takes_ends t) (takes_nil w.sound t) (reads_nil w.sound v)
    pick (inr x) = x.ahead a ts r l t v
front_meets {g = g} {s = s} w d (right {p = p} {q = q} {a = a} {ts = ts} {r = r} t) (in_one {r = l} v) = pick d.2
  where
    go : {ts r l : List Lexeme} (s : Tables) (p q : Prod) → Away s p q → Ends r ts → (Ends ts r × (nil s q ≡ true)) ⊎ at_head (starts s q) ts → Ends ts l ⊎ at_head (starts s p) ts → Ends r l ⊎ at_head (follows s (alt p q)) r
    go s p q d e x (inl y) = inl (ends_trans e y)
    go {ts = ts} s p q d e (inr x) (inr y) = absurd (other s p q d ts y x)
    go {ts = ts} s p q d e (inl x) (inr y) = inr (subst (λ (z : List Lexeme). at_head (follows s (alt p q)) z) (ends_full x.0 e) (head_map (starts s p) (follows s (alt p q)) (λ k h. or_right (or (follows s p k) (follows s q k)) _ (or_right (and (nil s p) (starts s q k)) _ (and_both _ _ x.1 h))) ts y))

    pick : Away s p q ⊎ Cross g s p q → Ends r l ⊎ at_head (follows s (alt p q)) r
    pick (inl x) = go s p q x (takes_ends t) (takes_nil w.sound t) (reads_nil w.sound v)
    pick (inr x) = x.back a ts r l t v
front_meets w d (both t u) none_yet = inl (takes_ends (both t u))
front_meets w d (left t) none_yet = inl (takes_ends t)
front_meets w d (right t) none_yet = inl (takes_ends t)
front_meets w d (call t) none_yet = inl (takes_ends t)
front_meets w d stop none_yet = inl same
front_meets w d (turn l t u) none_yet = inl (takes_ends (turn l t u))
front_meets {s = s} w d (stop {n = n} {p = p} {ts = ts}) (in_turn {r = r} h v) = go (reads_nil w.sound v)
  where
    go : Ends ts r ⊎ at_head (starts s p) ts → Ends ts r ⊎ at_head (follows s (turns n p)) ts
    go (inl e) = inl e
    go (inr e) = inr (head_map (starts s p) (follows s (turns n p)) (λ k h. or_left _ _ h) ts e)
front_meets {s = s} w d (stop {n = n} {p = p}) (in_later h v x) = inr (begun s p n d.2 (takes_nil w.sound v))
front_meets {s = s} w d (turn {n = n} {p = p} {m = m} l t u) (in_turn h v) = go s p n d.1 (takes_ends u) (takes_nil w.sound u) (front_meets w d.0 t v)
  where
    go : {m r l : List Lexeme} (s : Tables) (p : Prod) (n : Bound) → Apart s p p → Ends r m → (Ends m r × (true ≡ true)) ⊎ at_head (starts s p) m → Ends m l ⊎ at_head (follows s p) m → Ends r l ⊎ at_head (follows s (turns n p)) r
    go s p n d e y (inl h) = inl (ends_trans e h)
    go {m = m} s p n d e y (inr h) = inr (stuck_turn s p n d m h e y)
front_meets {s = s} w d (turn {n = n} {k = j} {p = p} {m = m} l t u) (in_later {k = i} {m = o} h v x) =
    go s p n j i d.1 (one_less_alone l h) (takes_ends u) (takes_nil w.sound u) (reads_nil w.sound x) (λ y. front_meets w d u y) x (texts_meet w d.0 t v)
  where
    go : {g : Rule → Prod} {m o r l : List Lexeme} (s : Tables) (p : Prod) (n j i : Bound) → Apart s p p → i ≡ j → Ends r m → (Ends m r × (true ≡ true)) ⊎ at_head (starts s p) m → Ends o l ⊎ at_head (starts s p) o → (Reads g (turns j p) m l → Ends r l ⊎ at_head (follows s (turns j p)) r) → Reads g (turns i p) o l → Meets (follows s p) m o → Ends r l ⊎ at_head (follows s (turns n p)) r
    go {g = g} {m = m} {r = r} {l = l} s p n j i d q e y z ih x level = on (ih (subst (λ (w : Bound). Reads g (turns w p) m l) q x))
      where
        on : Ends r l ⊎ at_head (follows s (turns j p)) r → Ends r l ⊎ at_head (follows s (turns n p)) r
        on (inl h) = inl h
        on (inr h) = inr (head_map (follows s (turns j p)) (follows s (turns n p)) (λ q a. a) r h)
    go {m = m} s p n j i d q e y z ih x (short h a) = inr (stuck_turn s p n d m a e y)
    go s p n j i d q e y (inl z) ih x (long h a) = inl (ends_trans e (ends_trans h z))
    go {o = o} s p n j i d q e y (inr z) ih x (long h a) = absurd (apart s p p d o a z)
front_meets {g = g} {s = s} w d (call {i = i} {r = r} t) (in_call {r = l} v) = go (front_meets w (w.decided i d) t v)
  where
    go : Ends r l ⊎ at_head (follows s (g i)) r → Ends r l ⊎ at_head (s.after i) r
    go (inl h) = inl h
    go (inr h) = inr (head_map (follows s (g i)) (s.after i) (w.after i) r h)

-- where the test passes, two parts don't clash
pub no_clash : {g : Rule → Prod} {s : Tables} {d : Named} {p q : Prod} → Decided g s d → Good g s d p → Apart s p q → NoClash g p q
no_clash {s = s} {p = p} {q = q} w o d = record { apart = λ a ts c l t f u. meet s p q w o d t f u }
  where
    both_ways : {c : Lexeme} {l : List Lexeme} (s : Tables) (p q : Prod) → Apart s p q → Ends (c ∷ l) l ⊎ at_head (follows s p) (c ∷ l) → Ends (c ∷ l) l ⊎ at_head (starts s q) (c ∷ l) → ⊥
    both_ways s p q d (inl x) y = not_behind x
    both_ways s p q d (inr x) (inl y) = not_behind y
    both_ways {c = c} {l = l} s p q d (inr x) (inr y) = apart s p q d (c ∷ l) x y

    meet : {g : Rule → Prod} {z : Named} {a : Parse} {ts : List Lexeme} {c : Lexeme} {l : List Lexeme} (s : Tables) (p q : Prod) → Decided g s z → Good g s z p → Apart s p q → Takes g p a ts (c ∷ l) → Reads g p ts l → Reads g q (c ∷ l) l → ⊥
    meet s p q w o d t f u = both_ways s p q d (front_meets w o t f) (reads_nil w.sound u)

-- One list of tokens has at most one tree.
same_middle : {m n r : List Lexeme} (s : Tables) (p q : Prod) → Apart s p q → Ends r m → Ends r n → (Ends m r × (nil s q ≡ true)) ⊎ at_head (starts s q) m → (Ends n r × (nil s q ≡ true)) ⊎ at_head (starts s q) n → Meets (follows s p) m n → n ≡ m
same_middle s p q d e f y z level = refl
same_middle {m = m} s p q d e f (inr y) z (short h j) = absurd (apart s p q d m j y)
same_middle s p q d e f (inl y) z (short h j) = ends_full h (ends_trans y.0 f)
same_middle {n = n} s p q d e f y (inr z) (long h j) = absurd (apart s p q d n j z)
same_middle s p q d e f y (inl z) (long h j) = ends_full (ends_trans z.0 e) h

one_leaf : {g : Rule → Prod} {j : Terminal → Bool} {b : Parse} {c : Lexeme} {ts k : List Lexeme} → Takes g (token j) b (c ∷ ts) k → leaf c ≡ b
one_leaf (one h) = refl

-- an empty text
pub takes_same : {g : Rule → Prod} {s : Tables} {p : Prod} {a : Parse} {ts r : List Lexeme} → Sound g s → Takes g p a ts r → Ends ts r → nil s p ≡ true
takes_same w (one h) e = absurd (not_behind e)
takes_same w nothing e = refl
takes_same w (both t u) e = and_both _ _ (takes_same w t (ends_trans e (takes_ends u))) (takes_same w u (ends_trans (takes_ends t) e))
takes_same w (left t) e = or_left _ _ (takes_same w t e)
takes_same w (right t) e = or_right _ _ (takes_same w t e)
takes_same w stop e = refl
takes_same w (turn l t u) e = refl
takes_same w (call {i = i} t) e = w.nil i (takes_same w t e)

-- no two alternatives may both be nothing
abbrev pub single : Tables → Prod → Bool
single s (token f) = true
single s empty = true
single s (seq p q) = and (single s p) (single s q)
single s (alt p q) = and (and (single s p) (single s q)) (no (and (nil s p) (nil s q)))
single s (turns n p) = single s p
single s (rule i) = true

no_two : (a b : Bool) → no (and a b) ≡ true → a ≡ true → b ≡ true → ⊥
no_two true true h k l = absurd (cc)
no_two true false h k l = absurd (cc)
no_two false b h k l = absurd (cc)

not_both : {g : Rule → Prod} {a b : Parse} {ts r : List Lexeme} (s : Tables) (p q : Prod) → Sound g s → Away s p q → no (and (nil s p) (nil s q)) ≡ true → Takes g p a ts r → Takes g q b ts r → (Ends ts r × (nil s p ≡ true)) ⊎ at_head (starts s p) ts → (Ends ts r × (nil s q ≡ true)) ⊎ at_head (starts s q) ts → ⊥
not_both s p q w d n t v (inl x) y = no_two _ _ n x.1 (takes_same w v x.0)
not_both s p q w d n t v (inr x) (inl y) = no_two _ _ n (takes_same w t y.0) y.1
not_both {ts = ts} s p q w d n t v (inr x) (inr y) = other s p q d ts x y

no_leaf : {g : Rule → Prod} {b : Parse} {ts r : List Lexeme} → Takes g empty b ts r → none ≡ b
no_leaf nothing = refl

nb : {g : Rule → Prod} {a b : Parse} {ts r : List Lexeme} (s : Tables) (p q : Prod) → Sound g s → Away s p q ⊎ Cross g s p q → no (and (nil s p) (nil s q)) ≡ true → Takes g p a ts r → Takes g q b ts r → (Ends ts r × (nil s p ≡ true)) ⊎ at_head (starts s p) ts → (Ends ts r × (nil s q ≡ true)) ⊎ at_head (starts s q) ts → ⊥
nb s p q w (inl d) n t v x y = not_both s p q w d n t v x y
nb {a = a} {b = b} {ts = ts} {r = r} s p q w (inr c) n t v x y = c.one a b ts r t v

only_stop : {g : Rule → Prod} {s : Tables} {n : Bound} {p : Prod} {b : Parse} {ts r : List Lexeme} → Sound g s → nil s p ≡ false → Takes g (turns n p) b ts r → Ends ts r → none ≡ b
only_stop w z stop e = refl
only_stop w z (turn l v x) e = absurd (true_or_false _ (takes_same w v (ends_trans e (takes_ends x))) z)

pub one_tree : {g : Rule → Prod} {s : Tables} {d : Named} {p : Prod} {a b : Parse} {ts r : List Lexeme} → Decided g s d → ((i : Rule) → single s (g i) ≡ true) → Good g s d p → single s p ≡ true → Takes g p a ts r → Takes g p b ts r → a ≡ b
one_tree w z d n (one h) v = one_leaf v
one_tree w z d n nothing v = no_leaf v
one_tree {g = g} {s = s} w z d n (both {p = p} {q = q} {a = a} {b = b} {ts = ts} {m = m} {r = r} t u) (both {a = a'} {b = b'} {m = k} v x) =
    let e = same_middle s p q d.2 (takes_ends u) (takes_ends x) (takes_nil w.sound u) (takes_nil w.sound x) (texts_meet w d.0 t v) in
    let h : a ≡ a' = one_tree w z d.0 (and_first (single s p) (single s q) n) t (subst (λ (y : List Lexeme). Takes g p a' ts y) e v) in
    let k : b ≡ b' = one_tree w z d.1 (and_next (single s p) (single s q) n) u (subst (λ (y : List Lexeme). Takes g q b' y r) e x) in
    cc
one_tree {s = s} w z d n (left {p = p} {q = q} t) (left v) = ap in_left (one_tree w z d.0 (and_first (single s p) (single s q) (and_first (and (single s p) (single s q)) (no (and (nil s p) (nil s q))) n)) t v)
one_tree {s = s} w z d n (right {p = p} {q = q} t) (right v) = ap in_right (one_tree w z d.1 (and_next (single s p) (single s q) (and_first (and (single s p) (single s q)) (no (and (nil s p) (nil s q))) n)) t v)
one_tree {s = s} w z d n (left {p = p} {q = q} t) (right v) = absurd (nb s p q w.sound d.2 (and_next (and (single s p) (single s q)) (no (and (nil s p) (nil s q))) n) t v (takes_nil w.sound t) (takes_nil w.sound v))
one_tree {s = s} w z d n (right {p = p} {q = q} t) (left v) = absurd (nb s p q w.sound d.2 (and_next (and (single s p) (single s q)) (no (and (nil s p) (nil s q))) n) v t (takes_nil w.sound v) (takes_nil w.sound t))
one_tree w z d n stop v = only_stop w.sound d.2 v same
one_tree w z d n (turn l t u) stop = absurd (true_or_false _ (takes_same w.sound t (takes_ends u)) d.2)
one_tree {g = g} {s = s} w z d n (turn {k = j} {p = p} {a = a} {b = b} {ts = ts} {m = m} {r = r} l t u) (turn {k = i} {a = a'} {b = b'} {m = o} h v x) =
    let e = same_middle s p (turns j p) d.1 (takes_ends u) (takes_ends x) (takes_nil w.sound u) (takes_nil w.sound x) (texts_meet w d.0 t v) in
    let q = one_less_alone l h in
    let h1 : a ≡ a' = one_tree w z d.0 n t (subst (λ (y : List Lexeme). Takes g p a' ts y) e v) in
    let x1 = subst (λ (y : List Lexeme). Takes g (turns i p) b' y r) e x in
    let k1 : b ≡ b' = one_tree w z d n u (subst (λ (y : Bound). Takes g (turns y p) b' m r) q x1) in
    cc
one_tree w z d n (call {i = i} t) (call v) = one_tree w z (w.decided i d) (z i) t v
