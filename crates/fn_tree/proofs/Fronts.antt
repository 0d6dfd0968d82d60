-- Fronts of any grammar: they are closed, and the furthest one composes.
use Rattle.std.proofs.Common.{◌≤◌, length, arith, subst, List, ◌∷◌, ◌≡◌, refl, ◌⊎◌, inl, inr}
use Rattle.fn_tree.specs.declared.lexeme.Lexeme.{Lexeme}
use Rattle.fn_tree.specs.Rules.{Rule}
use Rattle.fn_tree.specs.Grammar.{Prod, Parse, Takes, Reads, Bound, Less}
use Rattle.fn_tree.specs.Grammar.Prod.{token, empty, seq, turns}
use Rattle.fn_tree.specs.Grammar.Parse.{pair}
use Rattle.fn_tree.specs.Grammar.Takes.{one, nothing, both, left, right, stop, turn, call}
use Rattle.fn_tree.specs.Grammar.Reads.{none_yet, the_token, in_first, in_next, in_one, in_other, in_turn, in_later, in_call}
use Rattle.fn_tree.specs.Fronts.{Ends, same, before, Finds, Fails, NoClash}

pub ends_trans : {a b d : List Lexeme} → Ends a b → Ends b d → Ends a d
ends_trans e same = e
ends_trans e (before f) = before (ends_trans e f)

pub takes_ends : {g : Rule → Prod} {p : Prod} {a : Parse} {ts r : List Lexeme} → Takes g p a ts r → Ends r ts
takes_ends (one e) = before same
takes_ends nothing = same
takes_ends (both t u) = ends_trans (takes_ends u) (takes_ends t)
takes_ends (left t) = takes_ends t
takes_ends (right t) = takes_ends t
takes_ends stop = same
takes_ends (turn l t u) = ends_trans (takes_ends u) (takes_ends t)
takes_ends (call t) = takes_ends t

pub reads_ends : {g : Rule → Prod} {p : Prod} {ts r : List Lexeme} → Reads g p ts r → Ends r ts
reads_ends none_yet = same
reads_ends (the_token e) = before same
reads_ends (in_first t) = reads_ends t
reads_ends (in_next t u) = ends_trans (reads_ends u) (takes_ends t)
reads_ends (in_one t) = reads_ends t
reads_ends (in_other t) = reads_ends t
reads_ends (in_turn l t) = reads_ends t
reads_ends (in_later l t u) = ends_trans (reads_ends u) (takes_ends t)
reads_ends (in_call t) = reads_ends t

-- a whole text is a front
pub takes_reads : {g : Rule → Prod} {p : Prod} {a : Parse} {ts r : List Lexeme} → Takes g p a ts r → Reads g p ts r
takes_reads (one e) = the_token e
takes_reads nothing = none_yet
takes_reads (both t u) = in_next t (takes_reads u)
takes_reads (left t) = in_one (takes_reads t)
takes_reads (right t) = in_other (takes_reads t)
takes_reads stop = none_yet
takes_reads (turn l t u) = in_later l t (takes_reads u)
takes_reads (call t) = in_call (takes_reads t)

-- of two ends of one list one is an end of the other
pub compare : {a b ts : List Lexeme} → Ends a ts → Ends b ts → Ends a b ⊎ Ends b a
compare same f = inr f
compare (before e) same = inl (before e)
compare (before e) (before f) = compare e f

pub ends_length : {a b : List Lexeme} → Ends a b → length a ≤ length b
ends_length same = omega arith
ends_length (before e) = let h : _ = ends_length e in grind arith

pub ends_full : {a b : List Lexeme} → Ends a b → Ends b a → a ≡ b
ends_full same f = refl
ends_full (before {c = c} {m = m} {ts = ts} e) f =
    let h = ends_length e in let k = ends_length f in absurd (grind arith)

pub not_behind : {c : Lexeme} {ts : List Lexeme} → Ends (c ∷ ts) ts → ⊥
not_behind e = let h = ends_length e in grind arith

split : {g : Rule → Prod} {p q : Prod} {a : Parse} {ts k m : List Lexeme} → Takes g p a ts k → (Ends m k → Reads g q k m) → (Ends k m → Reads g p ts m) → Ends m k ⊎ Ends k m → Reads g (seq p q) ts m
split t later early (inl h) = in_next t (later h)
split t later early (inr h) = in_first (early h)

split_turn : {g : Rule → Prod} {n j : Bound} {p : Prod} {a : Parse} {ts k m : List Lexeme} → Less j n → Takes g p a ts k → (Ends m k → Reads g (turns j p) k m) → (Ends k m → Reads g p ts m) → Ends m k ⊎ Ends k m → Reads g (turns n p) ts m
split_turn l t later early (inl h) = in_later l t (later h)
split_turn l t later early (inr h) = in_turn l (early h)

-- where a front goes further, each list up to there is a front
pub takes_close : {g : Rule → Prod} {p : Prod} {a : Parse} {ts r m : List Lexeme} → Takes g p a ts r → Ends r m → Ends m ts → Reads g p ts m
takes_close (one h) e same = none_yet
takes_close {g = g} (one {f = t} {c = c} {ts = ts} h) e (before f) = subst (λ (x : List Lexeme). Reads g (token t) (c ∷ ts) x) (ends_full e f) (the_token h)
takes_close {g = g} (nothing {ts = ts}) e f = subst (λ (x : List Lexeme). Reads g empty ts x) (ends_full e f) none_yet
takes_close (both t u) e f = split t (λ h. takes_close u e h) (λ h. takes_close t h f) (compare f (takes_ends t))
takes_close (left t) e f = in_one (takes_close t e f)
takes_close (right t) e f = in_other (takes_close t e f)
takes_close {g = g} (stop {n = n} {p = p} {ts = ts}) e f = subst (λ (x : List Lexeme). Reads g (turns n p) ts x) (ends_full e f) none_yet
takes_close (turn l t u) e f = split_turn l t (λ h. takes_close u e h) (λ h. takes_close t h f) (compare f (takes_ends t))
takes_close (call t) e f = in_call (takes_close t e f)

pub reads_close : {g : Rule → Prod} {p : Prod} {ts r m : List Lexeme} → Reads g p ts r → Ends r m → Ends m ts → Reads g p ts m
reads_close {g = g} (none_yet {p = p} {ts = ts}) e f = subst (λ (x : List Lexeme). Reads g p ts x) (ends_full e f) none_yet
reads_close (the_token h) e same = none_yet
reads_close {g = g} (the_token {f = t} {c = c} {ts = ts} h) e (before f) = subst (λ (x : List Lexeme). Reads g (token t) (c ∷ ts) x) (ends_full e f) (the_token h)
reads_close (in_first t) e f = in_first (reads_close t e f)
reads_close (in_next t u) e f = split t (λ h. reads_close u e h) (λ h. takes_close t h f) (compare f (takes_ends t))
reads_close (in_one t) e f = in_one (reads_close t e f)
reads_close (in_other t) e f = in_other (reads_close t e f)
reads_close (in_turn l t) e f = in_turn l (reads_close t e f)
reads_close (in_later l t u) e f = split_turn l t (λ h. reads_close u e h) (λ h. takes_close t h f) (compare f (takes_ends t))
reads_close (in_call t) e f = in_call (reads_close t e f)

-- A text of the first part that ends before the parser's one can't be followed by the second part.
clash : {g : Rule → Prod} {p q : Prod} {a : Parse} {c : Lexeme} {ts k m r : List Lexeme} → NoClash g p q → Reads g p ts r → Ends r k → Takes g p a ts (c ∷ k) → Reads g q (c ∷ k) m → Ends m k → ⊥
clash {a = a} {c = c} {ts = ts} {k = k} n f e t u h =
    n.apart a ts c k t (reads_close f e (ends_trans (before same) (takes_ends t))) (reads_close u h (before same))

-- the furthest front of two parts, where the first part is found up to m
seq_last : {g : Rule → Prod} {p q : Prod} {a : Parse} {ts m r l : List Lexeme} → NoClash g p q → Finds g p a ts m → Ends r m → ((l : List Lexeme) → Reads g q m l → Ends r l) → Reads g (seq p q) ts l → Ends r l
seq_last n f e h none_yet = ends_trans e (takes_ends f.takes)
seq_last {l = l} n f e h (in_first t) = ends_trans e (f.last l t)
seq_last {g = g} {p = p} {q = q} {a = a} {ts = ts} {m = m} {r = r} n f e h (in_next {m = k} t u) = go n f e h t u (f.last k (takes_reads t))
  where
    past : {g : Rule → Prod} {p q : Prod} {a b : Parse} {c : Lexeme} {ts k m r l : List Lexeme} → NoClash g p q → Finds g p a ts m → Ends r m → Takes g p b ts (c ∷ k) → Reads g q (c ∷ k) l → Ends m k → Ends l (c ∷ k) → Ends r l
    past n f e t u d same = ends_trans e (before d)
    past n f e t u d (before b) = absurd (clash n (takes_reads f.takes) d t u b)

    go : {g : Rule → Prod} {p q : Prod} {a b : Parse} {ts k m r l : List Lexeme} → NoClash g p q → Finds g p a ts m → Ends r m → ((l : List Lexeme) → Reads g q m l → Ends r l) → Takes g p b ts k → Reads g q k l → Ends m k → Ends r l
    go {l = l} n f e h t u same = h l u
    go n f e h t u (before d) = past n f e t u d (reads_ends u)

pub seq_finds : {g : Rule → Prod} {p q : Prod} {a b : Parse} {ts m r : List Lexeme} → NoClash g p q → Finds g p a ts m → Finds g q b m r → Finds g (seq p q) (pair a b) ts r
seq_finds n f h = record { takes = both f.takes h.takes; last = λ l. λ x. seq_last n f (takes_ends h.takes) h.last x }

pub seq_fails_next : {g : Rule → Prod} {p q : Prod} {a : Parse} {ts m r : List Lexeme} → NoClash g p q → Finds g p a ts m → Fails g q m r → Fails g (seq p q) ts r
seq_fails_next n f h = record { reads = in_next f.takes h.reads; last = λ l. λ x. seq_last n f (reads_ends h.reads) h.last x; none = λ b. λ x. go n f h x }
  where
    at : {g : Rule → Prod} {p q : Prod} {a b d : Parse} {ts k m r : List Lexeme} → NoClash g p q → Finds g p a ts m → Fails g q m r → Takes g p b ts k → Takes g q d k r → Ends m k → ⊥
    at {d = d} n f h t u same = h.none d u
    at n f h t u (before e) = clash n (takes_reads f.takes) e t (takes_reads u) (ends_trans (reads_ends h.reads) e)

    go : {g : Rule → Prod} {p q : Prod} {a b : Parse} {ts m r : List Lexeme} → NoClash g p q → Finds g p a ts m → Fails g q m r → Takes g (seq p q) b ts r → ⊥
    go n f h (both {m = k} t u) = at n f h t u (f.last k (takes_reads t))

pub seq_fails : {g : Rule → Prod} {p q : Prod} {ts r : List Lexeme} → NoClash g p q → Fails g p ts r → Fails g (seq p q) ts r
seq_fails n f = record { reads = in_first f.reads; last = λ l. λ x. go n f x; none = λ b. λ x. all n f x }
  where
    past : {g : Rule → Prod} {p q : Prod} {b : Parse} {c : Lexeme} {ts k r l : List Lexeme} → NoClash g p q → Fails g p ts r → Takes g p b ts (c ∷ k) → Reads g q (c ∷ k) l → Ends r k → Ends l (c ∷ k) → Ends r l
    past n f t u d same = before d
    past n f t u d (before b) = absurd (clash n f.reads d t u b)

    at : {g : Rule → Prod} {p q : Prod} {b : Parse} {ts k r l : List Lexeme} → NoClash g p q → Fails g p ts r → Takes g p b ts k → Reads g q k l → Ends r k → Ends r l
    at {b = b} n f t u same = absurd (f.none b t)
    at n f t u (before d) = past n f t u d (reads_ends u)

    go : {g : Rule → Prod} {p q : Prod} {ts r l : List Lexeme} → NoClash g p q → Fails g p ts r → Reads g (seq p q) ts l → Ends r l
    go n f none_yet = reads_ends f.reads
    go {l = l} n f (in_first t) = f.last l t
    go n f (in_next {m = k} t u) = at n f t u (f.last k (takes_reads t))

    end : {g : Rule → Prod} {p q : Prod} {b d : Parse} {ts k r : List Lexeme} → NoClash g p q → Fails g p ts r → Takes g p b ts k → Takes g q d k r → Ends r k → ⊥
    end {b = b} n f t u same = f.none b t
    end n f t u (before e) = clash n f.reads e t (takes_reads u) e

    all : {g : Rule → Prod} {p q : Prod} {b : Parse} {ts r : List Lexeme} → NoClash g p q → Fails g p ts r → Takes g (seq p q) b ts r → ⊥
    all n f (both {m = k} t u) = end n f t u (f.last k (takes_reads t))
