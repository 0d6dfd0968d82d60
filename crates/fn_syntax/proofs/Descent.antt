-- How a descent goes on, step by step: what the rest of a production finds or misses, the whole does.
use Rattle.std.proofs.Common.{◌≤◌, ◌<◌, length, arith, List, [], ◌∷◌, ◌≡◌, refl, sym, subst, Bool, true, false}
use Rattle.fn_tree.specs.declared.lexeme.Lexeme.{Lexeme}
use Rattle.fn_tree.specs.declared.lexeme.Terminal.{Terminal}
use Rattle.fn_tree.specs.Fronts.{Ends, same, before, Finds, Fails, NoClash}
use Rattle.fn_tree.specs.Grammar.{Prod, Parse, Takes, Reads, Bound, Less, opt}
use Rattle.fn_tree.specs.Grammar.Bound.{up_to}
use Rattle.fn_tree.specs.Grammar.Less.{one_less, no_less}
use Rattle.fn_tree.specs.Grammar.Parse.{leaf, none, pair, in_left, in_right}
use Rattle.fn_tree.specs.Grammar.Prod.{token, empty, seq, alt, turns, rule}
use Rattle.fn_tree.specs.Grammar.Takes.{one, nothing, both, left, right, stop, turn, call}
use Rattle.fn_tree.specs.Grammar.Reads.{none_yet, the_token, in_first, in_next, in_one, in_other, in_turn, in_later, in_call}
use Rattle.fn_tree.specs.Language.{grammar}
use Rattle.fn_tree.specs.Rules.{Rule}
use Rattle.fn_tree.proofs.Fronts.{ends_trans, ends_full, ends_length, takes_ends, reads_ends, takes_reads, seq_finds, seq_fails, seq_fails_next, not_behind}
use Rattle.fn_tree.proofs.LanguageTables.{tables, sound}
use Rattle.fn_tree.proofs.Tables.{nil, starts, shut_at}
use Rattle.fn_tree.proofs.Follows.{takes_same}
use Rattle.fn_tree.specs.Terminals.{is}
use Rattle.fn_tree.proofs.Tokens.{true_or_false, same_is}

-- what the second production does at the rest, the first does at the list; f makes its parse
pub record Makes (p : Prod) (f : Parse → Parse) (ts : List Lexeme) (q : Prod) (rest : List Lexeme) : Type 0 where
  pub found : (a : Parse) (r : List Lexeme) → Finds grammar q a rest r → Finds grammar p (f a) ts r
  pub fails : (r : List Lexeme) → Fails grammar q rest r → Fails grammar p ts r

pub makes_same : {p : Prod} {ts : List Lexeme} → Makes p (λ a. a) ts p ts
makes_same = record { found = λ a r x. x; fails = λ r x. x }

pub makes_on : {p q o : Prod} {f h : Parse → Parse} {ts m k : List Lexeme} → Makes p f ts q m → Makes q h m o k → Makes p (λ a. f (h a)) ts o k
makes_on {h = h} x y = record { found = λ a r z. x.found (h a) r (y.found a r z); fails = λ r z. x.fails r (y.fails r z) }

pub makes_next : {p q : Prod} {b : Parse} {ts m : List Lexeme} → NoClash grammar p q → Finds grammar p b ts m → Makes (seq p q) (λ a. pair b a) ts q m
makes_next n f = record { found = λ a r h. seq_finds n f h; fails = λ r h. seq_fails_next n f h }

call_last : {i : Rule} {ts r l : List Lexeme} → Ends r ts → ((l : List Lexeme) → Reads grammar (grammar i) ts l → Ends r l) → Reads grammar (rule i) ts l → Ends r l
call_last e h none_yet = e
call_last {l = l} e h (in_call t) = h l t

call_none : {i : Rule} {a : Parse} {ts r : List Lexeme} → ((a : Parse) → Takes grammar (grammar i) a ts r → ⊥) → Takes grammar (rule i) a ts r → ⊥
call_none {a = a} h (call t) = h a t

pub makes_call : (i : Rule) {ts : List Lexeme} → Makes (rule i) (λ a. a) ts (grammar i) ts
makes_call i = record {
  found = λ a r f. record { takes = call f.takes; last = λ l x. call_last (takes_ends f.takes) f.last x };
  fails = λ r f. record { reads = in_call f.reads; last = λ l x. call_last (reads_ends f.reads) f.last x; none = λ a x. call_none f.none x };
}

-- one part found, then the rest
pub then : {p q o : Prod} {f : Parse → Parse} {b : Parse} {ts m k : List Lexeme} → Makes p f ts (seq q o) m → NoClash grammar q o → Finds grammar q b m k → Makes p (λ a. f (pair b a)) ts o k
then x n h = makes_on x (makes_next n h)

-- one part missed
pub misses : {p q o : Prod} {f : Parse → Parse} {ts m r : List Lexeme} → Makes p f ts (seq q o) m → NoClash grammar q o → Fails grammar q m r → Fails grammar p ts r
misses {r = r} x n h = x.fails r (seq_fails n h)

-- ---- alternatives

alt_last : {p q : Prod} {ts r l : List Lexeme} → Ends r ts → ((l : List Lexeme) → Reads grammar p ts l → Ends r l) → ((l : List Lexeme) → Reads grammar q ts l → Ends r l) → Reads grammar (alt p q) ts l → Ends r l
alt_last e h k none_yet = e
alt_last {l = l} e h k (in_one t) = h l t
alt_last {l = l} e h k (in_other t) = k l t

alt_none : {p q : Prod} {a : Parse} {ts r : List Lexeme} → ((a : Parse) → Takes grammar p a ts r → ⊥) → ((a : Parse) → Takes grammar q a ts r → ⊥) → Takes grammar (alt p q) a ts r → ⊥
alt_none h k (left {a = b} t) = h b t
alt_none h k (right {a = b} t) = k b t

-- An alternative that reaches m, where no front of the other goes further and no text of it ends there.
pub makes_left_by : {p q : Prod} {ts m : List Lexeme} → Reads grammar p ts m → ((l : List Lexeme) → Reads grammar q ts l → Ends m l) → ((a : Parse) → Takes grammar q a ts m → ⊥) → Makes (alt p q) in_left ts p ts
makes_left_by {p = p} {q = q} {ts = ts} {m = m} x s n = record {
  found = λ a r f. record { takes = left f.takes; last = λ l y. alt_last (takes_ends f.takes) f.last (λ k h. ends_trans (f.last m x) (s k h)) y };
  fails = λ r f. record { reads = in_one f.reads; last = λ l y. alt_last (reads_ends f.reads) f.last (λ k h. ends_trans (f.last m x) (s k h)) y; none = λ a y. alt_none f.none (λ b z. at n (f.last m x) (s r (takes_reads z)) z) y };
}
  where
    at : {q : Prod} {a : Parse} {ts m r : List Lexeme} → ((a : Parse) → Takes grammar q a ts m → ⊥) → Ends r m → Ends m r → Takes grammar q a ts r → ⊥
    at {q = q} {a = a} {ts = ts} n e f z = n a (subst (λ (y : List Lexeme). Takes grammar q a ts y) (ends_full e f) z)

pub makes_right_by : {p q : Prod} {ts m : List Lexeme} → Reads grammar q ts m → ((l : List Lexeme) → Reads grammar p ts l → Ends m l) → ((a : Parse) → Takes grammar p a ts m → ⊥) → Makes (alt p q) in_right ts q ts
makes_right_by {p = p} {q = q} {ts = ts} {m = m} x s n = record {
  found = λ a r f. record { takes = right f.takes; last = λ l y. alt_last (takes_ends f.takes) (λ k h. ends_trans (f.last m x) (s k h)) f.last y };
  fails = λ r f. record { reads = in_other f.reads; last = λ l y. alt_last (reads_ends f.reads) (λ k h. ends_trans (f.last m x) (s k h)) f.last y; none = λ a y. alt_none (λ b z. at n (f.last m x) (s r (takes_reads z)) z) f.none y };
}
  where
    at : {q : Prod} {a : Parse} {ts m r : List Lexeme} → ((a : Parse) → Takes grammar q a ts m → ⊥) → Ends r m → Ends m r → Takes grammar q a ts r → ⊥
    at {q = q} {a = a} {ts = ts} n e f z = n a (subst (λ (y : List Lexeme). Takes grammar q a ts y) (ends_full e f) z)

no_text : {p : Prod} {a : Parse} {ts : List Lexeme} → nil tables p ≡ false → Takes grammar p a ts ts → ⊥
no_text h t = true_or_false _ (takes_same sound t same) h

-- the first token begins one alternative alone
pub makes_left : {p q : Prod} {c : Lexeme} {ts : List Lexeme} → starts tables q c.terminal ≡ false → nil tables q ≡ false → Makes (alt p q) in_left (c ∷ ts) p (c ∷ ts)
makes_left h k = makes_left_by none_yet (λ l x. shut_at sound h x) (λ a t. no_text k t)

pub makes_right : {p q : Prod} {c : Lexeme} {ts : List Lexeme} → starts tables p c.terminal ≡ false → nil tables p ≡ false → Makes (alt p q) in_right (c ∷ ts) q (c ∷ ts)
makes_right h k = makes_right_by none_yet (λ l x. shut_at sound h x) (λ a t. no_text k t)

-- nothing of it begins with the first token
pub shut : {p : Prod} {c : Lexeme} {ts : List Lexeme} → starts tables p c.terminal ≡ false → nil tables p ≡ false → Fails grammar p (c ∷ ts) (c ∷ ts)
shut h k = record { reads = none_yet; last = λ l x. shut_at sound h x; none = λ a t. no_text k t }

-- nothing of it begins at the end
pub shut_end : {p : Prod} → nil tables p ≡ false → Fails grammar p [] []
shut_end k = record { reads = none_yet; last = λ l x. at (reads_ends x); none = λ a t. no_text k t }
  where
    at : {l : List Lexeme} → Ends l [] → Ends [] l
    at same = same

-- ---- parts that may be left out

empty_shut : {ts l : List Lexeme} → Reads grammar empty ts l → Ends ts l
empty_shut none_yet = same

-- it begins
pub makes_in : {p : Prod} {ts m : List Lexeme} → Reads grammar p ts m → (Ends ts m → ⊥) → Makes (opt p) in_left ts p ts
makes_in {p = p} {ts = ts} {m = m} s n = record {
  found = λ a r f. record { takes = left f.takes; last = λ l x. alt_last (takes_ends f.takes) f.last (λ k h. ends_trans (takes_ends f.takes) (empty_shut h)) x };
  fails = λ r f. record { reads = in_one f.reads; last = λ l x. alt_last (reads_ends f.reads) f.last (λ k h. ends_trans (reads_ends f.reads) (empty_shut h)) x; none = λ a x. alt_none f.none (λ b y. at (f.last m s) n y) x };
}
  where
    at : {b : Parse} {ts m r : List Lexeme} → Ends r m → (Ends ts m → ⊥) → Takes grammar empty b ts r → ⊥
    at e n nothing = n e

-- it doesn't
pub left_out : {p : Prod} {ts : List Lexeme} → Fails grammar p ts ts → Finds grammar (opt p) (in_right none) ts ts
left_out s = record { takes = right nothing; last = λ l x. alt_last same s.last (λ k h. empty_shut h) x }

-- ---- turns

turn_last : {n k : Bound} {p : Prod} {ts r l : List Lexeme} → Less k n → Ends r ts → ((l : List Lexeme) → Reads grammar (seq p (turns k p)) ts l → Ends r l) → Reads grammar (turns n p) ts l → Ends r l
turn_last h e f none_yet = e
turn_last {l = l} h e f (in_turn g x) = f l (in_first x)
turn_last {p = p} {l = l} h e f (in_later {m = m} g t x) = f l (in_next t (subst (λ (b : Bound). Reads grammar (turns b p) m l) (same_less g h) x))
  where
    same_less : {n i j : Bound} → Less i n → Less j n → i ≡ j
    same_less one_less one_less = refl
    same_less no_less no_less = refl

turn_none : {n k : Bound} {p : Prod} {a : Parse} {ts m r : List Lexeme} → Less k n → ((a : Parse) → Takes grammar (seq p (turns k p)) a ts r → ⊥) → Ends r m → (Ends ts m → ⊥) → Takes grammar (turns n p) a ts r → ⊥
turn_none h f e w stop = w e
turn_none {p = p} {r = r} h f e w (turn {a = a} {b = b} {m = m} g t u) = f (pair a b) (both t (subst (λ (i : Bound). Takes grammar (turns i p) b m r) (same_less g h) u))
  where
    same_less : {n i j : Bound} → Less i n → Less j n → i ≡ j
    same_less one_less one_less = refl
    same_less no_less no_less = refl

turn_takes : {n k : Bound} {p : Prod} {a : Parse} {ts r : List Lexeme} → Less k n → Takes grammar (seq p (turns k p)) a ts r → Takes grammar (turns n p) a ts r
turn_takes h (both t u) = turn h t u

turn_reads : {n k : Bound} {p : Prod} {ts r : List Lexeme} → Less k n → Reads grammar (seq p (turns k p)) ts r → Reads grammar (turns n p) ts r
turn_reads h none_yet = none_yet
turn_reads h (in_first x) = in_turn h x
turn_reads h (in_next t x) = in_later h t x

-- a turn begins
pub makes_turn : {n k : Bound} {p : Prod} {ts m : List Lexeme} → Less k n → Reads grammar p ts m → (Ends ts m → ⊥) → Makes (turns n p) (λ a. a) ts (seq p (turns k p)) ts
makes_turn {m = m} h s w = record {
  found = λ a r f. record { takes = turn_takes h f.takes; last = λ l x. turn_last h (takes_ends f.takes) f.last x };
  fails = λ r f. record { reads = turn_reads h f.reads; last = λ l x. turn_last h (reads_ends f.reads) f.last x; none = λ a x. turn_none h f.none (f.last m (in_first s)) w x };
}

-- no further turn begins
pub turns_end : {n : Bound} {p : Prod} {ts : List Lexeme} → Fails grammar p ts ts → Finds grammar (turns n p) none ts ts
turns_end {n = n} {p = p} {ts = ts} f = record { takes = stop; last = λ l x. at f x }
  where
    at : {n : Bound} {p : Prod} {ts l : List Lexeme} → Fails grammar p ts ts → Reads grammar (turns n p) ts l → Ends ts l
    at f none_yet = same
    at {l = l} f (in_turn g x) = f.last l x
    at {p = p} {ts = ts} f (in_later {a = a} {m = m} g t x) = absurd (f.none a (subst (λ (z : List Lexeme). Takes grammar p a ts z) (ends_full (takes_ends t) (f.last m (takes_reads t))) t))

-- no further turn is allowed
pub turns_full : {p : Prod} {ts : List Lexeme} → Finds grammar (turns (up_to 0) p) none ts ts
turns_full = record { takes = stop; last = λ l x. at x }
  where
    at : {p : Prod} {ts l : List Lexeme} → Reads grammar (turns (up_to 0) p) ts l → Ends ts l
    at none_yet = same
    at (in_turn g x) = elim g [ ]
    at (in_later g t x) = elim g [ ]

-- ---- tokens

pub found_token : {f : Terminal → Bool} {c : Lexeme} {ts : List Lexeme} → f c.terminal ≡ true → Finds grammar (token f) (leaf c) (c ∷ ts) ts
found_token e = record { takes = one e; last = λ l x. at x }
  where
    at : {f : Terminal → Bool} {c : Lexeme} {ts l : List Lexeme} → Reads grammar (token f) (c ∷ ts) l → Ends ts l
    at none_yet = before same
    at (the_token h) = same

pub fails_token : {f : Terminal → Bool} {c : Lexeme} {ts : List Lexeme} → f c.terminal ≡ false → Fails grammar (token f) (c ∷ ts) (c ∷ ts)
fails_token e = shut e refl

pub fails_none : {p : Prod} (ts : List Lexeme) → nil tables p ≡ false → length ts ≡ 0 → Fails grammar p ts ts
fails_none [] k h = shut_end k
fails_none (c ∷ ts) k h = absurd (omega arith)

pub not_shorter : {a b : List Lexeme} → length b < length a → Ends a b → ⊥
not_shorter h e = let k = ends_length e in omega arith

pub finds_shorter : {p : Prod} {a : Parse} {ts r : List Lexeme} → Finds grammar p a ts r → length r ≤ length ts
finds_shorter f = ends_length (takes_ends f.takes)

-- an alternative where the other doesn't begin
pub makes_left_before : {p q : Prod} {ts : List Lexeme} → Fails grammar q ts ts → Makes (alt p q) in_left ts p ts
makes_left_before f = makes_left_by none_yet f.last f.none

pub makes_right_after : {p q : Prod} {ts : List Lexeme} → Fails grammar p ts ts → Makes (alt p q) in_right ts q ts
makes_right_after f = makes_right_by none_yet f.last f.none

-- a token that doesn't begin a production is next
pub shut_by : {p : Prod} (u : Terminal) {a : Parse} {ts r : List Lexeme} → starts tables p u ≡ false → nil tables p ≡ false → Finds grammar (token (is u)) a ts r → Fails grammar p ts ts
shut_by {p = p} u h k f = go u h k f.takes
  where
    go : {p : Prod} (u : Terminal) {a : Parse} {ts r : List Lexeme} → starts tables p u ≡ false → nil tables p ≡ false → Takes grammar (token (is u)) a ts r → Fails grammar p ts ts
    go {p = p} u h k (one {c = c} e) = shut (subst (λ (t : Terminal). starts tables p t ≡ false) (sym (same_is u c.terminal e)) h) k

-- a part that may be left out, then a part that doesn't stand here
pub opt_then_fails : {p q : Prod} {ts r : List Lexeme} → NoClash grammar (opt p) q → Fails grammar p ts r → Fails grammar q ts ts → Fails grammar (seq (opt p) q) ts r
opt_then_fails n f h = go n f h (reads_ends f.reads)
  where
    go : {p q : Prod} {ts r : List Lexeme} → NoClash grammar (opt p) q → Fails grammar p ts r → Fails grammar q ts ts → Ends r ts → Fails grammar (seq (opt p) q) ts r
    go {r = r} n f h same = (makes_next n (left_out f)).fails r h
    go {r = r} n f h (before e) = seq_fails n ((makes_in f.reads (λ x. not_behind (ends_trans x e))).fails r f)

-- a part that may be left out, and stands here
pub there : {p : Prod} {a : Parse} {ts m : List Lexeme} → Finds grammar p a ts m → length m < length ts → Finds grammar (opt p) (in_left a) ts m
there f h = (makes_in (takes_reads f.takes) (not_shorter h)).found _ _ f
