-- Grammars as data: productions, their texts and their fronts.
-- A list of tokens and its rest, the tokens left, stand for the tokens between: these are a text, or a front.
use Rattle.std.specs.Prelude.{◌≡◌, ℕ, suc, Bool, true, List, ◌∷◌}
use Rattle.fn_tree.specs.Rules.{Rule}
use Rattle.fn_tree.specs.declared.lexeme.Lexeme.{Lexeme}
use Rattle.fn_tree.specs.declared.lexeme.Terminal.{Terminal}

-- how often a part may stand: at most so many times, or without end
pub data Bound : Type 0 where
  up_to : ℕ → Bound
  endless : Bound

-- what is left of a bound after one turn
pub data Less : Bound → Bound → Type 0 where
  one_less : {n : ℕ} → Less (up_to n) (up_to (suc n))
  no_less : Less endless endless

-- a production: a token of a class, nothing, two parts, two alternatives, a part in turns, or a named production
pub data Prod : Type 0 where
  token : (Terminal → Bool) → Prod
  empty : Prod
  seq : Prod → Prod → Prod
  alt : Prod → Prod → Prod
  turns : Bound → Prod → Prod
  rule : Rule → Prod

-- a part that may be left out
abbrev pub opt : Prod → Prod
opt p = alt p empty

-- how a text was read
pub data Parse : Type 0 where
  leaf : Lexeme → Parse
  none : Parse
  pair : Parse → Parse → Parse
  in_left : Parse → Parse
  in_right : Parse → Parse

-- the tokens of the list up to the rest are a text of the production
pub data Takes (g : Rule → Prod) : Prod → Parse → List Lexeme → List Lexeme → Type 0 where
  one : {f : Terminal → Bool} {c : Lexeme} {ts : List Lexeme} → f c.terminal ≡ true → Takes g (token f) (leaf c) (c ∷ ts) ts
  nothing : {ts : List Lexeme} → Takes g empty none ts ts
  both : {p q : Prod} {a b : Parse} {ts m r : List Lexeme} → Takes g p a ts m → Takes g q b m r → Takes g (seq p q) (pair a b) ts r
  left : {p q : Prod} {a : Parse} {ts r : List Lexeme} → Takes g p a ts r → Takes g (alt p q) (in_left a) ts r
  right : {p q : Prod} {a : Parse} {ts r : List Lexeme} → Takes g q a ts r → Takes g (alt p q) (in_right a) ts r
  stop : {n : Bound} {p : Prod} {ts : List Lexeme} → Takes g (turns n p) none ts ts
  turn : {n k : Bound} {p : Prod} {a b : Parse} {ts m r : List Lexeme} → Less k n → Takes g p a ts m → Takes g (turns k p) b m r → Takes g (turns n p) (pair a b) ts r
  call : {i : Rule} {a : Parse} {ts r : List Lexeme} → Takes g (g i) a ts r → Takes g (rule i) a ts r

-- the tokens of the list up to the rest are a front of the production
pub data Reads (g : Rule → Prod) : Prod → List Lexeme → List Lexeme → Type 0 where
  none_yet : {p : Prod} {ts : List Lexeme} → Reads g p ts ts
  the_token : {f : Terminal → Bool} {c : Lexeme} {ts : List Lexeme} → f c.terminal ≡ true → Reads g (token f) (c ∷ ts) ts
  in_first : {p q : Prod} {ts r : List Lexeme} → Reads g p ts r → Reads g (seq p q) ts r
  in_next : {p q : Prod} {a : Parse} {ts m r : List Lexeme} → Takes g p a ts m → Reads g q m r → Reads g (seq p q) ts r
  in_one : {p q : Prod} {ts r : List Lexeme} → Reads g p ts r → Reads g (alt p q) ts r
  in_other : {p q : Prod} {ts r : List Lexeme} → Reads g q ts r → Reads g (alt p q) ts r
  in_turn : {n k : Bound} {p : Prod} {ts r : List Lexeme} → Less k n → Reads g p ts r → Reads g (turns n p) ts r
  in_later : {n k : Bound} {p : Prod} {a : Parse} {ts m r : List Lexeme} → Less k n → Takes g p a ts m → Reads g (turns k p) m r → Reads g (turns n p) ts r
  in_call : {i : Rule} {ts r : List Lexeme} → Reads g (g i) ts r → Reads g (rule i) ts r
