-- Tokens that are the same terminal and say the same are read alike, and nest alike.
use Rattle.std.proofs.Common.{◌≡◌, ℕ, List, [], ◌∷◌, ap, ◌∙◌, sym, refl}
use Rattle.fn_tree.specs.Grammar.{Prod, Parse, Takes}
use Rattle.fn_tree.specs.Grammar.Parse.{leaf, none, pair, in_left, in_right}
use Rattle.fn_tree.specs.Grammar.Takes.{one, nothing, both, left, right, stop, turn, call}
use Rattle.fn_tree.specs.LexemeValues.{slice_of}
use Rattle.fn_tree.specs.Nesting.{open_after, first_deeper, first_too_deep}
use Rattle.fn_tree.specs.ParseTrees.{said, literal_as}
use Rattle.fn_tree.specs.Rules.{Rule}
use Rattle.fn_tree.specs.declared.lexeme.Lexeme.{Lexeme}

-- tokens of two texts that are the same terminal and say the same, as a name and as a literal
pub record Same (s z : List ℕ) (c d : Lexeme) : Type 0 where
  pub terminal : c.terminal ≡ d.terminal
  pub text : said s c ≡ said z d
  pub literal : literal_as c.terminal (slice_of s c) ≡ literal_as d.terminal (slice_of z d)

-- lists of such tokens
pub data AllSame (s z : List ℕ) : List Lexeme → List Lexeme → Type 0 where
  no_more : AllSame s z [] []
  one_more : {c d : Lexeme} {cs ds : List Lexeme} → Same s z c d → AllSame s z cs ds → AllSame s z (c ∷ cs) (d ∷ ds)

-- parses of one shape, with such tokens
pub data Alike (s z : List ℕ) : Parse → Parse → Type 0 where
  leaves : {c d : Lexeme} → Same s z c d → Alike s z (leaf c) (leaf d)
  nones : Alike s z none none
  pairs : {a b p q : Parse} → Alike s z a p → Alike s z b q → Alike s z (pair a b) (pair p q)
  lefts : {a p : Parse} → Alike s z a p → Alike s z (in_left a) (in_left p)
  rights : {a p : Parse} → Alike s z a p → Alike s z (in_right a) (in_right p)

-- the parse of tokens that are the same as those of a parse
pub record Read (s z : List ℕ) (g : Rule → Prod) (p : Prod) (a : Parse) (r us : List Lexeme) : Type 0 where
  pub parse : Parse
  pub rest : List Lexeme
  pub takes : Takes g p parse us rest
  pub alike : Alike s z a parse
  pub same_rest : AllSame s z r rest

pub read_alike : {s z : List ℕ} {g : Rule → Prod} {p : Prod} {a : Parse} {ts r us : List Lexeme} → Takes g p a ts r → AllSame s z ts us → Read s z g p a r us
read_alike (one {f = f} h) (one_more e rest) =
    record { parse = _; rest = _; takes = one (sym (ap f e.terminal) ∙ h); alike = leaves e; same_rest = rest }
read_alike nothing all = record { parse = _; rest = _; takes = nothing; alike = nones; same_rest = all }
read_alike (both t u) all =
    let x = read_alike t all in let y = read_alike u x.same_rest in
    record { parse = _; rest = _; takes = both x.takes y.takes; alike = pairs x.alike y.alike; same_rest = y.same_rest }
read_alike (left t) all =
    let x = read_alike t all in record { parse = _; rest = _; takes = left x.takes; alike = lefts x.alike; same_rest = x.same_rest }
read_alike (right t) all =
    let x = read_alike t all in record { parse = _; rest = _; takes = right x.takes; alike = rights x.alike; same_rest = x.same_rest }
read_alike stop all = record { parse = _; rest = _; takes = stop; alike = nones; same_rest = all }
read_alike (turn l t u) all =
    let x = read_alike t all in let y = read_alike u x.same_rest in
    record { parse = _; rest = _; takes = turn l x.takes y.takes; alike = pairs x.alike y.alike; same_rest = y.same_rest }
read_alike (call t) all =
    let x = read_alike t all in record { parse = _; rest = _; takes = call x.takes; alike = x.alike; same_rest = x.same_rest }

-- no tokens are the same as none
pub nothing_left : {s z : List ℕ} {us : List Lexeme} → AllSame s z [] us → us ≡ []
nothing_left no_more = refl

deeper_alike : {s z : List ℕ} {ts us : List Lexeme} (limit open_before : ℕ) → AllSame s z ts us → first_deeper limit open_before ts ≡ first_deeper limit open_before us
deeper_alike limit open_before no_more = refl
deeper_alike limit open_before (one_more e rest) = rw (e.terminal, deeper_alike limit (open_after open_before _) rest)

-- such tokens nest alike
pub nest_alike : {s z : List ℕ} {ts us : List Lexeme} → AllSame s z ts us → first_too_deep ts ≡ first_too_deep us
nest_alike all = deeper_alike 32 0 all
