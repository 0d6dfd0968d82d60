-- The tokens of a module are laid out in its canonical text.
use Rattle.std.proofs.Common.{◌≡◌, ℕ, List, [], ◌∷◌, ◌++◌, map, refl, sym, ap, subst, ◌∙◌, append_assoc, arith}
use Rattle.std.specs.Prelude.{codes}
use Rattle.std.specs.List.{flat_map}
use Rattle.std.proofs.lemmas.List.{append-nil}
use Rattle.fn_tree.specs.Canonical.{token as put, table_text, function_text, canonical_text}
use Rattle.fn_tree.specs.Grammar.{Prod, Parse, Takes, Bound, turns, rule}
use Rattle.fn_tree.specs.Grammar.Takes.{one, nothing, both, left, right, stop, turn, call}
use Rattle.fn_tree.specs.Language.{grammar}
use Rattle.fn_tree.specs.ModuleTexts.{IsParse}
use Rattle.fn_tree.specs.ParseTrees.{turns_of, table_of, function_of, module_of}
use Rattle.fn_tree.specs.Rules.{Rule, table, function}
use Rattle.fn_tree.specs.declared.lexeme.Lexeme.{Lexeme}
use Rattle.fn_tree.proofs.DeclarationTexts.{AllParts, parts_after, table_said, function_said}
use Rattle.fn_tree.proofs.Relexed.{spelled, LaidOut}
use Rattle.fn_tree.proofs.Relexed.LaidOut.{nothing_laid, laid}
use Rattle.fn_tree.proofs.TreeTexts.{written, parse_text}
use Rattle.std.proofs.Common.{inl, inr}

-- the canonical text of each token is how it is spelled
abbrev pub AllWritten : List ℕ → List Lexeme → Type 0
AllWritten s [] = Unit {0}
AllWritten s (c ∷ cs) = (written s c ≡ spelled s c) × AllWritten s cs

-- tokens, each behind a blank
abbrev spaced : List ℕ → List Lexeme → List ℕ
spaced s [] = []
spaced s (c ∷ cs) = put (written s c) ++ spaced s cs

spaced_append : (s : List ℕ) (cs ds : List Lexeme) → spaced s (cs ++ ds) ≡ spaced s cs ++ spaced s ds
spaced_append s [] ds = refl
spaced_append s (c ∷ cs) ds = ap (λ x. put (written s c) ++ x) (spaced_append s cs ds) ∙ sym (append_assoc (put (written s c)) (spaced s cs) (spaced s ds))

-- the tokens of a parse
record Taken (s : List ℕ) (a : Parse) (ts r : List Lexeme) : Type 0 where
  tokens : List Lexeme
  before : ts ≡ tokens ++ r
  text : parse_text s a ≡ spaced s tokens

joined : (x y r : List Lexeme) {ts m : List Lexeme} → ts ≡ x ++ m → m ≡ y ++ r → ts ≡ (x ++ y) ++ r
joined x y r p q = p ∙ ap (λ l. x ++ l) q ∙ sym (append_assoc x y r)

taken : (s : List ℕ) {g : Rule → Prod} {p : Prod} {a : Parse} {ts r : List Lexeme} → Takes g p a ts r → Taken s a ts r
taken s (one {c = c} h) = record { tokens = c ∷ []; before = refl; text = sym (append-nil (put (written s c))) }
taken s nothing = record { tokens = []; before = refl; text = refl }
taken s (both {r = r} t u) =
    let x : Taken s _ _ _ = taken s t in let y : Taken s _ _ _ = taken s u in
    record { tokens = x.tokens ++ y.tokens; before = joined x.tokens y.tokens r x.before y.before; text = rw (x.text, y.text) (sym (spaced_append s x.tokens y.tokens)) }
taken s (left t) = let x : Taken s _ _ _ = taken s t in record { tokens = x.tokens; before = x.before; text = x.text }
taken s (right t) = let x : Taken s _ _ _ = taken s t in record { tokens = x.tokens; before = x.before; text = x.text }
taken s stop = record { tokens = []; before = refl; text = refl }
taken s (turn {r = r} l t u) =
    let x : Taken s _ _ _ = taken s t in let y : Taken s _ _ _ = taken s u in
    record { tokens = x.tokens ++ y.tokens; before = joined x.tokens y.tokens r x.before y.before; text = rw (x.text, y.text) (sym (spaced_append s x.tokens y.tokens)) }
taken s (call t) = taken s t

written_after : (s : List ℕ) {g : Rule → Prod} {p : Prod} {a : Parse} {ts r : List Lexeme} → Takes g p a ts r → AllWritten s ts → AllWritten s r
written_after s (one h) f = f.1
written_after s nothing f = f
written_after s (both t u) f = written_after s u (written_after s t f)
written_after s (left t) f = written_after s t f
written_after s (right t) f = written_after s t f
written_after s stop f = f
written_after s (turn l t u) f = written_after s u (written_after s t f)
written_after s (call t) f = written_after s t f

-- a line: its tokens, and a line feed behind the last
lay : (s : List ℕ) (cs r : List Lexeme) (line rest : List ℕ) → AllWritten s (cs ++ r) → LaidOut s r rest → 32 ∷ line ≡ spaced s cs ++ codes "\n" → LaidOut s (cs ++ r) (line ++ rest)
lay s [] r line rest w l e = absurd (let h : ◌≡◌ {A = ℕ} 32 10 = cc in omega arith)
lay s (c ∷ []) r line rest w l e =
    let tail : line ≡ (written s c ++ []) ++ 10 ∷ [] = cc in
    let same : spelled s c ++ 10 ∷ rest ≡ line ++ rest = rw (tail, append-nil (written s c), w.0) (sym (append_assoc (spelled s c) (10 ∷ []) rest)) in
    subst (λ (x : List ℕ). LaidOut s (c ∷ r) x) same (laid 10 (inr refl) l)
lay s (c ∷ d ∷ ds) r line rest w l e =
    let next : List ℕ = (written s d ++ spaced s ds) ++ 10 ∷ [] in
    let tail : line ≡ (written s c ++ (32 ∷ (written s d ++ spaced s ds))) ++ 10 ∷ [] = cc in
    let split : line ≡ written s c ++ 32 ∷ next = tail ∙ append_assoc (written s c) (32 ∷ (written s d ++ spaced s ds)) (10 ∷ []) in
    let same : spelled s c ++ 32 ∷ (next ++ rest) ≡ line ++ rest = rw (split, w.0) (sym (append_assoc (spelled s c) (32 ∷ next) rest)) in
    subst (λ (x : List ℕ). LaidOut s (c ∷ d ∷ (ds ++ r)) x) same (laid 32 (inl refl) (lay s (d ∷ ds) r next rest w.1 l refl))

-- a line of a parse
lay_parse : (s : List ℕ) {g : Rule → Prod} {p : Prod} {a : Parse} {ts r : List Lexeme} (line rest : List ℕ) → Takes g p a ts r → AllWritten s ts → LaidOut s r rest
    → 32 ∷ line ≡ parse_text s a ++ codes "\n" → LaidOut s ts (line ++ rest)
lay_parse s {r = r} line rest t w l e =
    let x : Taken s _ _ _ = taken s t in
    subst (λ (ts : List Lexeme). LaidOut s ts (line ++ rest)) (sym x.before)
    (lay s x.tokens r line rest (subst (λ (ts : List Lexeme). AllWritten s ts) x.before w) l (e ∙ ap (λ y. y ++ codes "\n") x.text))

tables_laid : (s : List ℕ) {n : Bound} {a : Parse} {ts r : List Lexeme} (rest : List ℕ) → Takes grammar (turns n (rule table)) a ts r → AllWritten s ts → LaidOut s r rest
    → LaidOut s ts (flat_map table_text (map (table_of s) (turns_of a)) ++ rest)
tables_laid s rest stop w l = l
tables_laid s {ts = ts} rest (turn {a = a} {b = b} k t u) w l =
    let others : List ℕ = flat_map table_text (map (table_of s) (turns_of b)) in
    subst (λ (x : List ℕ). LaidOut s ts x) (sym (append_assoc (table_text (table_of s a)) others rest))
    (lay_parse s (table_text (table_of s a)) (others ++ rest) t w (tables_laid s rest u (written_after s t w) l) (table_said s t))

functions_laid : (s : List ℕ) {n : Bound} {a : Parse} {ts r : List Lexeme} (rest : List ℕ) → Takes grammar (turns n (rule function)) a ts r → AllParts s ts → AllWritten s ts → LaidOut s r rest
    → LaidOut s ts (flat_map function_text (map (function_of s) (turns_of a)) ++ rest)
functions_laid s rest stop p w l = l
functions_laid s {ts = ts} rest (turn {a = a} {b = b} k t u) p w l =
    let others : List ℕ = flat_map function_text (map (function_of s) (turns_of b)) in
    subst (λ (x : List ℕ). LaidOut s ts x) (sym (append_assoc (function_text (function_of s a)) others rest))
    (lay_parse s (function_text (function_of s a)) (others ++ rest) t w (functions_laid s rest u (parts_after s t p) (written_after s t w) l) (function_said s p t))

-- the tokens of a module are laid out in its canonical text
pub module_laid : (s : List ℕ) {a : Parse} {ts : List Lexeme} → IsParse ts a → AllParts s ts → AllWritten s ts → LaidOut s ts (canonical_text (module_of s a))
module_laid s (call (both {a = a} {b = b} {m = m} t u)) p w =
    let all : List ℕ = flat_map function_text (map (function_of s) (turns_of b)) in
    tables_laid s all t w (subst (λ (x : List ℕ). LaidOut s m x) (append-nil all) (functions_laid s [] u (parts_after s t p) (written_after s t w) nothing_laid))
