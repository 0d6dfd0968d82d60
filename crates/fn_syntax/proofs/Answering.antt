-- What a descent function answers, from what it called answered.
use Rattle.std.proofs.Common.{◌≡◌, List, Result, Ok, Err, IsErrAnd, Bor, subst, sym, ap, ◌∙◌}
use Rattle.std.proofs.lemmas.Result.{err_from_is_err_and}
use Rattle.fn_tree.specs.declared.lexeme.Lexeme.{Lexeme}
use Rattle.fn_tree.specs.Fronts.{Fails}
use Rattle.fn_tree.specs.Grammar.{Prod, Parse, leaf}
use Rattle.fn_tree.specs.Language.{grammar}
use Rattle.fn_tree.specs.ParseTrees.{token_of}
use Rattle.fn_syntax.specs.Descents.{IsDescent, Stops, Found}
use Rattle.fn_syntax.proofs.Descent.{Makes}
use Rattle.fn_syntax.specs.declared.parser.cursor.Stop.{Stop}
use Rattle.fn_syntax.specs.declared.parser.cursor.Stop.TheVariants.{Memory, Wrong}

-- it stops where what it called stopped
pub stops : {p q : Prod} {ts m : List Lexeme} (e : Stop) → ((r : List Lexeme) → Fails grammar q m r → Fails grammar p ts r) → Stops q m e → Stops p ts e
stops Memory f h = tt
stops (Wrong rest) f h = f rest.now h

pub missed : {A : Type 0} {p q : Prod} (M : A → Parse → Type 0) {ts m : List Lexeme} (result : Result (A × Bor (List Lexeme)) Stop) (e : Stop) → IsErrAnd result (λ y. y ≡ e) → Stops q m e → ((r : List Lexeme) → Fails grammar q m r → Fails grammar p ts r) → IsDescent p M ts result
missed {p = p} M {ts = ts} result e h k f =
    let x = err_from_is_err_and result h in
    subst (λ z. IsDescent p M ts z) (sym (x.1 ∙ ap Err x.2)) (stops e f k)

-- the token that was found
pub the_token : {p : Prod} {c : Lexeme} {ts r : List Lexeme} (f : Found p (λ a. leaf c ≡ a) ts r) → c ≡ token_of f.parse
the_token f = ap token_of f.says

-- what it called is the rest of the production
pub descent_by : {A : Type 0} {p q : Prod} {f : Parse → Parse} (M N : A → Parse → Type 0) {ts : List Lexeme} → Makes p f ts q ts → ((x : A) (a : Parse) → N x a → M x (f a)) → (result : Result (A × Bor (List Lexeme)) Stop) → IsDescent q N ts result → IsDescent p M ts result
descent_by {f = f} M N m k (Ok x) h = record { parse = f h.parse; finds = m.found _ _ h.finds; says = k x.0 h.parse h.says }
descent_by M N m k (Err e) h = stops e m.fails h
