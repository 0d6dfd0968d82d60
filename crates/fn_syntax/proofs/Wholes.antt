-- What all the tokens are, or where they stop being it.
use Rattle.std.proofs.Common.{◌≡◌, ℕ, List, [], ◌∷◌, length, map, Result, Ok, Err, IsErrAnd, refl, sym, ap, subst, ◌∙◌, arith}
use Rattle.std.proofs.lemmas.Result.{err_from_is_err_and}
use Rattle.fn_tree.specs.Fronts.{Ends, same, before, Finds, Fails}
use Rattle.fn_tree.specs.Grammar.{Prod, Parse, Takes, turns, rule, endless, none, pair}
use Rattle.fn_tree.specs.Grammar.Less.{no_less}
use Rattle.fn_tree.specs.Grammar.Takes.{both, call}
use Rattle.fn_tree.specs.Language.{grammar}
use Rattle.fn_tree.specs.Rules.{whole_module, table, function}
use Rattle.fn_tree.specs.ParseTrees.{turns_of, table_of, function_of}
use Rattle.fn_tree.specs.SyntaxViews.{table_view, function_view}
use Rattle.fn_tree.specs.declared.lexeme.Lexeme.{Lexeme}
use Rattle.fn_tree.specs.declared.syntax.Function.{Function}
use Rattle.fn_tree.specs.declared.syntax.Module.{Module}
use Rattle.fn_tree.proofs.Fronts.{ends_trans, ends_length, takes_ends, takes_reads, reads_ends, not_behind, seq_fails}
use Rattle.fn_tree.proofs.Language.{clear}
use Rattle.fn_syntax.specs.Declarations.{StopsIn, WholeStops, IsWhole}
use Rattle.fn_syntax.specs.Declarations.StopsIn.{fails, ends}
use Rattle.fn_syntax.specs.Descents.{Stops, Found, StopsAt, IsModule}
use Rattle.fn_syntax.specs.declared.parser.cursor.Stop.{Stop}
use Rattle.fn_syntax.specs.declared.parser.cursor.Stop.TheVariants.{Memory, Wrong}
use Rattle.fn_syntax.proofs.Descent.{makes_call, makes_turn, then, misses, fails_none}
use Rattle.fn_syntax.proofs.Parts.{Turned, turns_over}
use Rattle.fn_syntax.proofs.Built.{Says, says_all}

nil_end : {r : List Lexeme} → Ends r [] → [] ≡ r
nil_end same = refl

not_nil : {c : Lexeme} {l : List Lexeme} → Ends (c ∷ l) [] → ⊥
not_nil e = let h = ends_length e in absurd (omega arith)

-- a module that stops stops as the contract of modules says
pub stops_at : {ts r : List Lexeme} → StopsIn (rule whole_module) ts r → StopsAt ts r
stops_at {ts = ts} (fails f) = record {
  within = reads_ends f.reads;
  front = f.reads;
  wrong = λ c l e x. not_behind (subst (λ (z : List Lexeme). Ends z l) e (f.last l x));
  none = λ a t. f.none a (subst (λ (z : List Lexeme). Takes grammar (rule whole_module) a ts z) (nil_end (f.last [] (takes_reads t))) t);
}
stops_at (ends e f) = record {
  within = takes_ends f.takes;
  front = takes_reads f.takes;
  wrong = λ c l h x. not_behind (subst (λ (z : List Lexeme). Ends z l) h (f.last l x));
  none = λ a t. not_nil (subst (λ (z : List Lexeme). Ends z []) e (f.last [] (takes_reads t)));
}

-- tables were found, and functions stop
functions_after : {a : Parse} {ts m r : List Lexeme} → Finds grammar (turns endless (rule table)) a ts m → StopsIn (turns endless (rule function)) m r → StopsIn (rule whole_module) ts r
functions_after {r = r} t (fails f) = fails ((then (makes_call whole_module) (clear _ _ refl refl) t).fails r f)
functions_after {r = r} t (ends e f) = ends e ((then (makes_call whole_module) (clear _ _ refl refl) t).found _ r f)

-- a function was missed, where tokens are left
pub function_missed : {Known : (Parse → Parse) → Type 0} {ts r : List Lexeme} (m : List Lexeme) (t : Turned (rule function) Known ts m) → (length m ≡ 0 → ⊥) → Fails grammar (rule function) m r → StopsIn (turns endless (rule function)) ts r
function_missed [] t h f = absurd (h refl)
function_missed (c ∷ l) t h f = go t f (reads_ends f.reads)
  where
    go : {Known : (Parse → Parse) → Type 0} {ts r : List Lexeme} {c : Lexeme} {l : List Lexeme} (t : Turned (rule function) Known ts (c ∷ l)) → Fails grammar (rule function) (c ∷ l) r → Ends r (c ∷ l) → StopsIn (turns endless (rule function)) ts r
    go t f same = ends refl (turns_over t f)
    go {r = r} t f (before e) = fails (t.makes.fails r ((makes_turn no_less f.reads (λ x. not_behind (ends_trans x e))).fails r (seq_fails (clear _ _ refl refl) f)))

whole_stops : {p q : Prod} {ts m : List Lexeme} (e : Stop) → Stops q m e → ((r : List Lexeme) → Fails grammar q m r → StopsIn p ts r) → WholeStops p ts e
whole_stops Memory k f = tt
whole_stops (Wrong r) k f = f r.now k

-- a function over all tokens answers as what it called
pub whole_missed : {A : Type 0} {p q : Prod} (M : A → Parse → Type 0) {ts m : List Lexeme} (result : Result A Stop) (e : Stop) → IsErrAnd result (λ y. y ≡ e) → Stops q m e → ((r : List Lexeme) → Fails grammar q m r → StopsIn p ts r) → IsWhole p M ts result
whole_missed {p = p} M {ts = ts} result e h k f =
    let x = err_from_is_err_and result h in
    subst (λ z. IsWhole p M ts z) (sym (x.1 ∙ ap Err x.2)) (whole_stops e k f)

module_stops : (s : List ℕ) (ts : List Lexeme) (result : Result Module Stop) (e : Stop) → IsErrAnd result (λ y. y ≡ e) → IsModule s ts (Err e) → IsModule s ts result
module_stops s ts result e h k =
    let x = err_from_is_err_and result h in
    subst (λ (z : Result Module Stop). IsModule s ts z) (sym (x.1 ∙ ap Err x.2)) k

tables_stop : (s : List ℕ) (ts : List Lexeme) (e : Stop) → Stops (turns endless (rule table)) ts e → IsModule s ts (Err e)
tables_stop s ts Memory k = tt
tables_stop s ts (Wrong r) k = stops_at (fails (misses (makes_call whole_module) (clear _ _ refl refl) k))

functions_stop : (s : List ℕ) {a : Parse} {ts m : List Lexeme} (e : Stop) → Finds grammar (turns endless (rule table)) a ts m → WholeStops (turns endless (rule function)) m e → IsModule s ts (Err e)
functions_stop s Memory t k = tt
functions_stop s (Wrong r) t k = stops_at (functions_after t k)

pub tables_missed : (s : List ℕ) (ts : List Lexeme) (result : Result Module Stop) (e : Stop) → IsErrAnd result (λ y. y ≡ e) → Stops (turns endless (rule table)) ts e → IsModule s ts result
tables_missed s ts result e h k = module_stops s ts result e h (tables_stop s ts e k)

pub functions_missed : (s : List ℕ) {a : Parse} {ts m : List Lexeme} (result : Result Module Stop) (e : Stop) → IsErrAnd result (λ y. y ≡ e) → Finds grammar (turns endless (rule table)) a ts m → WholeStops (turns endless (rule function)) m e → IsModule s ts result
functions_missed s {ts = ts} result e h t k = module_stops s ts result e h (functions_stop s e t k)

-- tables and functions were found
pub module_found : (s : List ℕ) (m : Module) {ts k : List Lexeme} (t : Found (turns endless (rule table)) (λ a. map table_view m.tables.items ≡ map (table_of s) (turns_of a)) ts k) (f : Found (turns endless (rule function)) (λ a. map function_view m.functions.items ≡ map (function_of s) (turns_of a)) k []) → IsModule s ts (Ok m)
module_found s m t f = (pair t.parse f.parse, call (both t.finds.takes f.finds.takes), rw (← t.says, ← f.says) refl)

-- all functions were found
pub functions_found : (s : List ℕ) (fs : List Function) {ts : List Lexeme} (m : List Lexeme) (t : Turned (rule function) (Says (function_of s) [] (map function_view fs)) ts m) → length m ≡ 0 → Found (turns endless (rule function)) (λ a. map function_view fs ≡ map (function_of s) (turns_of a)) ts []
functions_found s fs [] t h = record { parse = t.make none; finds = turns_over t (fails_none [] refl refl); says = sym (says_all (function_of s) [] _ t.make t.says) }
functions_found s fs (c ∷ m) t h = absurd (omega arith)
