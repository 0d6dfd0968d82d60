use Rattle.std.proofs.Common.{◌≡◌, refl, ℕ, zero, suc, ◌<◌, ◌≤◌, length, arith, ◌⊎◌, inl, inr, List, Some, None}
use Rattle.std.specs.Char.{encode_utf8}
use Rattle.std.specs.Fmt.{digits}
use Rattle.std.specs.Prelude.{codes}
use Rattle.std.specs.Str.{is_utf8, chars}
use Rattle.std.specs.Str.Lossy.{utf8_valid_len}
use Rattle.fn_tree.specs.Canonical.{name_text}
use Rattle.fn_tree.specs.Lexemes.{word_of, name_begin, integer_value, integer_begin, string_begin, mark_of, comment_begin, begins, lexemes_of}
use Rattle.fn_tree.specs.LexemeValues.{text_of}
use Rattle.fn_tree.specs.ModuleTexts.{HasFault, rank, IsFaultOf}
use Rattle.fn_tree.specs.ParseTrees.{expression_of, statement_of}
use Rattle.fn_tree.specs.Rules.{statement, expression}
use Rattle.fn_tree.specs.declared.fault.Why.{Why}
use Rattle.fn_tree.specs.declared.fault.Why.TheVariants.{TooLong, NotUtf8, BadToken, TooDeep, WrongToken, EarlyEnd}
use Rattle.fn_tree.proofs.Descents.{found, what_is_there, whole_text, module_text}
use Rattle.fn_tree.proofs.laws.worked_tokens.Goals as goal

-- a text of 1,048,576 bytes isn't too long
not_long : (text : List ℕ) → length text ≡ 1048576 → IsFaultOf text (record { why = TooLong; at = 1048576 }) → ⊥
not_long text h (inl f) = let l : _ = f.0 in omega arith
not_long text h (inr (inl f)) = let l : _ = f.2 in cc
not_long text h (inr (inr f)) = f.2.fault

two_three : ◌≡◌ {A = ℕ} 2 3 → ⊥
two_three e = cc

some_none : {n : ℕ} → Some n ≡ None → ⊥
some_none e = cc

-- at the beginning no other fault stands before a bad token
bad_first : (text : List ℕ) (other : Why) (there : ℕ) → HasFault text other there → (0 < there) ⊎ ((0 ≡ there) × (rank BadToken ≤ rank other))
bad_first text TooLong there h = absurd h
bad_first text NotUtf8 there h = absurd h
bad_first text other (suc n) h = inl (omega arith)
bad_first text BadToken zero h = inr (refl, omega arith)
bad_first text TooDeep zero h = inr (refl, omega arith)
bad_first text WrongToken zero h = inr (refl, omega arith)
bad_first text EarlyEnd zero h = inr (refl, omega arith)

pub returns-clause-tokens : goal.returns-clause-tokens
unfolding word_of name_begin integer_value integer_begin string_begin mark_of comment_begin begins lexemes_of text_of utf8_valid_len is_utf8 chars encode_utf8 digits name_text
returns-clause-tokens c = ((refl, refl, refl, refl, refl, refl, refl, refl, refl, refl, refl, refl, refl, refl), (refl, refl, refl, refl), (refl, refl, refl, refl, refl, refl, refl, refl), ((whole_text expression (expression_of _) _ _ (what_is_there (found 400 _ _) tt) refl refl, refl), (whole_text expression (expression_of _) _ _ (what_is_there (found 400 _ _) tt) refl refl, refl), (whole_text expression (expression_of _) _ _ (what_is_there (found 400 _ _) tt) refl refl, refl), (whole_text expression (expression_of _) _ _ (what_is_there (found 400 _ _) tt) refl refl, refl), (whole_text expression (expression_of _) _ _ (what_is_there (found 400 _ _) tt) refl refl, refl), (whole_text expression (expression_of _) _ _ (what_is_there (found 400 _ _) tt) refl refl, refl), (whole_text expression (expression_of _) _ _ (what_is_there (found 400 _ _) tt) refl refl, refl), (whole_text expression (expression_of _) _ _ (what_is_there (found 400 _ _) tt) refl refl, refl)), ((whole_text expression (expression_of _) _ _ (what_is_there (found 400 _ _) tt) refl refl, refl), (whole_text expression (expression_of _) _ _ (what_is_there (found 400 _ _) tt) refl refl, refl), (whole_text expression (expression_of _) _ _ (what_is_there (found 400 _ _) tt) refl refl, refl), (whole_text expression (expression_of _) _ _ (what_is_there (found 400 _ _) tt) refl refl, refl), (whole_text expression (expression_of _) _ _ (what_is_there (found 400 _ _) tt) refl refl, refl), (whole_text expression (expression_of _) _ _ (what_is_there (found 400 _ _) tt) refl refl, refl), (whole_text expression (expression_of _) _ _ (what_is_there (found 400 _ _) tt) refl refl, refl), (whole_text expression (expression_of _) _ _ (what_is_there (found 400 _ _) tt) refl refl, refl), (whole_text expression (expression_of _) _ _ (what_is_there (found 400 _ _) tt) refl refl, refl)), (refl, refl, refl, refl, refl), ((whole_text statement (statement_of _) _ _ (what_is_there (found 400 _ _) tt) refl refl, refl), (whole_text statement (statement_of _) _ _ (what_is_there (found 400 _ _) tt) refl refl, refl), (whole_text statement (statement_of _) _ _ (what_is_there (found 400 _ _) tt) refl refl, refl), (whole_text statement (statement_of _) _ _ (what_is_there (found 400 _ _) tt) refl refl, refl), (whole_text statement (statement_of _) _ _ (what_is_there (found 400 _ _) tt) refl refl, refl), (whole_text statement (statement_of _) _ _ (what_is_there (found 400 _ _) tt) refl refl, refl)), (module_text _ _ (what_is_there (found 400 _ _) tt) refl refl refl refl refl (omega arith), module_text _ _ (what_is_there (found 400 _ _) tt) refl refl refl refl refl (omega arith), refl, refl, refl), (λ text m h is. let l : _ = is.short in omega arith, λ m is. two_three is.utf8, λ m is. some_none is.readable, λ m is. some_none is.shallow), refl, (λ text h. inl (omega arith, refl, refl), not_long, inr (inl (omega arith, omega arith, refl, refl)), inr (inr (omega arith, refl, record { fault = refl; first = bad_first (codes "#") })), refl, refl, refl))

pub returns-clause-nesting : goal.returns-clause-nesting
unfolding word_of name_begin integer_value integer_begin string_begin mark_of comment_begin begins lexemes_of
returns-clause-nesting c = (refl, refl, refl, refl, refl, refl, refl, refl, refl)
