-- The first token that is too deep.
use Rattle.std.proofs.Common.{◌≡◌, ℕ, suc, ◌+◌, ◌<◌, List, [], ◌∷◌, ◌++◌, length, get_or, take, drop, take-append-drop, drop-cons, length-take, Bool, true, false, ◌&&◌, refl, sym, ◌∙◌, ap, arith}
use Rattle.std.specs.Prelude.{Option, Some, None, nat_le, if◌then◌else◌}
use Rattle.std.specs.Option.{option_map}
use Rattle.fn_tree.specs.Nesting.{opens, open_after, first_deeper, first_too_deep}
use Rattle.fn_tree.specs.declared.lexeme.Lexeme.{Lexeme}
use Rattle.fn_syntax.specs.FirstFaults.{IsCut}

next_within : (b : Bool) (later : Option ℕ) (n k : ℕ) → ((j : ℕ) → later ≡ Some j → j < n) → (if b then Some 0 else option_map (λ j. j + 1) later) ≡ Some k → k < n + 1
next_within true later n k h e = let f : 0 ≡ k = cc in omega arith
next_within false None n k h e = absurd (cc)
next_within false (Some j) n k h e = let f : j + 1 ≡ k = cc in let l = h j refl in omega arith

deeper_within : (limit open_before : ℕ) (xs : List Lexeme) (k : ℕ) → first_deeper limit open_before xs ≡ Some k → k < length xs
deeper_within limit open_before [] k e = absurd (cc)
deeper_within limit open_before (x ∷ xs) k e =
    let h = next_within (opens x.terminal && nat_le limit open_before) (first_deeper limit (open_after open_before x.terminal) xs) (length xs) k
    (λ j f. deeper_within limit (open_after open_before x.terminal) xs j f) e in omega arith

-- it is one of the tokens
pub too_deep_within : (xs : List Lexeme) (k : ℕ) → first_too_deep xs ≡ Some k → k < length xs
too_deep_within xs k e = deeper_within 32 0 xs k e

-- it cuts them
pub cut_at : (xs : List Lexeme) (k : ℕ) (d : Lexeme) → first_too_deep xs ≡ Some k → IsCut xs (take k xs) (Some (get_or xs k d))
cut_at xs k d e =
    let h : k < length xs = too_deep_within xs k e in
    let n : k ≡ length (take k xs) = simp length-take (omega arith) in
    (drop (suc k) xs, sym (take-append-drop k xs) ∙ ap (λ (l : List Lexeme). take k xs ++ l) (drop-cons xs k d h), e ∙ ap Some n)
