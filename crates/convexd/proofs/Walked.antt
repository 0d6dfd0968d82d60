-- How far the search for the line `%%` has come.
use Rattle.std.proofs.Common.{◌≡◌, ℕ, ◌+◌, ◌<◌, ◌≤◌, List, [], ◌∷◌, ◌++◌, length, Option, None, Some, false, refl, ap, ◌∙◌, arith, append_assoc, append-nil, length-append}
use Rattle.std.specs.Option.{option_map}
use Rattle.cv_stand.specs.Lines.{lines_of}
use Rattle.convexd.specs.Lines.{halves, concat, is_mark}

-- the halves, with these lines before the first
abbrev pub after : List (List ℕ) → Option (List (List ℕ) × List (List ℕ)) → Option (List (List ℕ) × List (List ℕ))
after seen o = option_map (λ p. (seen ++ p.0, p.1)) o

-- some lines were seen, none of which is the line `%%`
pub record Walked (input rest : List ℕ) (line : ℕ) : Type 0 where
  pub seen : List (List ℕ)
  pub halved : halves (lines_of input) ≡ after seen (halves (lines_of rest))
  pub bytes : input ≡ concat seen ++ rest
  pub number : line ≡ length seen + 1
  pub count : length (lines_of input) ≡ length seen + length (lines_of rest)
  pub bound : length seen + length rest ≤ length input

after_nil : (o : Option (List (List ℕ) × List (List ℕ))) → o ≡ after [] o
after_nil None = refl
after_nil (Some p) = refl

pub walked_none : (input : List ℕ) → Walked input input 1
walked_none input = record { seen = []; halved = after_nil _; bytes = refl; number = omega arith; count = omega arith; bound = omega arith }

after_more : (seen : List (List ℕ)) (line : List ℕ) (o : Option (List (List ℕ) × List (List ℕ))) → after seen (option_map (λ p. (line ∷ p.0, p.1)) o) ≡ after (seen ++ line ∷ []) o
after_more seen line None = refl
after_more seen line (Some p) = rw append_assoc

concat_more : (seen : List (List ℕ)) (line : List ℕ) → concat (seen ++ line ∷ []) ≡ concat seen ++ line
concat_more [] line = append-nil line
concat_more (x ∷ seen) line = rw (concat_more seen line, append_assoc)

pub walked_more : (input rest line more : List ℕ) (n : ℕ) → Walked input rest n → lines_of rest ≡ line ∷ lines_of more → rest ≡ line ++ more → is_mark line ≡ false → length more < length rest → Walked input more (n + 1)
walked_more input rest line more n w lines bytes unmarked shorter = record {
  seen = w.seen ++ line ∷ [];
  halved = w.halved ∙ (rw (lines, unmarked) (after_more w.seen line (halves (lines_of more))));
  bytes = w.bytes ∙ (rw (bytes, concat_more, append_assoc));
  number = omega (arith, length-append w.seen (line ∷ []), w.number);
  count = omega (arith, length-append w.seen (line ∷ []), w.count, ap length lines);
  bound = omega (arith, length-append w.seen (line ∷ []), w.bound);
}
