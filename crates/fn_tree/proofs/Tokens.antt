-- A test of each token, and tests of truth values.
use Rattle.std.proofs.Common.{ℕ, zero, suc, List, [], ◌∷◌, ◌≡◌, refl, ap, subst, sym, ◌∙◌, Bool, true, false, get_or}
use Rattle.std.proofs.lemmas.Bool.{eq-eqb, eqb-true}
use Rattle.fn_tree.specs.Terminals.{number, is}
use Rattle.fn_tree.specs.declared.lexeme.Terminal.{Terminal}
use Rattle.fn_tree.specs.declared.lexeme.Terminal.TheVariants.{Name, Integer, Str, Word as ReservedWord, Mark as Punctuation}
use Rattle.fn_tree.specs.declared.lexeme.Word.TheVariants.{Table, Index, Query, Mutation, Helper, Let, If, Else, For, In, Return, Throw, True, False, Null, Scan, Desc, Take, Count, Get, Insert, Patch, Replace, Delete, Now, Len, Has, Push, Set, Without, Slice, Range, Show, Keys}
use Rattle.fn_tree.specs.declared.lexeme.Mark.TheVariants.{OpenBrace, CloseBrace, OpenParen, CloseParen, OpenBracket, CloseBracket, Comma, Colon, Semicolon, Dot, Slash, Assign, Equal, NotEqual, Less, LessEqual, Greater, GreaterEqual, Plus, Minus, Star, Percent, AndAnd, OrOr, Not}

abbrev pub or : Bool → Bool → Bool
or true b = true
or false b = b

abbrev pub and : Bool → Bool → Bool
and true b = b
and false b = false

abbrev pub no : Bool → Bool
no true = false
no false = true

pub or_left : (a b : Bool) → a ≡ true → or a b ≡ true
or_left true b h = refl
or_left false b h = absurd (cc)

pub or_right : (a b : Bool) → b ≡ true → or a b ≡ true
or_right true b h = refl
or_right false b h = h

pub and_both : (a b : Bool) → a ≡ true → b ≡ true → and a b ≡ true
and_both true b h k = k
and_both false b h k = absurd (cc)

pub and_first : (a b : Bool) → and a b ≡ true → a ≡ true
and_first true b h = refl
and_first false b h = h

pub and_next : (a b : Bool) → and a b ≡ true → b ≡ true
and_next true b h = h
and_next false b h = absurd (cc)

pub no_false : (a b : Bool) → no (and a b) ≡ true → a ≡ true → b ≡ true → ⊥
no_false true true h k l = absurd (cc)
no_false true false h k l = absurd (cc)
no_false false b h k l = absurd (cc)

pub implied : (a b : Bool) → or (no a) b ≡ true → a ≡ true → b ≡ true
implied true b h k = h
implied false b h k = absurd (cc)

pub not_true : (a : Bool) → no a ≡ true → a ≡ false
not_true true h = absurd (cc)
not_true false h = refl

pub is_false : (a : Bool) → (a ≡ true → ⊥) → a ≡ false
is_false true h = absurd (h refl)
is_false false h = refl

pub true_or_false : (a : Bool) → a ≡ true → a ≡ false → ⊥
true_or_false true h k = absurd (cc)
true_or_false false h k = absurd (cc)

-- each token, in the order of the numbers
abbrev pub terminals : List Terminal
terminals = Name ∷ Integer ∷ Str ∷ ReservedWord Table ∷ ReservedWord Index ∷ ReservedWord Query ∷ ReservedWord Mutation ∷ ReservedWord Helper ∷ ReservedWord Let ∷ ReservedWord If ∷ ReservedWord Else ∷ ReservedWord For ∷ ReservedWord In ∷ ReservedWord Return ∷ ReservedWord Throw ∷ ReservedWord True ∷ ReservedWord False ∷ ReservedWord Null ∷ ReservedWord Scan ∷ ReservedWord Desc ∷ ReservedWord Take ∷ ReservedWord Count ∷ ReservedWord Get ∷ ReservedWord Insert ∷ ReservedWord Patch ∷ ReservedWord Replace ∷ ReservedWord Delete ∷ ReservedWord Now ∷ ReservedWord Len ∷ ReservedWord Has ∷ ReservedWord Push ∷ ReservedWord Set ∷ ReservedWord Without ∷ ReservedWord Slice ∷ ReservedWord Range ∷ ReservedWord Show ∷ ReservedWord Keys ∷ Punctuation OpenBrace ∷ Punctuation CloseBrace ∷ Punctuation OpenParen ∷ Punctuation CloseParen ∷ Punctuation OpenBracket ∷ Punctuation CloseBracket ∷ Punctuation Comma ∷ Punctuation Colon ∷ Punctuation Semicolon ∷ Punctuation Dot ∷ Punctuation Slash ∷ Punctuation Assign ∷ Punctuation Equal ∷ Punctuation NotEqual ∷ Punctuation Less ∷ Punctuation LessEqual ∷ Punctuation Greater ∷ Punctuation GreaterEqual ∷ Punctuation Plus ∷ Punctuation Minus ∷ Punctuation Star ∷ Punctuation Percent ∷ Punctuation AndAnd ∷ Punctuation OrOr ∷ Punctuation Not ∷ []

abbrev all_in : (Terminal → Bool) → List Terminal → Bool
all_in f [] = true
all_in f (t ∷ ts) = and (f t) (all_in f ts)

-- a test holds of each token
abbrev pub each : (Terminal → Bool) → Bool
each f = all_in f terminals

all_at : (f : Terminal → Bool) → f Name ≡ true → (ts : List Terminal) → all_in f ts ≡ true → (n : ℕ) → f (get_or ts n Name) ≡ true
all_at f d [] h n = d
all_at f d (t ∷ ts) h zero = and_first (f t) (all_in f ts) h
all_at f d (t ∷ ts) h (suc n) = all_at f d ts (and_next (f t) (all_in f ts) h) n

pub at_number : (t : Terminal) → get_or terminals (number t) Name ≡ t
at_number Name = refl
at_number Integer = refl
at_number Str = refl
at_number (ReservedWord Table) = refl
at_number (ReservedWord Index) = refl
at_number (ReservedWord Query) = refl
at_number (ReservedWord Mutation) = refl
at_number (ReservedWord Helper) = refl
at_number (ReservedWord Let) = refl
at_number (ReservedWord If) = refl
at_number (ReservedWord Else) = refl
at_number (ReservedWord For) = refl
at_number (ReservedWord In) = refl
at_number (ReservedWord Return) = refl
at_number (ReservedWord Throw) = refl
at_number (ReservedWord True) = refl
at_number (ReservedWord False) = refl
at_number (ReservedWord Null) = refl
at_number (ReservedWord Scan) = refl
at_number (ReservedWord Desc) = refl
at_number (ReservedWord Take) = refl
at_number (ReservedWord Count) = refl
at_number (ReservedWord Get) = refl
at_number (ReservedWord Insert) = refl
at_number (ReservedWord Patch) = refl
at_number (ReservedWord Replace) = refl
at_number (ReservedWord Delete) = refl
at_number (ReservedWord Now) = refl
at_number (ReservedWord Len) = refl
at_number (ReservedWord Has) = refl
at_number (ReservedWord Push) = refl
at_number (ReservedWord Set) = refl
at_number (ReservedWord Without) = refl
at_number (ReservedWord Slice) = refl
at_number (ReservedWord Range) = refl
at_number (ReservedWord Show) = refl
at_number (ReservedWord Keys) = refl
at_number (Punctuation OpenBrace) = refl
at_number (Punctuation CloseBrace) = refl
at_number (Punctuation OpenParen) = refl
at_number (Punctuation CloseParen) = refl
at_number (Punctuation OpenBracket) = refl
at_number (Punctuation CloseBracket) = refl
at_number (Punctuation Comma) = refl
at_number (Punctuation Colon) = refl
at_number (Punctuation Semicolon) = refl
at_number (Punctuation Dot) = refl
at_number (Punctuation Slash) = refl
at_number (Punctuation Assign) = refl
at_number (Punctuation Equal) = refl
at_number (Punctuation NotEqual) = refl
at_number (Punctuation Less) = refl
at_number (Punctuation LessEqual) = refl
at_number (Punctuation Greater) = refl
at_number (Punctuation GreaterEqual) = refl
at_number (Punctuation Plus) = refl
at_number (Punctuation Minus) = refl
at_number (Punctuation Star) = refl
at_number (Punctuation Percent) = refl
at_number (Punctuation AndAnd) = refl
at_number (Punctuation OrOr) = refl
at_number (Punctuation Not) = refl

pub at_each : (f : Terminal → Bool) → each f ≡ true → (t : Terminal) → f t ≡ true
at_each f h t = subst (λ (x : Terminal). f x ≡ true) (at_number t) (all_at f (and_first (f Name) _ h) terminals h (number t))

pub number_inj : (t u : Terminal) → number t ≡ number u → t ≡ u
number_inj t u e = sym (at_number t) ∙ ap (λ n. get_or terminals n Name) e ∙ at_number u

pub is_same : (t u : Terminal) → u ≡ t → is t u ≡ true
is_same t u e = eq-eqb (number t) (number u) (ap number (sym e))

pub is_other : (t u : Terminal) → (u ≡ t → ⊥) → is t u ≡ false
is_other t u n = is_false (is t u) (λ h. n (sym (number_inj t u (eqb-true (number t) (number u) h))))

pub same_is : (t u : Terminal) → is t u ≡ true → u ≡ t
same_is t u h = sym (number_inj t u (eqb-true (number t) (number u) h))

pub is_told : (b : Bool) (t u : Terminal) → (b ≡ true → u ≡ t) → (b ≡ false → u ≡ t → ⊥) → b ≡ is t u
is_told true t u h k = sym (is_same t u (h refl))
is_told false t u h k = sym (is_other t u (k refl))
