-- Texts and fronts don't depend on the tokens that follow: what is read of some tokens is read of them before others, and
-- what is read there up to these is read without them.
use Rattle.std.proofs.Common.{◌≡◌, List, [], ◌∷◌, ◌++◌, refl, sym, ◌∙◌, ap, subst}
use Rattle.std.proofs.lemmas.List.{append_assoc, append_cancel_right}
use Rattle.fn_tree.specs.declared.lexeme.Lexeme.{Lexeme}
use Rattle.fn_tree.specs.Rules.{Rule}
use Rattle.fn_tree.specs.Grammar.{Prod, Parse, Takes, Reads}
use Rattle.fn_tree.specs.Grammar.Prod.{token, empty, turns}
use Rattle.fn_tree.specs.Grammar.Parse.{leaf, none}
use Rattle.fn_tree.specs.Grammar.Takes.{one, nothing, both, left, right, stop, turn, call}
use Rattle.fn_tree.specs.Grammar.Reads.{none_yet, the_token, in_first, in_next, in_one, in_other, in_turn, in_later, in_call}
use Rattle.fn_tree.specs.Fronts.{Ends, same, before}
use Rattle.fn_tree.proofs.Fronts.{takes_ends, reads_ends}

-- ---- ends of lists

pub ends_nil : (ts : List Lexeme) → Ends [] ts
ends_nil [] = same
ends_nil (c ∷ ts) = before (ends_nil ts)

pub ends_append : {a b : List Lexeme} (ys : List Lexeme) → Ends a b → Ends (a ++ ys) (b ++ ys)
ends_append ys same = same
ends_append ys (before e) = before (ends_append ys e)

pub ends_after : (xs ys : List Lexeme) → Ends ys (xs ++ ys)
ends_after [] ys = same
ends_after (x ∷ xs) ys = before (ends_after xs ys)

-- what has an end is something before that end
pub before_end : {r m : List Lexeme} → Ends r m → (xs : List Lexeme) × (m ≡ xs ++ r)
before_end same = ([], refl)
before_end (before {c = c} e) = let x = before_end e in (c ∷ x.0, ap (λ (l : List Lexeme). c ∷ l) x.1)

before_rest : {s m : List Lexeme} (r ys : List Lexeme) → s ≡ r ++ ys → Ends s m → (xs : List Lexeme) × (m ≡ xs ++ ys)
before_rest r ys f e = let x = before_end e in (x.0 ++ r, x.1 ∙ ap (λ (l : List Lexeme). x.0 ++ l) f ∙ sym (append_assoc x.0 r ys))

same_front : {m : List Lexeme} (xs r ys : List Lexeme) → m ≡ xs ++ ys → m ≡ r ++ ys → r ≡ xs
same_front xs r ys e f = append_cancel_right r xs ys (sym f ∙ e)

-- ---- before others

pub takes_on : {g : Rule → Prod} {p : Prod} {a : Parse} {xs r : List Lexeme} (ys : List Lexeme) → Takes g p a xs r → Takes g p a (xs ++ ys) (r ++ ys)
takes_on ys (one h) = one h
takes_on ys nothing = nothing
takes_on ys (both t u) = both (takes_on ys t) (takes_on ys u)
takes_on ys (left t) = left (takes_on ys t)
takes_on ys (right t) = right (takes_on ys t)
takes_on ys stop = stop
takes_on ys (turn l t u) = turn l (takes_on ys t) (takes_on ys u)
takes_on ys (call t) = call (takes_on ys t)

pub reads_on : {g : Rule → Prod} {p : Prod} {xs r : List Lexeme} (ys : List Lexeme) → Reads g p xs r → Reads g p (xs ++ ys) (r ++ ys)
reads_on ys none_yet = none_yet
reads_on ys (the_token h) = the_token h
reads_on ys (in_first t) = in_first (reads_on ys t)
reads_on ys (in_next t u) = in_next (takes_on ys t) (reads_on ys u)
reads_on ys (in_one t) = in_one (reads_on ys t)
reads_on ys (in_other t) = in_other (reads_on ys t)
reads_on ys (in_turn l t) = in_turn l (reads_on ys t)
reads_on ys (in_later l t u) = in_later l (takes_on ys t) (reads_on ys u)
reads_on ys (in_call t) = in_call (reads_on ys t)

-- ---- without them

takes_off : {g : Rule → Prod} {p : Prod} {a : Parse} {ts s : List Lexeme} (xs r ys : List Lexeme) → ts ≡ xs ++ ys → s ≡ r ++ ys → Takes g p a ts s → Takes g p a xs r
takes_off {g = g} xs r ys e f (one {f = t} {c = c} h) =
    subst (λ (l : List Lexeme). Takes g (token t) (leaf c) l r) (same_front xs (c ∷ r) ys e (ap (λ (l : List Lexeme). c ∷ l) f)) (one h)
takes_off {g = g} xs r ys e f nothing = subst (λ (l : List Lexeme). Takes g empty none l r) (same_front xs r ys e f) nothing
takes_off xs r ys e f (both t u) =
    let m = before_rest r ys f (takes_ends u) in both (takes_off xs m.0 ys e m.1 t) (takes_off m.0 r ys m.1 f u)
takes_off xs r ys e f (left t) = left (takes_off xs r ys e f t)
takes_off xs r ys e f (right t) = right (takes_off xs r ys e f t)
takes_off {g = g} xs r ys e f (stop {n = n} {p = p}) = subst (λ (l : List Lexeme). Takes g (turns n p) none l r) (same_front xs r ys e f) stop
takes_off xs r ys e f (turn l t u) =
    let m = before_rest r ys f (takes_ends u) in turn l (takes_off xs m.0 ys e m.1 t) (takes_off m.0 r ys m.1 f u)
takes_off xs r ys e f (call t) = call (takes_off xs r ys e f t)

reads_off : {g : Rule → Prod} {p : Prod} {ts s : List Lexeme} (xs r ys : List Lexeme) → ts ≡ xs ++ ys → s ≡ r ++ ys → Reads g p ts s → Reads g p xs r
reads_off {g = g} xs r ys e f (none_yet {p = p}) = subst (λ (l : List Lexeme). Reads g p l r) (same_front xs r ys e f) none_yet
reads_off {g = g} xs r ys e f (the_token {f = t} {c = c} h) =
    subst (λ (l : List Lexeme). Reads g (token t) l r) (same_front xs (c ∷ r) ys e (ap (λ (l : List Lexeme). c ∷ l) f)) (the_token h)
reads_off xs r ys e f (in_first t) = in_first (reads_off xs r ys e f t)
reads_off xs r ys e f (in_next t u) =
    let m = before_rest r ys f (reads_ends u) in in_next (takes_off xs m.0 ys e m.1 t) (reads_off m.0 r ys m.1 f u)
reads_off xs r ys e f (in_one t) = in_one (reads_off xs r ys e f t)
reads_off xs r ys e f (in_other t) = in_other (reads_off xs r ys e f t)
reads_off xs r ys e f (in_turn l t) = in_turn l (reads_off xs r ys e f t)
reads_off xs r ys e f (in_later l t u) =
    let m = before_rest r ys f (reads_ends u) in in_later l (takes_off xs m.0 ys e m.1 t) (reads_off m.0 r ys m.1 f u)
reads_off xs r ys e f (in_call t) = in_call (reads_off xs r ys e f t)

pub takes_alone : {g : Rule → Prod} {p : Prod} {a : Parse} (xs r ys : List Lexeme) → Takes g p a (xs ++ ys) (r ++ ys) → Takes g p a xs r
takes_alone xs r ys t = takes_off xs r ys refl refl t

pub reads_alone : {g : Rule → Prod} {p : Prod} (xs r ys : List Lexeme) → Reads g p (xs ++ ys) (r ++ ys) → Reads g p xs r
reads_alone xs r ys t = reads_off xs r ys refl refl t
