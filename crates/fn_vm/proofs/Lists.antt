-- Lists of values, and the stack, whose top is at the end of a list.
use Rattle.std.proofs.Common.{◌≡◌, ℕ, zero, suc, ◌+◌, ◌-◌, ◌<◌, ◌≤◌, List, [], ◌∷◌, ◌++◌, length, take, drop, map, Some, None, option_map, refl, sym, ap, ◌∙◌, arith, reverse, get_or, slice_get, slice_set, append_assoc, length-drop, ap₂, append-nil, min}
use Rattle.std.proofs.lemmas.List.{reverse-append, reverse-reverse, length-reverse, get_or-reverse, drop-map, take-append-drop, map-append, length-map, drop_at, drop_min}
use Rattle.std.proofs.lemmas.Grind.{reverse_onto}
use Rattle.std.proofs.lemmas.Option.{slice_get-get_or, slice_get-map, slice_get_past}
use Rattle.std.proofs.Math.Seq.{drop-cons}
use Rattle.cv_values.specs.Trees.{tree}
use Rattle.cv_values.specs.Value.{Value, null}
use Rattle.cv_values.specs.declared.val.Val.{Val}
use Rattle.fn_code.specs.Operands.{popped, stored}

-- the item at a place is the first one from there on
pub next_item : (items : List Val) (all : List Value) (n : ℕ) (v w : Val) → map tree items ≡ all → n < length items → v ≡ get_or items n v → w ≡ v → drop n all ≡ tree w ∷ drop (n + 1) all
next_item items all n v w e h g f =
    let one : suc n ≡ n + 1 = omega arith in
    ap (drop n) (sym e) ∙ drop-map tree n items ∙ ap (map tree) (drop-cons items n v h)
    ∙ ap (λ (x : Val). tree x ∷ map tree (drop (suc n) items)) (sym g ∙ sym f)
    ∙ ap (λ vs. tree w ∷ vs) (sym (drop-map tree (suc n) items) ∙ ap (drop (suc n)) e ∙ ap (λ k. drop k all) one)

-- values that are turned round twice
pub turned : (xs : List Val) → reverse (map tree (reverse xs)) ≡ map tree xs
turned [] = refl
turned (x ∷ xs) =
    ap (λ ys. reverse (map tree ys)) (reverse_onto xs x []) ∙ ap (λ vs. reverse vs) (map-append tree (reverse xs) (x ∷ []))
    ∙ reverse-append (map tree (reverse xs)) (tree x ∷ []) ∙ ap (λ vs. tree x ∷ vs) (turned xs)

-- a variable is set in its place
pub stored_is : (n : ℕ) (v : Value) (vs : List Value) → stored n v vs ≡ slice_set vs n v
stored_is n v [] = refl
stored_is zero v (w ∷ vs) = refl
stored_is (suc n) v (w ∷ vs) = ap (λ xs. w ∷ xs) (stored_is n v vs)

-- there are too few values
pub popped_few : (n : ℕ) (later stack : List Value) → length stack < n → popped n later stack ≡ None
popped_few zero later stack h = absurd (omega arith)
popped_few (suc n) later [] h = refl
popped_few (suc n) later (v ∷ stack) h = popped_few n (v ∷ later) stack (omega arith)

popped_all : (top under later : List Value) → popped (length top) later (top ++ under) ≡ Some (reverse top ++ later, under)
popped_all [] under later = refl
popped_all (v ∷ top) under later =
    popped_all top under (v ∷ later)
    ∙ ap (λ vs. Some (vs, under)) (sym (append_assoc (reverse top) (v ∷ []) later) ∙ ap (λ vs. vs ++ later) (sym (reverse-append (v ∷ []) top)))

parted : (k : ℕ) (xs : List Val) → reverse (map tree xs) ≡ reverse (map tree (drop k xs)) ++ reverse (map tree (take k xs))
parted k xs =
    ap (λ ys. reverse (map tree ys)) (sym (take-append-drop k xs))
    ∙ ap (λ vs. reverse vs) (map-append tree (take k xs) (drop k xs))
    ∙ reverse-append (map tree (take k xs)) (map tree (drop k xs))

-- the last values of a list are those on top
pub popped_last : (n : ℕ) (xs : List Val) → n ≤ length xs →
    popped n [] (reverse (map tree xs)) ≡ Some (map tree (drop (length xs - n) xs), reverse (map tree (take (length xs - n) xs)))
popped_last n xs h =
    let k = length xs - n in
    let back : length (reverse (map tree (drop k xs))) ≡ n = length-reverse (map tree (drop k xs)) ∙ length-map (drop k xs) tree ∙ length-drop k xs ∙ (omega arith) in
    ap₂ (λ m vs. popped m [] vs) (sym back) (parted k xs)
    ∙ popped_all (reverse (map tree (drop k xs))) (reverse (map tree (take k xs))) []
    ∙ ap (λ vs. Some (vs, reverse (map tree (take k xs)))) (append-nil (reverse (reverse (map tree (drop k xs)))) ∙ reverse-reverse (map tree (drop k xs)))

-- the values under those on top are the first ones of the list
pub under_top_are : (top : ℕ) (xs : List Val) → drop top (reverse (map tree xs)) ≡ reverse (map tree (take (length xs - top) xs))
under_top_are top xs =
    let k = length xs - top in
    let vs = reverse (map tree xs) in
    let front = reverse (map tree (drop k xs)) in
    let len = length-reverse (map tree xs) ∙ length-map xs tree in
    let long : length front ≡ min top (length vs) = length-reverse (map tree (drop k xs)) ∙ length-map (drop k xs) tree ∙ length-drop k xs ∙ omega (arith, len) in
    sym (drop_min top vs) ∙ ap (drop (min top (length vs))) (parted k xs) ∙ drop_at front (reverse (map tree (take k xs))) (min top (length vs)) long

-- the value so far under the top is so far before the end
pub under_top : (xs : List Val) (depth : ℕ) → depth < length xs → slice_get (reverse (map tree xs)) depth ≡ option_map tree (slice_get xs (length xs - 1 - depth))
under_top xs depth h =
    let vs = map tree xs in
    let k = length xs - 1 - depth in
    let len = length-map xs tree in
    slice_get-get_or (reverse vs) depth null (omega (arith, length-reverse vs, len, h))
    ∙ ap (λ v. Some v) (get_or-reverse vs depth null (omega (arith, len, h)))
    ∙ ap (λ n. Some (get_or vs (n - 1 - depth) null)) len
    ∙ sym (slice_get-get_or vs k null (omega (arith, len, h)))
    ∙ slice_get-map tree xs k

pub past_end : (xs : List Val) (depth : ℕ) → length xs ≤ depth → slice_get (reverse (map tree xs)) depth ≡ None
past_end xs depth h = slice_get_past (reverse (map tree xs)) depth (omega (arith, length-reverse (map tree xs), length-map xs tree, h))

pub ruleset depths = (under_top, past_end)
