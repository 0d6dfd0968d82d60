-- The lists in a tree.
use Rattle.std.proofs.Common.{◌≡◌, ◌≢◌, ◌<◌, ◌^◌, ℕ, ℤ, List, length, Option, Some, None, option_map, Result, Bor, Ok, Err, IfErr, w64, to_z, ap, sym, ◌∙◌, refl}
use Rattle.std.proofs.lemmas.Int.{to_z_pos}
use Rattle.std.specs.BTreeMap.{is_at}
use Rattle.std.specs.Map.{lookup}
use Rattle.std.specs.Option.{is_some}
use Rattle.cv_values.specs.Equality.{list_of-values_of, pairs_of-members_of}
use Rattle.cv_values.specs.Order.{text_cmp}
use Rattle.cv_values.specs.Trees.{tree}
use Rattle.cv_values.specs.Value.{Value, int, array, object, string, boolean, values_of, members_of}
use Rattle.cv_values.specs.declared.val.Val.{Val}
use Rattle.fn_ops.specs.Operations.{Given, field, has, length_of, count, part, slice, array_of, array_or, some_or}
use Rattle.fn_ops.specs.declared.fault.OpFault.{OpFault}
use Rattle.fn_ops.specs.declared.fault.OpFault.TheVariants.{NoField, OutOfRange, Memory}

pub ruleset views = (list_of-values_of, pairs_of-members_of)

-- what a search of the list finds is what the object's field is
pub field_is : (ms : List (List ℕ × Value)) (n : List ℕ) (o : Option Value) → o ≡ lookup (is_at (text_cmp n)) ms → field (object (members_of ms)) n ≡ some_or NoField o
field_is ms n o e = ap (λ l. some_or NoField (lookup (is_at (text_cmp n)) l)) (pairs_of-members_of ms) ∙ ap (some_or NoField) (sym e)

is_some-seen : (r : Option (Bor Val)) → is_some (option_map (λ v. tree v.now) r) ≡ is_some r
is_some-seen None = refl
is_some-seen (Some v) = refl

pub has_is : (ms : List (List ℕ × Value)) (n : List ℕ) (r : Option (Bor Val)) → option_map (λ v. tree v.now) r ≡ lookup (is_at (text_cmp n)) ms → has (object (members_of ms)) (string n) ≡ Ok (boolean (is_some r))
has_is ms n r e =
    ap (λ l. Ok (boolean (is_some (lookup (is_at (text_cmp n)) l)))) (pairs_of-members_of ms)
    ∙ ap (λ o. Ok (boolean (is_some o))) (sym e) ∙ ap (λ b. Ok (boolean b)) (is_some-seen r)

counted : (n : ℕ) → n < 2 ^ 63 → count n ≡ Ok (int (to_z w64 n))
counted n h = ap (λ z. Ok (int z)) (sym (to_z_pos w64 n h))

pub length_of_array : (vs : List Value) (n : ℕ) → length vs ≡ n → n < 2 ^ 63 → length_of (array (values_of vs)) ≡ Ok (int (to_z w64 n))
length_of_array vs n e h = ap (λ l. count (length l)) (list_of-values_of vs) ∙ ap count e ∙ counted n h

pub length_of_object : (ms : List (List ℕ × Value)) (n : ℕ) → length ms ≡ n → n < 2 ^ 63 → length_of (object (members_of ms)) ≡ Ok (int (to_z w64 n))
length_of_object ms n e h = ap (λ l. count (length l)) (pairs_of-members_of ms) ∙ ap count e ∙ counted n h

pub slice_is : (vs : List Value) (i j : ℤ) (p : List Value) → Some p ≡ part vs i j → slice (array (values_of vs)) (int i) (int j) ≡ array_of p
slice_is vs i j p e = ap (λ l. array_or OutOfRange (part l i j)) (list_of-values_of vs) ∙ ap (array_or OutOfRange) (sym e)

-- what is given is another's answer, with its faults
pub same_faults : (g h : Given) (r : Result Val OpFault) → g ≡ h → IfErr r (λ e. h ≡ Err e) → IfErr r (λ e. e ≢ Memory → g ≡ Err e)
same_faults g h (Ok v) e f = tt
same_faults g h (Err x) e f = λ n. e ∙ f
