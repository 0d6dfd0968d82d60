-- What `==` says of values.
use Rattle.std.proofs.Common.{◌≡◌, ℕ, true, List, [], ◌∷◌, refl, sym, ap, ◌∙◌}
use Rattle.std.specs.Ordering.{eq_by_cmp}
use Rattle.std.specs.Cmp.{Equal-is}
use Rattle.cv_values.specs.Order.{compare, members_cmp}
use Rattle.cv_values.specs.OrderLaws.{compare_exact, members_exact}
use Rattle.cv_values.specs.Trees.{tree}
use Rattle.cv_values.specs.Value.{Value, null, int, boolean, string, bytes, object, array, values_of, list_of, members_of, pairs_of}
use Rattle.cv_values.specs.declared.val.Val.{Val}
use Rattle.cv_values.specs.declared.val.Val.TheVariants.{Null, Int, Bool as Truth, Str, Bin, Arr, Obj}

pub list_of-values_of : (vs : List Value) → list_of (values_of vs) ≡ vs
list_of-values_of [] = refl
list_of-values_of (v ∷ vs) = ap (λ r. v ∷ r) (list_of-values_of vs)

pub pairs_of-members_of : (ms : List (List ℕ × Value)) → pairs_of (members_of ms) ≡ ms
pairs_of-members_of [] = refl
pairs_of-members_of (m ∷ ms) = ap (λ r. m ∷ r) (pairs_of-members_of ms)

-- the `Val` of a tree
abbrev pub untree : Value → Val
untree null = Null
untree (int n) = Int n
untree (boolean b) = Truth b
untree (string s) = Str s
untree (bytes s) = Bin s
untree (array vs) = Arr (list_of vs)
untree (object ms) = Obj (pairs_of ms)

pub untree-tree : (v : Val) → untree (tree v) ≡ v
untree-tree Null = refl
untree-tree (Int n) = refl
untree-tree (Truth b) = refl
untree-tree (Str s) = refl
untree-tree (Bin s) = refl
untree-tree (Arr vs) = ap Arr (list_of-values_of vs)
untree-tree (Obj ms) = ap Obj (pairs_of-members_of ms)

-- values that stand for the same tree are one
pub tree_inj : (v w : Val) → tree v ≡ tree w → v ≡ w
tree_inj v w e = sym (untree-tree v) ∙ ap untree e ∙ untree-tree w

pub same_values : (v w : Val) → eq_by_cmp compare (tree v) (tree w) ≡ true → v ≡ w
same_values v w e = tree_inj v w (compare_exact (tree v) (tree w) ((Equal-is (compare (tree v) (tree w))).0 e))

pub same_fields : (f g : List (List ℕ × Value)) → eq_by_cmp compare (object (members_of f)) (object (members_of g)) ≡ true → f ≡ g
same_fields f g e =
    let same : members_of f ≡ members_of g = members_exact (members_of f) (members_of g) ((Equal-is (members_cmp (members_of f) (members_of g))).0 e) in
    sym (pairs_of-members_of f) ∙ ap pairs_of same ∙ pairs_of-members_of g
