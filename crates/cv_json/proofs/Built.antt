-- What a reader has built so far, before what is left.
use Rattle.std.proofs.Common.{◌≡◌, ℕ, suc, ◌+◌, ◌<◌, length, get_or, drop, add-one, drop-cons, List, [], ◌∷◌, ◌++◌, map, Less, Greater, refl, sym, ap, ◌∙◌, String, Global, string_bytes, string_cmp, Result, Ok, Err}
use Rattle.std.proofs.lemmas.Cmp.{nat_list_cmp_total}
use Rattle.std.specs.BTreeMap.{insert_entry}
use Rattle.std.specs.Cmp.Lexicographic.{slice_cmp}
use Rattle.std.specs.List.{AllByRecursion}
use Rattle.std.specs.List.Sorted.{IsStrictlySortedBy}
use Rattle.std.specs.Map.{keys_of}
use Rattle.std.specs.Ordering.{nat_cmp, ordering_reverse}
use Rattle.cv_json.proofs.Steps.{on_ok, then_read, read_items-item, read_members-member}
use Rattle.cv_json.specs.Reads.{read_at, read_items, read_members}
use Rattle.serde_json.specs.View.{view, items_view, members_view}
use Rattle.cv_json.specs.declared.fault.JsonFault.{JsonFault}
use Rattle.cv_values.specs.Value.{Value, Values, no_values, value, Members, no_members, member, values_of, members_of}
use Rattle.serde_json.specs.declared.value.Value.{Value as Tree}

abbrev pub Entry : Type 0
Entry = String Global × Tree

abbrev pub after_values : List Value → Values → Values
after_values [] ws = ws
after_values (v ∷ vs) ws = value v (after_values vs ws)

abbrev pub after_members : List (List ℕ × Value) → Members → Members
after_members [] ws = ws
after_members (m ∷ ms) ws = member m.0 m.1 (after_members ms ws)

pub after_values-snoc : (vs : List Value) (v : Value) (ws : Values) → after_values vs (value v ws) ≡ after_values (vs ++ v ∷ []) ws
after_values-snoc [] v ws = refl
after_values-snoc (u ∷ vs) v ws = ap (value u) (after_values-snoc vs v ws)

pub after_values-none : (vs : List Value) → after_values vs no_values ≡ values_of vs
after_values-none [] = refl
after_values-none (v ∷ vs) = ap (value v) (after_values-none vs)

pub after_members-snoc : (ms : List (List ℕ × Value)) (m : List ℕ × Value) (ws : Members) → after_members ms (member m.0 m.1 ws) ≡ after_members (ms ++ m ∷ []) ws
after_members-snoc [] m ws = refl
after_members-snoc (u ∷ ms) m ws = ap (member u.0 u.1) (after_members-snoc ms m ws)

pub after_members-none : (ms : List (List ℕ × Value)) → after_members ms no_members ≡ members_of ms
after_members-none [] = refl
after_members-none (m ∷ ms) = ap (member m.0 m.1) (after_members-none ms)

pub more_values : (vs : List Value) (v : Value) (r : Result Values JsonFault) → on_ok (after_values vs) (on_ok (value v) r) ≡ on_ok (after_values (vs ++ v ∷ [])) r
more_values vs v (Ok ws) = ap Ok (after_values-snoc vs v ws)
more_values vs v (Err e) = refl

pub more_members : (ms : List (List ℕ × Value)) (m : List ℕ × Value) (r : Result Members JsonFault) → on_ok (after_members ms) (on_ok (member m.0 m.1) r) ≡ on_ok (after_members (ms ++ m ∷ [])) r
more_members ms m (Ok ws) = ap Ok (after_members-snoc ms m ws)
more_members ms m (Err e) = refl

-- the names of the entries that came first are below the next one's
pub below_next : (done : List Entry) (e : Entry) (left : List Entry) → IsStrictlySortedBy string_cmp (keys_of (done ++ e ∷ left)) → AllByRecursion (λ y. slice_cmp nat_cmp y (string_bytes e.0) ≡ Less) (map (λ d. string_bytes d.0) done)
unfolding IsStrictlySortedBy
below_next [] e left h = tt
below_next (d ∷ done) e left h = (here d.0 done h.0, below_next done e left h.1)
  where
    here : (k : String Global) (ds : List Entry) → AllByRecursion (λ y. string_cmp k y ≡ Less) (keys_of (ds ++ e ∷ left)) → slice_cmp nat_cmp (string_bytes k) (string_bytes e.0) ≡ Less
    here k [] g = g.0
    here k (x ∷ ds) g = here k ds g.1

-- a name that is above the others goes last
pub insert_last : (es : List (List ℕ × Value)) (n : List ℕ) (v : Value) → AllByRecursion (λ y. slice_cmp nat_cmp y n ≡ Less) (keys_of es) → insert_entry (slice_cmp nat_cmp) es n v ≡ es ++ (n, v) ∷ []
insert_last [] n v h = refl
insert_last (x ∷ es) n v h =
    let above : slice_cmp nat_cmp n x.0 ≡ Greater = nat_list_cmp_total.antisymm n x.0 ∙ ap ordering_reverse h.0 in
    rw above (ap (λ r. x ∷ r) (insert_last es n v h.1))

pub drop_next : (xs : List Tree) (i : ℕ) (x : Tree) → i < length xs → x ≡ get_or xs i x → drop i xs ≡ x ∷ drop (i + 1) xs
drop_next xs i x h e = rw (add-one, drop-cons xs i x) (ap (λ y. y ∷ drop (suc i) xs) (sym e))

-- one more item is read
pub item_step : (d : ℕ) (xs : List Tree) (i : ℕ) (x : Tree) (v : Value) (vs : List Value) → i < length xs → x ≡ get_or xs i x → read_at d (view x) ≡ Ok v
    → on_ok (after_values vs) (read_items d (items_view (drop i xs))) ≡ on_ok (after_values (vs ++ v ∷ [])) (read_items d (items_view (drop (i + 1) xs)))
item_step d xs i x v vs h at e =
    ap (λ (ys : List Tree). on_ok (after_values vs) (read_items d (items_view ys))) (drop_next xs i x h at)
    ∙ ap (on_ok (after_values vs)) (read_items-item d (view x) (items_view (drop (i + 1) xs)))
    ∙ ap (λ r. on_ok (after_values vs) (then_read r (λ w. on_ok (value w) (read_items d (items_view (drop (i + 1) xs)))))) e
    ∙ more_values vs v _

-- one more member is read
pub member_step : (d : ℕ) (e : Entry) (left : List Entry) (v : Value) (ms : List (List ℕ × Value)) → read_at d (view e.1) ≡ Ok v
    → on_ok (after_members ms) (read_members d (members_view (e ∷ left))) ≡ on_ok (after_members (ms ++ (string_bytes e.0, v) ∷ [])) (read_members d (members_view left))
member_step d e left v ms is =
    ap (on_ok (after_members ms)) (read_members-member d (string_bytes e.0) (view e.1) (members_view left))
    ∙ ap (λ r. on_ok (after_members ms) (then_read r (λ w. on_ok (member (string_bytes e.0) w) (read_members d (members_view left))))) is
    ∙ more_members ms (string_bytes e.0, v) _

pub keys_snoc : (ms : List (List ℕ × Value)) (n : List ℕ) (v : Value) → keys_of (ms ++ (n, v) ∷ []) ≡ keys_of ms ++ n ∷ []
keys_snoc [] n v = refl
keys_snoc (m ∷ ms) n v = ap (λ r. m.0 ∷ r) (keys_snoc ms n v)

pub names_snoc : (es : List Entry) (e : Entry) → map (λ d. string_bytes d.0) (es ++ e ∷ []) ≡ map (λ d. string_bytes d.0) es ++ string_bytes e.0 ∷ []
names_snoc [] e = refl
names_snoc (d ∷ es) e = ap (λ r. string_bytes d.0 ∷ r) (names_snoc es e)
