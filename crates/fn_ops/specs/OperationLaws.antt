-- What an operation makes, told by what other operations read of it.
use Rattle.std.specs.Prelude.{◌≡◌, ◌≢◌, ◌+◌, ◌<◌, ℕ, ℤ, pos, ◌+ℤ◌, ◌*ℤ◌, ◌≤ℤ◌, unsigned_abs, false, List, length, Ok}
use Rattle.cv_values.specs.Value.{Value, int, boolean, string, array, object, Values, list_of, Members}
use Rattle.fn_ops.specs.Operations.{divide, remainder, field, item, length_of, has, push, set, without}

-- quotient times divisor and the remainder make the dividend; the remainder is nearer to 0 than the divisor, and 0 or of the dividend's sign
abbrev pub DivisionIsExact : Type 0
DivisionIsExact =
    (a b q r : ℤ) → divide (int a) (int b) ≡ Ok (int q) → remainder (int a) (int b) ≡ Ok (int r)
    → (q *ℤ b +ℤ r ≡ a) × (unsigned_abs r < unsigned_abs b) × (pos 0 ≤ℤ a → pos 0 ≤ℤ r) × (a ≤ℤ pos 0 → r ≤ℤ pos 0)

-- after `set` the name has the value, and each other name what it had
abbrev pub SetIsRead : Type 0
SetIsRead =
    (ms : Members) (n : List ℕ) (v w : Value) → set (object ms) (string n) v ≡ Ok w
    → (field w n ≡ Ok v) × ((m : List ℕ) → m ≢ n → field w m ≡ field (object ms) m)

-- after `without` the name isn't there, and each other name has what it had
abbrev pub WithoutIsRead : Type 0
WithoutIsRead =
    (ms : Members) (n : List ℕ) (w : Value) → without (object ms) (string n) ≡ Ok w
    → (has w (string n) ≡ Ok (boolean false)) × ((m : List ℕ) → m ≢ n → field w m ≡ field (object ms) m)

-- after `push` there is one item more, the last one is the value, and the others are where they were
abbrev pub PushIsRead : Type 0
PushIsRead =
    (vs : Values) (v w : Value) → push (array vs) v ≡ Ok w
    → (length_of w ≡ Ok (int (pos (length (list_of vs) + 1))))
    × (item w (int (pos (length (list_of vs)))) ≡ Ok v)
    × ((i : ℕ) → i < length (list_of vs) → item w (int (pos i)) ≡ item (array vs) (int (pos i)))
