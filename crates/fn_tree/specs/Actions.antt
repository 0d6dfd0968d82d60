-- Actions: what a part of a function does, as a step of a run's course.
use Rattle.std.specs.Prelude.{ℕ, ◌+◌, Bool, true, false, nat_le, List, Option, Some, None, Ok, Err, codes}
use Rattle.cv_values.specs.Value.{Value, boolean, string, array, object, list_of, pairs_of}
use Rattle.cv_values.specs.declared.check.ValueFault.{ValueFault}
use Rattle.cv_values.specs.declared.check.ValueFault.TheVariants as value_faults
use Rattle.cv_keys.specs.declared.schema.Schema.{Schema}
use Rattle.fn_ops.specs.Operations.{Given}
use Rattle.fn_ops.specs.declared.fault.OpFault.{OpFault}
use Rattle.fn_ops.specs.declared.fault.OpFault.TheVariants as op_faults
use Rattle.fn_tree.specs.Course.{failed, Course, done}
use Rattle.fn_tree.specs.Scan.{Quota, of_cost, of_rows, of_size, of_read}
use Rattle.fn_tree.specs.declared.start.Origin.{Origin}

-- the limits of a run: cost, rows and size read, ranges, write operations, size written, size of the reply
pub record Limits : Type 0 where
  pub cost : ℕ
  pub rows : ℕ
  pub size : ℕ
  pub ranges : ℕ
  pub writes : ℕ
  pub written : ℕ
  pub reply : ℕ

-- what a run has used up so far
pub record Counts : Type 0 where
  pub cost : ℕ
  pub rows : ℕ
  pub size : ℕ
  pub ranges : ℕ
  pub writes : ℕ
  pub written : ℕ
  pub inserts : ℕ

abbrev pub nothing_used : Counts
nothing_used = record { cost = 0; rows = 0; size = 0; ranges = 0; writes = 0; written = 0; inserts = 0 }

-- an action uses counts up and goes on with what it gives, unless the run ends in it
abbrev pub Action : Type 0 → Type 0
Action A = Counts → (A → Counts → Course) → Course

infixl 10 ◌>>=◌
abbrev pub ◌>>=◌ : {A B : Type 0} → Action A → (A → Action B) → Action B
m >>= f = λ c next. m c (λ a d. f a d next)

infixl 10 ◌>>◌
abbrev pub ◌>>◌ : {A B : Type 0} → Action A → Action B → Action B
m >> n = λ c next. m c (λ a d. n d next)

abbrev pub give : {A : Type 0} → A → Action A
give a = λ c next. next a c

-- the run ends with an error, whose text this is
abbrev pub fail : {A : Type 0} → List ℕ → Action A
fail why = λ c next. done (record { reply = failed why; cost = c.cost })

abbrev pub type_error : {A : Type 0} → Action A
type_error = fail (codes "TypeError")

abbrev pub or_fail : {A : Type 0} → List ℕ → Option A → Action A
or_fail why None = fail why
or_fail why (Some a) = give a

abbrev pub or_type_error : {A : Type 0} → Option A → Action A
or_type_error None = type_error
or_type_error (Some a) = give a

-- the meaning of a function, on the values of its parameters
abbrev pub Meaning : Type 0
Meaning = List Value → Action Value

-- the variables with their values, in the order in which they were declared
abbrev pub Scope : Type 0
Scope = List (List ℕ × Value)

-- what all of a function's body sees: among others the helpers before it, by their names
pub record Site : Type 0 where
  pub schema : Schema
  pub limits : Limits
  pub origin : Option Origin
  pub helpers : List (List ℕ × Meaning)

-- one unit of cost; where there is none left, nothing is done
abbrev pub spend : Site → Action (Unit {0})
spend site = λ c next.
    let d : Counts = record c { cost = c.cost + 1 } in
    elim (nat_le d.cost site.limits.cost) [ true ↦ next tt d | false ↦ fail {A = Unit {0}} (codes "CostLimit") d next ]

-- ---- the texts of errors

abbrev pub op_text : OpFault → List ℕ
op_text op_faults.Type_ = codes "TypeError"
op_text op_faults.Overflow = codes "Overflow"
op_text op_faults.DivisionByZero = codes "DivisionByZero"
op_text op_faults.NoField = codes "NoField"
op_text op_faults.OutOfRange = codes "OutOfRange"
op_text op_faults.BadName = codes "BadName"
op_text op_faults.TooDeep = codes "TooDeep"
op_text op_faults.TooMany = codes "TooMany"
op_text op_faults.TooLarge = codes "TooLarge"
op_text op_faults.Memory = codes "Memory"

abbrev pub value_text : ValueFault → List ℕ
value_text value_faults.TooDeep = codes "TooDeep"
value_text value_faults.TooMany = codes "TooMany"
value_text value_faults.BadName = codes "BadName"
value_text value_faults.TooLarge = codes "TooLarge"

abbrev pub quota_text : Quota → List ℕ
quota_text of_cost = codes "CostLimit"
quota_text of_rows = codes "RowLimit"
quota_text of_size = codes "ReadLimit"
quota_text of_read = codes "TooMany"

-- ---- values of one kind

-- what an operation gives; its fault ends the run
abbrev pub given : Given → Action Value
given (Ok v) = give v
given (Err e) = fail (op_text e)

abbrev pub as_truth : Value → Action Bool
as_truth (boolean b) = give b
as_truth v = type_error

abbrev pub as_items : Value → Action (List Value)
as_items (array vs) = give (list_of vs)
as_items v = type_error

abbrev pub as_text : Value → Action (List ℕ)
as_text (string s) = give s
as_text v = type_error

abbrev pub as_fields : Value → Action (List (List ℕ × Value))
as_fields (object ms) = give (pairs_of ms)
as_fields v = type_error
