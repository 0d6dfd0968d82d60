-- The values that a read goes by, at their place under the top.
use Rattle.std.proofs.Common.{◌≡◌, ℕ, ℤ, Bool, true, false, List, [], ◌∷◌, Option, Some, None, codes, refl, ◌∙◌, slice_get}
use Rattle.cv_values.specs.Ids.{read_id}
use Rattle.cv_values.specs.Value.{Value, Values, Members, null, int, boolean, string, bytes, array, object}
use Rattle.cv_values.specs.declared.ids.DocId.{DocId}
use Rattle.fn_code.specs.States.{State, Next, fails}
use Rattle.fn_code.specs.Steps.{Terms, on_top, stuck, reads_found, reads_id, begins_delete, begins_change}
use Rattle.fn_code.specs.declared.code.Code.{Code}
use Rattle.fn_tree.specs.Reading.{id_in}
use Rattle.fn_tree.specs.declared.start.Origin.{Origin}
use Rattle.fn_vm.specs.Moves.{reads_target}
use Rattle.fn_vm.specs.Targets.{found, target_in, target_at, object_on}
use Rattle.fn_vm.specs.declared.reads.Target.{Target}
use Rattle.fn_vm.specs.declared.reads.Target.TheVariants.{Missing, Bad, Found}

found_reads : (t : Terms) (s : State) (o : Option DocId) → reads_found t s o ≡ reads_target t s (found o)
found_reads t s None = refl
found_reads t s (Some id) = refl

id_reads : (t : Terms) (code : Code) (s : State) (v : Value) → reads_id t code s v ≡ reads_target t s (target_in code v)
id_reads t code s (string text) = found_reads t s (id_in code.schema (read_id text))
id_reads t code s null = refl
id_reads t code s (int n) = refl
id_reads t code s (boolean b) = refl
id_reads t code s (bytes b) = refl
id_reads t code s (array vs) = refl
id_reads t code s (object ms) = refl

pub get_reads : (t : Terms) (code : Code) (s : State) (stack : List Value) → on_top s (λ v stack. reads_id t code s v) stack ≡ reads_target t s (target_at code (slice_get stack 0))
get_reads t code s [] = refl
get_reads t code s (v ∷ stack) = id_reads t code s v

pub delete_reads : (t : Terms) (code : Code) (s : State) (o : Origin) (stack : List Value) → begins_delete t code s (Some o) stack ≡ reads_target t s (target_at code (slice_get stack 0))
delete_reads t code s o [] = refl
delete_reads t code s o (v ∷ stack) = id_reads t code s v

-- ---- changes

pub change_reads : (t : Terms) (code : Code) (s : State) (o : Origin) (stack : List Value) → object_on stack ≡ true → begins_change t code s (Some o) stack ≡ reads_target t s (target_at code (slice_get stack 1))
change_reads t code s o (object ms ∷ v ∷ stack) h = id_reads t code s v
change_reads t code s o (object ms ∷ []) h = refl
change_reads t code s o (null ∷ stack) h = cc
change_reads t code s o (int n ∷ stack) h = cc
change_reads t code s o (boolean b ∷ stack) h = cc
change_reads t code s o (string text ∷ stack) h = cc
change_reads t code s o (bytes b ∷ stack) h = cc
change_reads t code s o (array vs ∷ stack) h = cc
change_reads t code s o [] h = cc

-- without an object an id that isn't in the module is the error
abbrev pub no_object : State → Target → Next
no_object s Bad = fails s.counts (codes "BadId")
no_object s Missing = stuck s
no_object s (Found id) = stuck s

abbrev under_other : Code → State → List ℕ → Next
under_other code s text = elim (id_in code.schema (read_id text)) [ None ↦ fails s.counts (codes "BadId") | Some id ↦ stuck s ]

other_is : (code : Code) (s : State) (text : List ℕ) → under_other code s text ≡ no_object s (target_in code (string text))
other_is code s text = found_is (id_in code.schema (read_id text))
  where
    found_is : (o : Option DocId) → elim o [ None ↦ fails s.counts (codes "BadId") | Some id ↦ stuck s ] ≡ no_object s (found o)
    found_is None = refl
    found_is (Some id) = refl

-- what depends on a value as it does where something else than an object is on top
like_other : (code : Code) (s : State) (next : Value → Next) → next null ≡ stuck s → ((n : ℤ) → next (int n) ≡ stuck s) → ((b : Bool) → next (boolean b) ≡ stuck s)
    → ((text : List ℕ) → next (string text) ≡ under_other code s text) → ((b : List ℕ) → next (bytes b) ≡ stuck s) → ((vs : Values) → next (array vs) ≡ stuck s) → ((ms : Members) → next (object ms) ≡ stuck s)
    → (v : Value) → next v ≡ no_object s (target_in code v)
like_other code s next of_null of_int of_boolean of_string of_bytes of_array of_object null = of_null
like_other code s next of_null of_int of_boolean of_string of_bytes of_array of_object (int n) = of_int n
like_other code s next of_null of_int of_boolean of_string of_bytes of_array of_object (boolean b) = of_boolean b
like_other code s next of_null of_int of_boolean of_string of_bytes of_array of_object (string text) = of_string text ∙ other_is code s text
like_other code s next of_null of_int of_boolean of_string of_bytes of_array of_object (bytes b) = of_bytes b
like_other code s next of_null of_int of_boolean of_string of_bytes of_array of_object (array vs) = of_array vs
like_other code s next of_null of_int of_boolean of_string of_bytes of_array of_object (object ms) = of_object ms

pub change_faults : (t : Terms) (code : Code) (s : State) (o : Origin) (stack : List Value) → object_on stack ≡ false → begins_change t code s (Some o) stack ≡ no_object s (target_at code (slice_get stack 1))
change_faults t code s o [] h = refl
change_faults t code s o (object ms ∷ stack) h = cc
change_faults t code s o (null ∷ []) h = refl
change_faults t code s o (null ∷ v ∷ stack) h = like_other code s (λ v. begins_change t code s (Some o) (null ∷ v ∷ stack)) refl (λ n. refl) (λ b. refl) (λ text. refl) (λ b. refl) (λ vs. refl) (λ ms. refl) v
change_faults t code s o (int n ∷ []) h = refl
change_faults t code s o (int n ∷ v ∷ stack) h = like_other code s (λ v. begins_change t code s (Some o) (int n ∷ v ∷ stack)) refl (λ n. refl) (λ b. refl) (λ text. refl) (λ b. refl) (λ vs. refl) (λ ms. refl) v
change_faults t code s o (boolean b ∷ []) h = refl
change_faults t code s o (boolean b ∷ v ∷ stack) h = like_other code s (λ v. begins_change t code s (Some o) (boolean b ∷ v ∷ stack)) refl (λ n. refl) (λ b. refl) (λ text. refl) (λ b. refl) (λ vs. refl) (λ ms. refl) v
change_faults t code s o (string text ∷ []) h = refl
change_faults t code s o (string text ∷ v ∷ stack) h = like_other code s (λ v. begins_change t code s (Some o) (string text ∷ v ∷ stack)) refl (λ n. refl) (λ b. refl) (λ text. refl) (λ b. refl) (λ vs. refl) (λ ms. refl) v
change_faults t code s o (bytes b ∷ []) h = refl
change_faults t code s o (bytes b ∷ v ∷ stack) h = like_other code s (λ v. begins_change t code s (Some o) (bytes b ∷ v ∷ stack)) refl (λ n. refl) (λ b. refl) (λ text. refl) (λ b. refl) (λ vs. refl) (λ ms. refl) v
change_faults t code s o (array vs ∷ []) h = refl
change_faults t code s o (array vs ∷ v ∷ stack) h = like_other code s (λ v. begins_change t code s (Some o) (array vs ∷ v ∷ stack)) refl (λ n. refl) (λ b. refl) (λ text. refl) (λ b. refl) (λ vs. refl) (λ ms. refl) v
