-- The code of syntax trees.
use Rattle.std.specs.Prelude.{ℕ, ◌+◌, ◌==◌, nat_le, true, false, Bool, if◌then◌else◌, cond, List, [], ◌∷◌, ◌++◌, length, map, position, Option, Some, None, option_and_then, slice_get, codes}
use Rattle.std.specs.Str.{bytes_eq}
use Rattle.cv_keys.specs.declared.schema.Index.{Index}
use Rattle.cv_keys.specs.declared.schema.Schema.{Schema}
use Rattle.cv_keys.specs.declared.schema.Table.{Table}
use Rattle.fn_tree.specs.Functions.{is_kind}
use Rattle.fn_tree.specs.Names.{at_name, table_number, index_number}
use Rattle.fn_tree.specs.Schemas.{schema_of, text_of}
use Rattle.fn_tree.specs.SyntaxTree.{Expr, expr, Form, integer, string, truth, nothing, variable, call, builtin, items, entries, group, scan, count, get, now, insert, delete, patch, replace, field, item, unary, binary, Exprs, no_exprs, then_expr, Entries, no_entries, entry, Bounds, no_bounds, bound, Limit, all_rows, up_to, Stmt, stmt, Act, declare, assign, evaluate, choose, each, give_back, throw, Stmts, no_stmts, then_stmt, Else, no_else, or_else, FunctionTree, ModuleTree}
use Rattle.fn_tree.specs.declared.syntax.BinaryOp.{BinaryOp}
use Rattle.fn_tree.specs.declared.syntax.BinaryOp.TheVariants.{Or, And}
use Rattle.fn_tree.specs.declared.syntax.Builtin.TheVariants.{Len}
use Rattle.fn_tree.specs.declared.syntax.CompareOp.{CompareOp}
use Rattle.fn_tree.specs.declared.syntax.CompareOp.TheVariants.{Equal}
use Rattle.fn_tree.specs.declared.syntax.Kind.TheVariants.{Helper}
use Rattle.fn_tree.specs.declared.syntax.Named.{Named}
use Rattle.fn_code.specs.declared.code.Code.{Code}
use Rattle.fn_code.specs.declared.code.Entry.{Entry}
use Rattle.fn_code.specs.declared.code.Instr.{Instr}
use Rattle.fn_code.specs.declared.code.Instr.TheVariants as instr
use Rattle.fn_code.specs.declared.code.Source.{Source}
use Rattle.fn_code.specs.declared.code.Source.TheVariants.{Top, Slot}
use Rattle.fn_code.specs.declared.known.Callee.{Callee}

-- what can be named at a place: the variables in the order of their slots, and the helpers
pub record Known : Type 0 where
  pub schema : Schema
  pub names : List (List ℕ)
  pub helpers : List (List ℕ × Callee)

abbrev pub slot_of : Known → List ℕ → Option ℕ
slot_of k x = position (λ name. bytes_eq name x) k.names

-- ---- operands

-- the slot of an operand that is a variable
abbrev mutual
  pub slot_at : Known → Expr → Option ℕ
  slot_at k (expr at f) = form_slot k f

  pub form_slot : Known → Form → Option ℕ
  form_slot k (variable x) = slot_of k x
  form_slot k (group e) = slot_at k e
  form_slot k f = None

-- the code that puts an operand onto the stack, which isn't needed where it is in a slot
abbrev pub unless_slot : Option ℕ → List Instr → List Instr
unless_slot None code = code
unless_slot (Some n) code = []

abbrev pub source_of : Option ℕ → Source
source_of None = Top
source_of (Some n) = Slot n

abbrev pub sources_of : Known → Exprs → List Source
sources_of k no_exprs = []
sources_of k (then_expr e es) = source_of (slot_at k e) ∷ sources_of k es

-- ---- single instructions

abbrev pub load_code : Option ℕ → List Instr
load_code None = instr.Fail ∷ []
load_code (Some n) = instr.Load n ∷ []

abbrev pub store_code : Option ℕ → List Instr
store_code None = instr.Fail ∷ []
store_code (Some n) = instr.Store n ∷ []

-- a call costs one unit, also where no such helper can be called
abbrev pub no_call : List Instr
no_call = instr.Spend ∷ instr.Fail ∷ []

abbrev pub call_code : Option Callee → ℕ → List Instr
call_code None n = no_call
call_code (Some f) n = if f.params == n then instr.Call f.number n ∷ [] else no_call

abbrev pub insert_code : Option ℕ → List Instr
insert_code None = instr.Fail ∷ []
insert_code (Some t) = instr.Insert t ∷ []

-- how many operators are equalities
abbrev pub equal_count : List CompareOp → ℕ
equal_count [] = 0
equal_count (Equal ∷ ops) = equal_count ops + 1
equal_count (op ∷ ops) = equal_count ops

-- one field more is needed where another operator is there
abbrev pub bound_fields : List CompareOp → ℕ
bound_fields [] = 0
bound_fields (Equal ∷ ops) = bound_fields ops
bound_fields (op ∷ ops) = 1

abbrev pub has_room : Index → List CompareOp → Bool
has_room index ops = nat_le (equal_count ops + bound_fields ops) (length index.fields)

-- the numbers of a table and of an index of it, where the index has fields for these bounds
abbrev pub index_for : Schema → (table index : List ℕ) → List CompareOp → Option (ℕ × ℕ)
index_for schema table index ops = option_and_then (λ t.
    option_and_then (λ (found : Table). option_and_then (λ i.
    option_and_then (λ (order : Index). if has_room order ops then Some (t, i) else None)
    (slice_get found.indexes i)) (index_number found index))
    (slice_get schema.tables t)) (table_number schema table)

abbrev pub scan_code : Option (ℕ × ℕ) → List CompareOp → (desc limited : Bool) → List Instr
scan_code None ops desc limited = instr.Fail ∷ []
scan_code (Some n) ops desc limited = instr.Scan n.0 n.1 ops desc limited ∷ []

-- ---- expressions

abbrev pub count_of : Exprs → ℕ
count_of no_exprs = 0
count_of (then_expr e es) = count_of es + 1

abbrev pub names_of : Entries → List (List ℕ)
names_of no_entries = []
names_of (entry n e es) = n.text ∷ names_of es

abbrev pub ops_of : Bounds → List CompareOp
ops_of no_bounds = []
ops_of (bound n op e bs) = op ∷ ops_of bs

abbrev pub is_limited : Limit → Bool
is_limited all_rows = false
is_limited (up_to e) = true

-- a right side that is left out where the left one is this truth value
abbrev pub either_code : (decides : Bool) → (a b : List Instr) → List Instr
either_code decides a b = a ++ instr.Decide decides (length b + 1) ∷ (b ++ instr.AsTruth ∷ [])

-- the truth value of a left side that decides
abbrev pub decided_by : BinaryOp → Option Bool
decided_by Or = Some true
decided_by And = Some false
decided_by op = None

abbrev pub sides_code : Option Bool → BinaryOp → (left right : Option ℕ) → (a b : List Instr) → List Instr
sides_code (Some decides) op left right a b = either_code decides a b
sides_code None op left right a b = unless_slot left a ++ (unless_slot right b ++ instr.Binary op (source_of left) (source_of right) ∷ [])

-- an operator on the code of its sides
abbrev pub binary_code : BinaryOp → (left right : Option ℕ) → (a b : List Instr) → List Instr
binary_code op left right a b = sides_code (decided_by op) op left right a b

abbrev mutual
  pub expr_code : Known → Expr → List Instr
  expr_code k (expr at f) = form_code k f

  pub form_code : Known → Form → List Instr
  form_code k (integer n) = instr.Int n ∷ []
  form_code k (string s) = instr.Str s ∷ []
  form_code k (truth b) = instr.Truth b ∷ []
  form_code k nothing = instr.Null ∷ []
  form_code k (variable x) = load_code (slot_of k x)
  form_code k (call h es) = exprs_code k es ++ call_code (at_name h k.helpers) (count_of es)
  form_code k (builtin b es) = operands_code k es ++ instr.Builtin b (sources_of k es) ∷ []
  form_code k (items es) = exprs_code k es ++ instr.Array (count_of es) ∷ []
  form_code k (entries es) = entries_code k es ++ instr.Object (names_of es) ∷ []
  form_code k (group e) = expr_code k e
  form_code k (scan t i bs desc l) = bounds_code k bs ++ (limit_code k l ++ scan_code (index_for k.schema t.text i.text (ops_of bs)) (ops_of bs) desc (is_limited l))
  form_code k (count t) = scan_code (index_for k.schema t.text (codes "by_creation_time") []) [] false false ++ instr.Builtin Len (Top ∷ []) ∷ []
  form_code k (get e) = expr_code k e ++ instr.Get ∷ []
  form_code k now = instr.Now ∷ []
  form_code k (insert t e) = expr_code k e ++ insert_code (table_number k.schema t.text)
  form_code k (delete e) = expr_code k e ++ instr.Delete ∷ []
  form_code k (patch e o) = expr_code k e ++ (expr_code k o ++ instr.Patch ∷ [])
  form_code k (replace e o) = expr_code k e ++ (expr_code k o ++ instr.Replace ∷ [])
  form_code k (field e n) = unless_slot (slot_at k e) (expr_code k e) ++ instr.Field (source_of (slot_at k e)) n.text ∷ []
  form_code k (item e i) = unless_slot (slot_at k e) (expr_code k e) ++ (unless_slot (slot_at k i) (expr_code k i) ++ instr.Item (source_of (slot_at k e)) (source_of (slot_at k i)) ∷ [])
  form_code k (unary op e) = unless_slot (slot_at k e) (expr_code k e) ++ instr.Unary op (source_of (slot_at k e)) ∷ []
  form_code k (binary op a b) = binary_code op (slot_at k a) (slot_at k b) (expr_code k a) (expr_code k b)

  pub exprs_code : Known → Exprs → List Instr
  exprs_code k no_exprs = []
  exprs_code k (then_expr e es) = expr_code k e ++ exprs_code k es

  pub operands_code : Known → Exprs → List Instr
  operands_code k no_exprs = []
  operands_code k (then_expr e es) = unless_slot (slot_at k e) (expr_code k e) ++ operands_code k es

  pub entries_code : Known → Entries → List Instr
  entries_code k no_entries = []
  entries_code k (entry n e es) = expr_code k e ++ entries_code k es

  pub bounds_code : Known → Bounds → List Instr
  bounds_code k no_bounds = []
  bounds_code k (bound n op e bs) = expr_code k e ++ bounds_code k bs

  pub limit_code : Known → Limit → List Instr
  limit_code k all_rows = []
  limit_code k (up_to e) = expr_code k e ++ instr.AsLimit ∷ []

-- ---- statements

-- what is known behind a name that is declared
abbrev pub with_name : Known → List ℕ → Known
with_name k x = record k { names = k.names ++ x ∷ [] }

abbrev pub known_behind_act : Known → Act → Known
known_behind_act k (declare x e) = with_name k x.text
known_behind_act k a = k

abbrev pub known_after : Known → Stmt → Known
known_after k (stmt at a) = known_behind_act k a

abbrev pub known_after_all : Known → Stmts → Known
known_after_all k no_stmts = k
known_after_all k (then_stmt s ss) = known_after_all (known_after k s) ss

-- the code of a choice with two branches, and of one with none but the first
abbrev pub choice_code : (test a b : List Instr) → List Instr
choice_code test a b = test ++ instr.Branch (length a + 1) ∷ (a ++ instr.Jump (length b) ∷ b)

-- a loop begins at the end of its body, where each turn takes an item and goes back
abbrev pub loop_code : (array body : List Instr) → List Instr
loop_code array body = array ++ instr.Items ∷ instr.Jump (length body) ∷ (body ++ instr.Turn (length body) ∷ [])

abbrev mutual
  pub stmt_code : Known → Stmt → List Instr
  stmt_code k (stmt at a) = instr.Spend ∷ act_code k a

  pub act_code : Known → Act → List Instr
  act_code k (declare x e) = expr_code k e ++ instr.Declare ∷ []
  act_code k (assign x e) = expr_code k e ++ store_code (slot_of k x.text)
  act_code k (evaluate e) = expr_code k e ++ instr.Discard ∷ []
  act_code k (choose e a b) = choice_code (expr_code k e) (stmts_code k a ++ instr.Forget (length k.names) ∷ []) (else_code k b)
  act_code k (each x e body) = loop_code (expr_code k e) (stmts_code (with_name k x.text) body ++ instr.Forget (length k.names) ∷ [])
  act_code k (give_back e) = expr_code k e ++ instr.Return ∷ []
  act_code k (throw e) = expr_code k e ++ instr.Throw ∷ []

  pub stmts_code : Known → Stmts → List Instr
  stmts_code k no_stmts = []
  stmts_code k (then_stmt s ss) = stmt_code k s ++ stmts_code (known_after k s) ss

  pub else_code : Known → Else → List Instr
  else_code k no_else = []
  else_code k (or_else ss) = stmts_code k ss ++ instr.Forget (length k.names) ∷ []

-- a block, behind which only the variables of its outside are there
abbrev pub block_code : Known → Stmts → List Instr
block_code k ss = stmts_code k ss ++ instr.Forget (length k.names) ∷ []

-- the block of a turn, in which the item is known
abbrev pub turn_code : Known → Named → Stmts → List Instr
turn_code k x body = stmts_code (with_name k x.text) body ++ instr.Forget (length k.names) ∷ []

-- ---- functions

-- what is known in a body: the parameters are variables
abbrev pub with_params : Known → List Named → Known
with_params k params = record k { names = k.names ++ map text_of params }

-- a body that ends gives null
abbrev pub function_code : Known → FunctionTree → List Instr
function_code k f = stmts_code (with_params k f.params) f.body ++ instr.Null ∷ instr.Return ∷ []

-- what is known behind the function of a number
abbrev pub known_behind : Known → ℕ → FunctionTree → Known
known_behind k number f =
    cond (is_kind f.kind Helper) (record k { helpers = k.helpers ++ (f.udf, record { number = number; params = length f.params }) ∷ [] }) k

-- the codes of functions one behind the other, the first of which has this number
abbrev pub functions_code : Known → ℕ → List FunctionTree → List Instr
functions_code k number [] = []
functions_code k number (f ∷ fs) = function_code k f ++ functions_code (known_behind k number f) (number + 1) fs

-- where each of them begins
abbrev pub entries_at : Known → (number at : ℕ) → List FunctionTree → List Entry
entries_at k number at [] = []
entries_at k number at (f ∷ fs) =
    record { kind = f.kind; udf = f.udf; params = map text_of f.params; at = at }
    ∷ entries_at (known_behind k number f) (number + 1) (at + length (function_code k f)) fs

abbrev pub nothing_known : ModuleTree → Known
nothing_known m = record { schema = schema_of m.tables; names = []; helpers = [] }

-- the code of a module
abbrev pub code_of : ModuleTree → Code
code_of m = record {
  schema = schema_of m.tables;
  entries = entries_at (nothing_known m) 0 0 m.functions;
  instrs = functions_code (nothing_known m) 0 m.functions;
}
