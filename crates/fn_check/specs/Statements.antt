-- The first fault of statements.
use Rattle.std.specs.Prelude.{None}
use Rattle.fn_check.specs.Expressions.{First, expr_fault, variable_fault}
use Rattle.fn_check.specs.Faults.{◌before◌, fault_if}
use Rattle.fn_check.specs.Known.{Known, Names, with_name, with_visible, is_visible, inner}
use Rattle.fn_check.specs.declared.fault.CheckKind.TheVariants.{DuplicateName}
use Rattle.fn_tree.specs.SyntaxTree.{Stmt, stmt, Act, declare, assign, evaluate, choose, each, give_back, throw, Stmts, no_stmts, then_stmt, Else, no_else, or_else}
use Rattle.fn_tree.specs.declared.syntax.Named.{Named}

-- a name that is declared may not be visible yet
abbrev pub declare_fault : Known → Named → First
declare_fault known n = fault_if (is_visible known n.text) n.at DuplicateName

-- the names of the block behind a statement without its place
abbrev pub names_after_act : Names → Act → Names
names_after_act names (declare n e) = with_name names n.text
names_after_act names (assign n e) = names
names_after_act names (evaluate e) = names
names_after_act names (choose e a b) = names
names_after_act names (each n e body) = names
names_after_act names (give_back e) = names
names_after_act names (throw e) = names

-- the names of the block behind a statement
abbrev pub names_after : Names → Stmt → Names
names_after names (stmt at act) = names_after_act names act

-- the names of the block behind statements
abbrev pub names_after_all : Names → Stmts → Names
names_after_all names no_stmts = names
names_after_all names (then_stmt s ss) = names_after_all (names_after names s) ss

-- what can be named behind a statement: the names of the blocks in it are gone
abbrev pub after_stmt : Known → Stmt → Known
after_stmt known s = record known { here = names_after known.here s }

-- what can be named behind statements
abbrev pub after_stmts : Known → Stmts → Known
after_stmts known ss = record known { here = names_after_all known.here ss }

abbrev mutual
  -- a statement, with its parts as they stand in the text
  pub stmt_fault : Known → Stmt → First
  stmt_fault known (stmt at act) = act_fault known act

  -- a statement without its place
  pub act_fault : Known → Act → First
  act_fault known (declare n e) = declare_fault known n before expr_fault known e
  act_fault known (assign n e) = variable_fault known n.text n.at before expr_fault known e
  act_fault known (evaluate e) = expr_fault known e
  act_fault known (choose e a b) = expr_fault known e before stmts_fault (inner known) a before else_fault known b
  act_fault known (each n e body) = declare_fault known n before expr_fault known e before stmts_fault (with_visible (inner known) n.text) body
  act_fault known (give_back e) = expr_fault known e
  act_fault known (throw e) = expr_fault known e

  -- the statements of a block, in which names may be declared already
  pub stmts_fault : Known → Stmts → First
  stmts_fault known no_stmts = None
  stmts_fault known (then_stmt s ss) = stmt_fault known s before stmts_fault (after_stmt known s) ss

  -- the other branch of a choice
  pub else_fault : Known → Else → First
  else_fault known no_else = None
  else_fault known (or_else ss) = stmts_fault (inner known) ss
