-- The syntax tree as plain data, with the place of each form's first token.
use Rattle.std.specs.Prelude.{ℕ, ℤ, Bool, List}
use Rattle.fn_tree.specs.declared.syntax.Named.{Named}
use Rattle.fn_tree.specs.declared.syntax.Kind.{Kind}
use Rattle.fn_tree.specs.declared.syntax.CompareOp.{CompareOp}
use Rattle.fn_tree.specs.declared.syntax.UnaryOp.{UnaryOp}
use Rattle.fn_tree.specs.declared.syntax.BinaryOp.{BinaryOp}
use Rattle.fn_tree.specs.declared.syntax.Builtin.{Builtin}

mutual
  pub data Expr : Type 0 where
    expr : (at : ℕ) → Form → Expr

  pub data Form : Type 0 where
    integer : ℤ → Form
    string : List ℕ → Form
    truth : Bool → Form
    nothing : Form
    variable : List ℕ → Form
    call : List ℕ → Exprs → Form
    builtin : Builtin → Exprs → Form
    items : Exprs → Form
    entries : Entries → Form
    group : Expr → Form
    scan : (table index : Named) → Bounds → (desc : Bool) → Limit → Form
    count : Named → Form
    get : Expr → Form
    now : Form
    insert : Named → Expr → Form
    delete : Expr → Form
    patch : Expr → Expr → Form
    replace : Expr → Expr → Form
    field : Expr → Named → Form
    item : Expr → Expr → Form
    unary : UnaryOp → Expr → Form
    binary : BinaryOp → Expr → Expr → Form

  pub data Exprs : Type 0 where
    no_exprs : Exprs
    then_expr : Expr → Exprs → Exprs

  pub data Entries : Type 0 where
    no_entries : Entries
    entry : Named → Expr → Entries → Entries

  pub data Bounds : Type 0 where
    no_bounds : Bounds
    bound : Named → CompareOp → Expr → Bounds → Bounds

  -- how many rows a scan may take
  pub data Limit : Type 0 where
    all_rows : Limit
    up_to : Expr → Limit

mutual
  pub data Stmt : Type 0 where
    stmt : (at : ℕ) → Act → Stmt

  pub data Act : Type 0 where
    declare : Named → Expr → Act
    assign : Named → Expr → Act
    evaluate : Expr → Act
    choose : Expr → Stmts → Else → Act
    each : Named → Expr → Stmts → Act
    give_back : Expr → Act
    throw : Expr → Act

  pub data Stmts : Type 0 where
    no_stmts : Stmts
    then_stmt : Stmt → Stmts → Stmts

  pub data Else : Type 0 where
    no_else : Else
    or_else : Stmts → Else

pub record FunctionTree : Type 0 where
  pub kind : Kind
  pub udf : List ℕ
  pub params : List Named
  pub body : Stmts
  pub at : ℕ

pub record IndexTree : Type 0 where
  pub name : Named
  pub fields : List Named

pub record TableTree : Type 0 where
  pub name : Named
  pub indexes : List IndexTree

pub record ModuleTree : Type 0 where
  pub tables : List TableTree
  pub functions : List FunctionTree
