use Rattle.std.proofs.Common.{refl, sym, subst, arith}
use Rattle.fn_tree.specs.SyntaxTree.{binary}
use Rattle.fn_tree.specs.SyntaxViews.{expr_view}
use Rattle.fn_tree.specs.declared.syntax.BinaryOp.{BinaryOp}
use Rattle.fn_plain.specs.Forms.{HasTwo}
use Rattle.fn_plain.proofs.form.operands.Goals as goal

pub returns-in-Compare : goal.returns-in-Compare
returns-in-Compare c =
    let a = expr_view c.args.a.now in
    let b = expr_view c.args.b.now in
    subst (λ (op : BinaryOp). HasTwo (binary op a b) a b) (sym c.in-Compare.is) (record { means = λ site scope. refl; falls = omega arith })

pub returns-in-Add : goal.returns-in-Add
returns-in-Add c =
    let a = expr_view c.args.a.now in
    let b = expr_view c.args.b.now in
    subst (λ (op : BinaryOp). HasTwo (binary op a b) a b) (sym c.in-Add.is) (record { means = λ site scope. refl; falls = omega arith })

pub returns-in-Subtract : goal.returns-in-Subtract
returns-in-Subtract c =
    let a = expr_view c.args.a.now in
    let b = expr_view c.args.b.now in
    subst (λ (op : BinaryOp). HasTwo (binary op a b) a b) (sym c.in-Subtract.is) (record { means = λ site scope. refl; falls = omega arith })

pub returns-in-Multiply : goal.returns-in-Multiply
returns-in-Multiply c =
    let a = expr_view c.args.a.now in
    let b = expr_view c.args.b.now in
    subst (λ (op : BinaryOp). HasTwo (binary op a b) a b) (sym c.in-Multiply.is) (record { means = λ site scope. refl; falls = omega arith })

pub returns-in-Divide : goal.returns-in-Divide
returns-in-Divide c =
    let a = expr_view c.args.a.now in
    let b = expr_view c.args.b.now in
    subst (λ (op : BinaryOp). HasTwo (binary op a b) a b) (sym c.in-Divide.is) (record { means = λ site scope. refl; falls = omega arith })

pub returns-in-Remainder : goal.returns-in-Remainder
returns-in-Remainder c =
    let a = expr_view c.args.a.now in
    let b = expr_view c.args.b.now in
    subst (λ (op : BinaryOp). HasTwo (binary op a b) a b) (sym c.in-Remainder.is) (record { means = λ site scope. refl; falls = omega arith })
