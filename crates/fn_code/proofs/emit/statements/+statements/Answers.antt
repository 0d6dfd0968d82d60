use Rattle.std.proofs.Common.{◌∙◌, sym, ap, List, [], ◌∷◌, ◌++◌, map, append_assoc, append-nil, Option, Vec}
use Rattle.std.specs.declared.alloc.Global.{Global}
use Rattle.std.proofs.lemmas.Result.{on_ok_weaker}
use Rattle.fn_tree.proofs.FormViews.{act-If, act-For, act-Return, act-Throw}
use Rattle.fn_tree.specs.SyntaxViews.{stmt_view, stmts_of, else_view}
use Rattle.fn_tree.specs.declared.syntax.Stmt.{Stmt}
use Rattle.fn_code.specs.Coding.{Known, block_code, else_code}
use Rattle.fn_code.specs.declared.code.Instr.{Instr}
use Rattle.fn_code.proofs.Emitted.{choice_there, loop_there, loop_behind, forgotten, begun_plain}
use Rattle.fn_code.proofs.emit.statements.+statements.Goals as goal
use Rattle.fn_code.proofs.emit.statements.+statements.Goals.{emit_act-in-None, emit_act-in-Some+in_ok-emit_block-in-Some}

pub emit_act-returns-after-other-clause-code : goal.emit_act-returns-after-other-clause-code
emit_act-returns-after-other-clause-code t c =
    let k : Known = c.args.known.now in
    let three : List Instr = c.middle_of_choice.new.out.items in
    rw (c.in-If.is, act-If c.in-If.test c.in-If.chosen c.in-If.other)
    (choice_there _ c.emit_expr-in-If.new.out.items _ _ three c.match-other.out.items _ _ (block_code k (stmts_of (map stmt_view c.in-If.chosen.items))) (else_code k (else_view c.in-If.other))
    c.in_ok-branch-in-If.branch c.in_ok-jump-in-If.jump
    c.in_ok-emit_expr-in-If.ensures c.in_ok-branch-in-If.ensures.code c.in_ok-branch-in-If.ensures.place
    (c.in_ok-emit_block-in-If.ensures.code ∙ ap (λ (ss : List Stmt). c.begin_choice.new.out.items ++ block_code k (stmts_of (map stmt_view ss))) c.deref.ensures.value)
    c.in_ok-jump-in-If.ensures.code c.in_ok-jump-in-If.ensures.place
    (elim c.match-other.branch [
      | emit_act-in-None w ↦
          ap (λ (v : Vec Instr Global). v.items) w.out-is ∙ (sym (append-nil three) ∙ ap (λ (o : Option (Vec Stmt Global)). three ++ else_code k (else_view o)) (sym w.in-None.is))
      | emit_act-in-Some+in_ok-emit_block-in-Some w ↦
          ap (λ (v : Vec Instr Global). v.items) w.out-is ∙ (w.in_ok-emit_block-in-Some.ensures.code
          ∙ (ap (λ (j : Known). three ++ block_code j (stmts_of (map stmt_view w.deref-in-Some.result.now))) c.in_ok-emit_block-in-If.ensures.known
          ∙ (ap (λ (ss : List Stmt). three ++ block_code k (stmts_of (map stmt_view ss))) w.deref-in-Some.ensures.value
          ∙ ap (λ (o : Option (Vec Stmt Global)). three ++ else_code k (else_view o)) (sym w.in-Some.is))))
    ])
    c.end_choice.ensures)

pub emit_act-returns-in_ok-emit_expr-in-For-clause-code :
    goal.emit_act-returns-in_ok-emit_expr-in-For-clause-code
emit_act-returns-in_ok-emit_expr-in-For-clause-code t c = rw (c.in-For.is, act-For c.in-For.name c.in-For.items c.in-For.body) (on_ok_weaker c.emit_loop.result (λ e. loop_behind _ _ _ _ c.args.known.now c.in-For.name c.deref-in-For.result.now c.in-For.body.items c.in_ok-emit_expr-in-For.ensures c.deref-in-For.ensures.value e) c.emit_loop.ensures.code)

pub emit_act-returns-in_ok-emit_expr-in-Return-clause-code :
    goal.emit_act-returns-in_ok-emit_expr-in-Return-clause-code
emit_act-returns-in_ok-emit_expr-in-Return-clause-code t c = rw (c.in-Return.is, act-Return c.in-Return.e) (simp (c.in_ok-emit_expr-in-Return.ensures, append_assoc) at c.put-in-Return.ensures)

pub emit_act-returns-in_ok-emit_expr-in-Throw-clause-code :
    goal.emit_act-returns-in_ok-emit_expr-in-Throw-clause-code
emit_act-returns-in_ok-emit_expr-in-Throw-clause-code t c = rw (c.in-Throw.is, act-Throw c.in-Throw.e) (simp (c.in_ok-emit_expr-in-Throw.ensures, append_assoc) at c.put-in-Throw.ensures)

pub emit_block-returns-clause-known : goal.emit_block-returns-clause-known
emit_block-returns-clause-known t c = on_ok_weaker c.end_block.result (λ e. forgotten c.args.known.now c.args.known.now c.emit_stmts.new.known c.end_block.new.known [] (stmts_of (map stmt_view c.args.stmts.now)) c.count-outside.result (begun_plain c.args.known.now) c.in_ok-emit_stmts.ensures.known c.end_block.ensures.known c.count-outside.ensures) c.end_block.ensures.code

pub emit_turn-returns-clause-known : goal.emit_turn-returns-clause-known
emit_turn-returns-clause-known t c = on_ok_weaker c.end_block.result (λ e. forgotten c.args.known.now c.declare.new.self c.emit_stmts.new.known c.end_block.new.known (c.args.name.now.text ∷ []) (stmts_of (map stmt_view c.args.body.now)) c.count-outside.result c.in_ok-declare.ensures c.in_ok-emit_stmts.ensures.known c.end_block.ensures.known c.count-outside.ensures) c.end_block.ensures.code

pub emit_loop-returns-clause-code : goal.emit_loop-returns-clause-code
emit_loop-returns-clause-code t c = on_ok_weaker c.end_loop.result (λ filled. loop_there _ _ _ _ _ c.in_ok-turn.turn c.in_ok-turn.ensures.code c.in_ok-turn.ensures.place c.in_ok-emit_turn.ensures.code filled) c.end_loop.ensures
