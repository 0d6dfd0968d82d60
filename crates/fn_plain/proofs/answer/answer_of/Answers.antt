use Rattle.std.proofs.Common.{◌≡◌, IfOk, sym, subst}
use Rattle.fn_plain.specs.Answers.{Asks, Answers}
use Rattle.fn_tree.specs.Course.{Ask, get_doc}
use Rattle.fn_tree.specs.Scan.{answer}
use Rattle.fn_tree.specs.declared.stop.Ask.{Ask as HeldAsk}
use Rattle.fn_plain.proofs.answer.answer_of.Goals as goal

pub returns-in-Get : goal.returns-in-Get
returns-in-Get c q asks =
    let e : q ≡ get_doc c.in-Get.id c.in-Get.left = subst (λ (a : HeldAsk). Asks a q) c.in-Get.is asks in
    subst (λ (x : Ask). IfOk c.answer_get.result (λ a. Answers a (answer c.args.schema.now c.args.docs.now x))) (sym e) (c.answer_get.ensures c.in-Get.left)
