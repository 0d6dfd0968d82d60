use Rattle.std.proofs.Common.{ap, sym, ◌∙◌}
use Rattle.std.proofs.lemmas.Result.{IfOk-weaker}
use Rattle.cv_values.specs.Trees.{tree}
use Rattle.fn_code.specs.States.{ends}
use Rattle.fn_tree.specs.Course.{gives}
use Rattle.fn_vm.proofs.Replies.{reply_fits, reply_is_large}
use Rattle.fn_vm.specs.Views.{counts_view, terms_view}
use Rattle.fn_vm.proofs.run.Run.reply.Goals as goal

pub returns-then-is_within : goal.returns-then-is_within
returns-then-is_within c s = reply_fits (terms_view c.args.terms.now) (counts_view c.args.self.now.counts) (tree c.args.v) (sym c.is_within.ensures ∙ c.if-is_within.true) ∙ ap (λ k. ends (record { reply = gives (tree c.args.v); cost = k })) (sym c.from.ensures)

pub returns : goal.returns
returns c = IfOk-weaker c.fail.result _ _ (λ o h s. reply_is_large (terms_view c.args.terms.now) (counts_view c.args.self.now.counts) (tree c.args.v) (sym c.is_within.ensures ∙ c.if-is_within.false) ∙ h s) c.fail.ensures
