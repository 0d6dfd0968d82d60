use Rattle.std.proofs.Common.{◌≡◌, ◌∙◌, ◌+◌, Bool, List, [], ◌∷◌, ◌++◌, map, drop, get_or, refl, sym, ap, subst, arith, rules, ℕ, Vec, add-one}
use Rattle.std.specs.Prelude.{Option, None, codes, if◌then◌else◌}
use Rattle.std.specs.Option.{option_map}
use Rattle.std.proofs.lemmas.Result.{IfOk-weaker, IfErr-weaker}
use Rattle.cv_values.specs.Trees.{tree}
use Rattle.cv_values.specs.Value.{Value, null, boolean}
use Rattle.fn_tree.specs.Actions.{Action, ◌>>=◌, give, fail, or_type_error, Meaning, Scope, spend, as_truth, as_text, as_items}
use Rattle.fn_tree.specs.Functions.{function_means}
use Rattle.fn_tree.specs.Meaning.{helper_value, expr_means, exprs_mean, entries_mean, bounds_mean, limit_means, Return, stmt_means, act_means, stmts_mean, else_means, throw_text, turns}
use Rattle.fn_tree.specs.Names.{at_name, assigned, bound_to, outside}
use Rattle.fn_tree.specs.Operators.{right_side}
use Rattle.fn_tree.specs.Reading.{limit_of as limit_value}
use Rattle.fn_tree.specs.SyntaxViews.{expr_view, bound_view, exprs_of, entries_of, bounds_of, limit_of, form_view, function_view, stmt_view, act_view, stmts_of, else_view}
use Rattle.fn_plain.specs.Forms.{after_one, after_two, after_many, after_members, after_bounds}
use Rattle.fn_plain.specs.Scopes.{pairs_view, bounds_view, Flows, chosen, turn_of}
use Rattle.fn_plain.specs.States.{Gives, Fails, site_at, Leaves, Returns, Breaks}
use Rattle.fn_plain.proofs.Evaluated.{means_form, size_form, decided, undecided}
use Rattle.fn_plain.proofs.Falls.{size_rises, got, item_falls, same_function, size_after}
use Rattle.fn_plain.proofs.Faults.{handed_on}
use Rattle.fn_plain.proofs.Steps.{gave_pure, gives_as, fails_as, fails_by, refused, first_fails, then_gives, then_fails, Reaches, Comes, fails_first, then_leaves, then_returns, then_breaks, returned, return_breaks, returns_first, breaks_first, came_returns, came_breaks, given_by, left_gives, action_leaves, action_breaks, returned_gives, broken_fails}
use Rattle.std.proofs.lemmas.List.{map-append}
use Rattle.std.specs.declared.alloc.Global.{Global}
use Rattle.cv_values.specs.declared.val.Val.{Val}
use Rattle.fn_tree.specs.SyntaxTree as plain
use Rattle.fn_tree.specs.declared.syntax.StmtForm.TheVariants as act
use Rattle.fn_tree.specs.declared.syntax.BoundExpr.{BoundExpr as HeldBound}
use Rattle.fn_tree.specs.declared.syntax.CompareOp.{CompareOp}
use Rattle.fn_tree.specs.declared.syntax.Expr.{Expr as Held}
use Rattle.fn_tree.specs.declared.syntax.Named.{Named}
use Rattle.fn_plain.specs.Sizes.{expr_size, exprs_size, entries_size, bounds_size, limit_size, stmt_size, stmts_size, size_before}
use Rattle.fn_plain.proofs.Loops.{behind, and_rest, collect_none, collect_more, collect_end, collect_fails, came_nothing, came_then, came_more, came_end, next_left, none_left, cut_back}
use Rattle.fn_tree.proofs.FormViews.{act-Let, act-Assign, act-Eval, act-If, act-For, act-Return, act-Throw}
use Rattle.fn_plain.proofs.Done.{left_pure, flows_then, blocked, flows_block, block_of, turns_of, does_as, chooses, chosen_falls, throws}
use Rattle.fn_plain.proofs.Views.{bound_is, done_as}
use Rattle.fn_plain.proofs.play.+play.Goals as goal

-- the truth value of the right side
abbrev as_boolean : Value → Action Value
as_boolean w = as_truth w >>= (λ y. give (boolean y))

pub play_expr-returns-in-Leaf-clause-ok : goal.play_expr-returns-in-Leaf-clause-ok
play_expr-returns-in-Leaf-clause-ok t c =
    let x = c.args.context.now in let p = c.args.progress.now in let s = site_at x c.args.seen in let sc = pairs_view c.args.scope.now in let f = c.as_ref-form.result.now in let h : c.args.e.now.form.value ≡ f = search rules in let m = means_form c.args.e.now f h s sc ∙ c.in-Leaf.ensures.means s sc in
    IfOk-weaker c.leaf_value.result _ _ (λ r k. gives_as m k) (c.leaf_value.ensures.ok c.args.seen)

pub play_expr-returns-in-Leaf-clause-err : goal.play_expr-returns-in-Leaf-clause-err
play_expr-returns-in-Leaf-clause-err t c =
    let x = c.args.context.now in let p = c.args.progress.now in let s = site_at x c.args.seen in let sc = pairs_view c.args.scope.now in let f = c.as_ref-form.result.now in let h : c.args.e.now.form.value ≡ f = search rules in let m = means_form c.args.e.now f h s sc ∙ c.in-Leaf.ensures.means s sc in
    IfErr-weaker c.leaf_value.result _ _ (λ e k. fails_as x p c.leaf_value.new.progress e m k) (c.leaf_value.ensures.err c.args.seen)

pub play_expr-play_expr-requires : goal.play_expr-play_expr-requires
play_expr-play_expr-requires t c =
    let f = c.as_ref-form.result.now in let h : c.args.e.now.form.value ≡ f = search rules in
    (omega (arith, size_form c.args.e.now f h, c.in-One.ensures.falls), (c.requires.within, c.requires.there))

pub play_expr-returns-in_err-v-in-One-clause-err : goal.play_expr-returns-in_err-v-in-One-clause-err
play_expr-returns-in_err-v-in-One-clause-err t c =
    let x = c.args.context.now in let p = c.args.progress.now in let s = site_at x c.args.seen in let sc = pairs_view c.args.scope.now in let f = c.as_ref-form.result.now in let h : c.args.e.now.form.value ≡ f = search rules in let m = means_form c.args.e.now f h s sc ∙ c.in-One.ensures.means s sc in let e = c.in_err-v-in-One.field-0.0 in let new = c.play_expr.new.progress in
    handed_on c.from_residual.result e _ (fails_as x p new e m (first_fails x p new (expr_means (expr_view c.in-One.e.now) s sc) (λ v. after_one (form_view f) s v) e c.in_err-v-in-One.ensures.err)) c.from_residual.ensures.1

pub play_expr-of_one-requires : goal.play_expr-of_one-requires
play_expr-of_one-requires t c =
    record { within = (c.in_ok-v-in-One.ensures.ok).within }

pub play_expr-returns-in_ok-v-in-One-clause-ok : goal.play_expr-returns-in_ok-v-in-One-clause-ok
play_expr-returns-in_ok-v-in-One-clause-ok t c =
    let x = c.args.context.now in let p = c.args.progress.now in let s = site_at x c.args.seen in let sc = pairs_view c.args.scope.now in let f = c.as_ref-form.result.now in let h : c.args.e.now.form.value ≡ f = search rules in let m = means_form c.args.e.now f h s sc ∙ c.in-One.ensures.means s sc in
    IfOk-weaker c.of_one.result _ _ (λ r k. gives_as m (then_gives (λ v. after_one (form_view f) s v) c.in_ok-v-in-One.ensures.ok k)) (c.of_one.ensures.ok c.args.seen)

pub play_expr-returns-in_ok-v-in-One-clause-err : goal.play_expr-returns-in_ok-v-in-One-clause-err
play_expr-returns-in_ok-v-in-One-clause-err t c =
    let x = c.args.context.now in let p = c.args.progress.now in let s = site_at x c.args.seen in let sc = pairs_view c.args.scope.now in let f = c.as_ref-form.result.now in let h : c.args.e.now.form.value ≡ f = search rules in let m = means_form c.args.e.now f h s sc ∙ c.in-One.ensures.means s sc in let new = c.of_one.new.progress in
    IfErr-weaker c.of_one.result _ _ (λ e k. fails_as x p new e m (then_fails (λ v. after_one (form_view f) s v) new e c.in_ok-v-in-One.ensures.ok k)) (c.of_one.ensures.err c.args.seen)

pub play_expr-play_exprs-requires : goal.play_expr-play_exprs-requires
play_expr-play_exprs-requires t c =
    let f = c.as_ref-form.result.now in let h : c.args.e.now.form.value ≡ f = search rules in
    (omega (arith, size_form c.args.e.now f h, c.in-Many.ensures.falls), (c.requires.within, c.requires.there))

pub play_expr-returns-in_err-values-in-Many-clause-err : goal.play_expr-returns-in_err-values-in-Many-clause-err
play_expr-returns-in_err-values-in-Many-clause-err t c =
    let x = c.args.context.now in let p = c.args.progress.now in let s = site_at x c.args.seen in let sc = pairs_view c.args.scope.now in let f = c.as_ref-form.result.now in let h : c.args.e.now.form.value ≡ f = search rules in let m = means_form c.args.e.now f h s sc ∙ c.in-Many.ensures.means s sc in let e = c.in_err-values-in-Many.field-0.0 in let new = c.play_exprs.new.progress in
    handed_on c.from_residual-in_err-values-in-Many.result e _ (fails_as x p new e m (first_fails x p new (exprs_mean (exprs_of (map expr_view c.in-Many.es.now)) s sc) (λ vs. after_many (form_view f) vs) e c.in_err-values-in-Many.ensures.err)) c.from_residual-in_err-values-in-Many.ensures.1

pub play_expr-of_many-requires : goal.play_expr-of_many-requires
play_expr-of_many-requires t c =
    record { within = (c.in_ok-values-in-Many.ensures.ok).within }

pub play_expr-returns-in_ok-values-in-Many-clause-ok : goal.play_expr-returns-in_ok-values-in-Many-clause-ok
play_expr-returns-in_ok-values-in-Many-clause-ok t c =
    let x = c.args.context.now in let p = c.args.progress.now in let s = site_at x c.args.seen in let sc = pairs_view c.args.scope.now in let f = c.as_ref-form.result.now in let h : c.args.e.now.form.value ≡ f = search rules in let m = means_form c.args.e.now f h s sc ∙ c.in-Many.ensures.means s sc in
    IfOk-weaker c.of_many.result _ _ (λ r k. gives_as m (then_gives (λ vs. after_many (form_view f) vs) c.in_ok-values-in-Many.ensures.ok k)) (c.of_many.ensures.ok)

pub play_expr-returns-in_ok-values-in-Many-clause-err : goal.play_expr-returns-in_ok-values-in-Many-clause-err
play_expr-returns-in_ok-values-in-Many-clause-err t c =
    let x = c.args.context.now in let p = c.args.progress.now in let s = site_at x c.args.seen in let sc = pairs_view c.args.scope.now in let f = c.as_ref-form.result.now in let h : c.args.e.now.form.value ≡ f = search rules in let m = means_form c.args.e.now f h s sc ∙ c.in-Many.ensures.means s sc in let new = c.play_exprs.new.progress in
    IfErr-weaker c.of_many.result _ _ (λ e k. fails_as x p new e m (then_fails (λ vs. after_many (form_view f) vs) new e c.in_ok-values-in-Many.ensures.ok k)) (c.of_many.ensures.err)

pub play_expr-play_exprs-requires-in-Call : goal.play_expr-play_exprs-requires-in-Call
play_expr-play_exprs-requires-in-Call t c =
    let f = c.as_ref-form.result.now in let h : c.args.e.now.form.value ≡ f = search rules in
    (omega (arith, size_form c.args.e.now f h, c.in-Call.ensures.falls), (c.requires.within, c.requires.there))

pub play_expr-returns-in_err-values-in-Call-clause-err : goal.play_expr-returns-in_err-values-in-Call-clause-err
play_expr-returns-in_err-values-in-Call-clause-err t c =
    let x = c.args.context.now in let p = c.args.progress.now in let s = site_at x c.args.seen in let sc = pairs_view c.args.scope.now in let f = c.as_ref-form.result.now in let h : c.args.e.now.form.value ≡ f = search rules in let m = means_form c.args.e.now f h s sc ∙ c.in-Call.ensures.means s sc in let e = c.in_err-values-in-Call.field-0.0 in let new = c.play_exprs-in-Call.new.progress in
    handed_on c.from_residual-in_err-values-in-Call.result e _ (fails_as x p new e m (first_fails x p new (exprs_mean (exprs_of (map expr_view c.in-Call.es.now)) s sc) (λ vs. helper_value s c.in-Call.name.now vs) e c.in_err-values-in-Call.ensures.err)) c.from_residual-in_err-values-in-Call.ensures.1

pub play_expr-call_helper-requires : goal.play_expr-call_helper-requires
play_expr-call_helper-requires t c =
    let f = c.as_ref-form.result.now in let h : c.args.e.now.form.value ≡ f = search rules in
    (omega (arith, size_form c.args.e.now f h), ((c.in_ok-values-in-Call.ensures.ok).within, c.requires.there))

pub play_expr-returns-in_ok-values-in-Call-clause-ok : goal.play_expr-returns-in_ok-values-in-Call-clause-ok
play_expr-returns-in_ok-values-in-Call-clause-ok t c =
    let x = c.args.context.now in let p = c.args.progress.now in let s = site_at x c.args.seen in let sc = pairs_view c.args.scope.now in let f = c.as_ref-form.result.now in let h : c.args.e.now.form.value ≡ f = search rules in let m = means_form c.args.e.now f h s sc ∙ c.in-Call.ensures.means s sc in
    IfOk-weaker c.call_helper.result _ _ (λ r k. gives_as m (then_gives (λ vs. helper_value s c.in-Call.name.now vs) c.in_ok-values-in-Call.ensures.ok k)) (c.call_helper.ensures.ok)

pub play_expr-returns-in_ok-values-in-Call-clause-err : goal.play_expr-returns-in_ok-values-in-Call-clause-err
play_expr-returns-in_ok-values-in-Call-clause-err t c =
    let x = c.args.context.now in let p = c.args.progress.now in let s = site_at x c.args.seen in let sc = pairs_view c.args.scope.now in let f = c.as_ref-form.result.now in let h : c.args.e.now.form.value ≡ f = search rules in let m = means_form c.args.e.now f h s sc ∙ c.in-Call.ensures.means s sc in let new = c.call_helper.new.progress in
    IfErr-weaker c.call_helper.result _ _ (λ e k. fails_as x p new e m (then_fails (λ vs. helper_value s c.in-Call.name.now vs) new e c.in_ok-values-in-Call.ensures.ok k)) (c.call_helper.ensures.err)

pub play_expr-play_entries-requires : goal.play_expr-play_entries-requires
play_expr-play_entries-requires t c =
    let f = c.as_ref-form.result.now in let h : c.args.e.now.form.value ≡ f = search rules in
    (omega (arith, size_form c.args.e.now f h, c.in-Members.ensures.falls), (c.requires.within, c.requires.there))

pub play_expr-returns-in_err-members-in-Members-clause-err : goal.play_expr-returns-in_err-members-in-Members-clause-err
play_expr-returns-in_err-members-in-Members-clause-err t c =
    let x = c.args.context.now in let p = c.args.progress.now in let s = site_at x c.args.seen in let sc = pairs_view c.args.scope.now in let f = c.as_ref-form.result.now in let h : c.args.e.now.form.value ≡ f = search rules in let m = means_form c.args.e.now f h s sc ∙ c.in-Members.ensures.means s sc in let e = c.in_err-members-in-Members.field-0.0 in let new = c.play_entries.new.progress in
    handed_on c.from_residual-in_err-members-in-Members.result e _ (fails_as x p new e m (first_fails x p new (entries_mean (entries_of (map (λ p. (p.0, expr_view p.1)) c.in-Members.entries.now)) s sc) (λ ms. after_members ms) e c.in_err-members-in-Members.ensures.err)) c.from_residual-in_err-members-in-Members.ensures.1

pub play_expr-of_members-requires : goal.play_expr-of_members-requires
play_expr-of_members-requires t c =
    record { within = (c.in_ok-members-in-Members.ensures.ok).within }

pub play_expr-returns-in_ok-members-in-Members-clause-ok : goal.play_expr-returns-in_ok-members-in-Members-clause-ok
play_expr-returns-in_ok-members-in-Members-clause-ok t c =
    let x = c.args.context.now in let p = c.args.progress.now in let s = site_at x c.args.seen in let sc = pairs_view c.args.scope.now in let f = c.as_ref-form.result.now in let h : c.args.e.now.form.value ≡ f = search rules in let m = means_form c.args.e.now f h s sc ∙ c.in-Members.ensures.means s sc in
    IfOk-weaker c.of_members.result _ _ (λ r k. gives_as m (then_gives (λ ms. after_members ms) c.in_ok-members-in-Members.ensures.ok k)) (c.of_members.ensures.ok)

pub play_expr-returns-in_ok-members-in-Members-clause-err : goal.play_expr-returns-in_ok-members-in-Members-clause-err
play_expr-returns-in_ok-members-in-Members-clause-err t c =
    let x = c.args.context.now in let p = c.args.progress.now in let s = site_at x c.args.seen in let sc = pairs_view c.args.scope.now in let f = c.as_ref-form.result.now in let h : c.args.e.now.form.value ≡ f = search rules in let m = means_form c.args.e.now f h s sc ∙ c.in-Members.ensures.means s sc in let new = c.play_entries.new.progress in
    IfErr-weaker c.of_members.result _ _ (λ e k. fails_as x p new e m (then_fails (λ ms. after_members ms) new e c.in_ok-members-in-Members.ensures.ok k)) (c.of_members.ensures.err)

pub play_expr-play_expr-requires-in-Two : goal.play_expr-play_expr-requires-in-Two
play_expr-play_expr-requires-in-Two t c =
    let f = c.as_ref-form.result.now in let h : c.args.e.now.form.value ≡ f = search rules in
    (omega (arith, size_form c.args.e.now f h, c.in-Two.ensures.falls), (c.requires.within, c.requires.there))

pub play_expr-play_expr-requires-in-Two-2 : goal.play_expr-play_expr-requires-in-Two-2
play_expr-play_expr-requires-in-Two-2 t c =
    let f = c.as_ref-form.result.now in let h : c.args.e.now.form.value ≡ f = search rules in
    (omega (arith, size_form c.args.e.now f h, c.in-Two.ensures.falls), ((c.in_ok-v-in-Two.ensures.ok).within, c.requires.there))

pub play_expr-returns-in_err-v-in-Two-clause-err : goal.play_expr-returns-in_err-v-in-Two-clause-err
play_expr-returns-in_err-v-in-Two-clause-err t c =
    let x = c.args.context.now in let p = c.args.progress.now in let s = site_at x c.args.seen in let sc = pairs_view c.args.scope.now in let f = c.as_ref-form.result.now in let h : c.args.e.now.form.value ≡ f = search rules in let m = means_form c.args.e.now f h s sc ∙ c.in-Two.ensures.means s sc in let a = expr_means (expr_view c.in-Two.a.now) s sc in let b = expr_means (expr_view c.in-Two.b.now) s sc in let e = c.in_err-v-in-Two.field-0.0 in let new = c.play_expr-in-Two.new.progress in
    handed_on c.from_residual-in_err-v-in-Two.result e _ (fails_as x p new e m (first_fails x p new a (λ v. b >>= (λ w. after_two (form_view f) s v w)) e c.in_err-v-in-Two.ensures.err)) c.from_residual-in_err-v-in-Two.ensures.1

pub play_expr-returns-in_err-w-in-Two-clause-err : goal.play_expr-returns-in_err-w-in-Two-clause-err
play_expr-returns-in_err-w-in-Two-clause-err t c =
    let x = c.args.context.now in let p = c.args.progress.now in let s = site_at x c.args.seen in let sc = pairs_view c.args.scope.now in let f = c.as_ref-form.result.now in let h : c.args.e.now.form.value ≡ f = search rules in let m = means_form c.args.e.now f h s sc ∙ c.in-Two.ensures.means s sc in
    let a = expr_means (expr_view c.in-Two.a.now) s sc in let b = expr_means (expr_view c.in-Two.b.now) s sc in let e = c.in_err-w-in-Two.field-0.0 in let mid = c.play_expr-in-Two.new.progress in let new = c.play_expr-in-Two-2.new.progress in
    handed_on c.from_residual-in_err-w-in-Two.result e _
    (fails_as x p new e m (then_fails (λ v. b >>= (λ w. after_two (form_view f) s v w)) new e c.in_ok-v-in-Two.ensures.ok (first_fails x mid new b (λ w. after_two (form_view f) s (tree c.in_ok-v-in-Two.v) w) e c.in_err-w-in-Two.ensures.err)))
    c.from_residual-in_err-w-in-Two.ensures.1

pub play_expr-of_two-requires : goal.play_expr-of_two-requires
play_expr-of_two-requires t c =
    record { within = (c.in_ok-w-in-Two.ensures.ok).within }

pub play_expr-returns-in_ok-w-in-Two-clause-ok : goal.play_expr-returns-in_ok-w-in-Two-clause-ok
play_expr-returns-in_ok-w-in-Two-clause-ok t c =
    let x = c.args.context.now in let p = c.args.progress.now in let s = site_at x c.args.seen in let sc = pairs_view c.args.scope.now in let f = c.as_ref-form.result.now in let h : c.args.e.now.form.value ≡ f = search rules in let m = means_form c.args.e.now f h s sc ∙ c.in-Two.ensures.means s sc in let a = expr_means (expr_view c.in-Two.a.now) s sc in let b = expr_means (expr_view c.in-Two.b.now) s sc in
    IfOk-weaker c.of_two.result _ _ (λ r k. gives_as m (then_gives (λ v. b >>= (λ w. after_two (form_view f) s v w)) c.in_ok-v-in-Two.ensures.ok (then_gives (λ w. after_two (form_view f) s (tree c.in_ok-v-in-Two.v) w) c.in_ok-w-in-Two.ensures.ok k))) (c.of_two.ensures.ok c.args.seen)

pub play_expr-returns-in_ok-w-in-Two-clause-err : goal.play_expr-returns-in_ok-w-in-Two-clause-err
play_expr-returns-in_ok-w-in-Two-clause-err t c =
    let x = c.args.context.now in let p = c.args.progress.now in let s = site_at x c.args.seen in let sc = pairs_view c.args.scope.now in let f = c.as_ref-form.result.now in let h : c.args.e.now.form.value ≡ f = search rules in let m = means_form c.args.e.now f h s sc ∙ c.in-Two.ensures.means s sc in let a = expr_means (expr_view c.in-Two.a.now) s sc in let b = expr_means (expr_view c.in-Two.b.now) s sc in let new = c.of_two.new.progress in
    IfErr-weaker c.of_two.result _ _ (λ e k. fails_as x p new e m (then_fails (λ v. b >>= (λ w. after_two (form_view f) s v w)) new e c.in_ok-v-in-Two.ensures.ok (then_fails (λ w. after_two (form_view f) s (tree c.in_ok-v-in-Two.v) w) new e c.in_ok-w-in-Two.ensures.ok k))) (c.of_two.ensures.err c.args.seen)

pub play_expr-play_either-requires : goal.play_expr-play_either-requires
play_expr-play_either-requires t c =
    let f = c.as_ref-form.result.now in let h : c.args.e.now.form.value ≡ f = search rules in
    (omega (arith, size_form c.args.e.now f h, c.in-Either.ensures.falls), (c.requires.within, c.requires.there))

pub play_expr-returns-in-Either-clause-ok : goal.play_expr-returns-in-Either-clause-ok
play_expr-returns-in-Either-clause-ok t c =
    let x = c.args.context.now in let p = c.args.progress.now in let s = site_at x c.args.seen in let sc = pairs_view c.args.scope.now in let f = c.as_ref-form.result.now in let h : c.args.e.now.form.value ≡ f = search rules in let m = means_form c.args.e.now f h s sc ∙ c.in-Either.ensures.means s sc in
    IfOk-weaker c.play_either.result _ _ (λ r k. gives_as m k) c.play_either.ensures.ok

pub play_expr-returns-in-Either-clause-err : goal.play_expr-returns-in-Either-clause-err
play_expr-returns-in-Either-clause-err t c =
    let x = c.args.context.now in let p = c.args.progress.now in let s = site_at x c.args.seen in let sc = pairs_view c.args.scope.now in let f = c.as_ref-form.result.now in let h : c.args.e.now.form.value ≡ f = search rules in let m = means_form c.args.e.now f h s sc ∙ c.in-Either.ensures.means s sc in
    IfErr-weaker c.play_either.result _ _ (λ e k. fails_as x p c.play_either.new.progress e m k) c.play_either.ensures.err

pub play_expr-play_bounds-requires : goal.play_expr-play_bounds-requires
play_expr-play_bounds-requires t c =
    let f = c.as_ref-form.result.now in let h : c.args.e.now.form.value ≡ f = search rules in
    (omega (arith, size_form c.args.e.now f h, c.in-Bounded.ensures.falls), (c.requires.within, c.requires.there))

pub play_expr-play_limit-requires : goal.play_expr-play_limit-requires
play_expr-play_limit-requires t c =
    let f = c.as_ref-form.result.now in let h : c.args.e.now.form.value ≡ f = search rules in
    (omega (arith, size_form c.args.e.now f h, c.in-Bounded.ensures.falls), ((c.in_ok-bounds-in-Bounded.ensures.ok).within, c.requires.there))

pub play_expr-returns-in_err-bounds-in-Bounded-clause-err : goal.play_expr-returns-in_err-bounds-in-Bounded-clause-err
play_expr-returns-in_err-bounds-in-Bounded-clause-err t c =
    let x = c.args.context.now in let p = c.args.progress.now in let s = site_at x c.args.seen in let sc = pairs_view c.args.scope.now in let f = c.as_ref-form.result.now in let h : c.args.e.now.form.value ≡ f = search rules in let m = means_form c.args.e.now f h s sc ∙ c.in-Bounded.ensures.means s sc in
    let a = bounds_mean (bounds_of (map bound_view c.in-Bounded.bounds.now)) s sc in let b = limit_means (limit_of (option_map expr_view c.in-Bounded.take.now)) s sc in let e = c.in_err-bounds-in-Bounded.field-0.0 in let new = c.play_bounds.new.progress in
    handed_on c.from_residual-in_err-bounds-in-Bounded.result e _ (fails_as x p new e m (first_fails x p new a (λ bounds. b >>= (λ most. after_bounds (form_view f) s bounds most)) e c.in_err-bounds-in-Bounded.ensures.err)) c.from_residual-in_err-bounds-in-Bounded.ensures.1

pub play_expr-returns-in_err-limit-in-Bounded-clause-err : goal.play_expr-returns-in_err-limit-in-Bounded-clause-err
play_expr-returns-in_err-limit-in-Bounded-clause-err t c =
    let x = c.args.context.now in let p = c.args.progress.now in let s = site_at x c.args.seen in let sc = pairs_view c.args.scope.now in let f = c.as_ref-form.result.now in let h : c.args.e.now.form.value ≡ f = search rules in let m = means_form c.args.e.now f h s sc ∙ c.in-Bounded.ensures.means s sc in
    let a = bounds_mean (bounds_of (map bound_view c.in-Bounded.bounds.now)) s sc in let b = limit_means (limit_of (option_map expr_view c.in-Bounded.take.now)) s sc in let e = c.in_err-limit-in-Bounded.field-0.0 in let mid = c.play_bounds.new.progress in let new = c.play_limit.new.progress in
    handed_on c.from_residual-in_err-limit-in-Bounded.result e _
    (fails_as x p new e m (then_fails (λ bounds. b >>= (λ most. after_bounds (form_view f) s bounds most)) new e c.in_ok-bounds-in-Bounded.ensures.ok (first_fails x mid new b (λ most. after_bounds (form_view f) s (bounds_view c.in_ok-bounds-in-Bounded.bounds.items) most) e c.in_err-limit-in-Bounded.ensures.err)))
    c.from_residual-in_err-limit-in-Bounded.ensures.1

pub play_expr-of_bounds-requires : goal.play_expr-of_bounds-requires
play_expr-of_bounds-requires t c =
    record { within = (c.in_ok-limit-in-Bounded.ensures.ok).within }

pub play_expr-returns-in_ok-limit-in-Bounded-clause-ok : goal.play_expr-returns-in_ok-limit-in-Bounded-clause-ok
play_expr-returns-in_ok-limit-in-Bounded-clause-ok t c =
    let x = c.args.context.now in let p = c.args.progress.now in let s = site_at x c.args.seen in let sc = pairs_view c.args.scope.now in let f = c.as_ref-form.result.now in let h : c.args.e.now.form.value ≡ f = search rules in let m = means_form c.args.e.now f h s sc ∙ c.in-Bounded.ensures.means s sc in let a = bounds_mean (bounds_of (map bound_view c.in-Bounded.bounds.now)) s sc in let b = limit_means (limit_of (option_map expr_view c.in-Bounded.take.now)) s sc in
    IfOk-weaker c.of_bounds.result _ _ (λ r k. gives_as m (then_gives (λ bounds. b >>= (λ most. after_bounds (form_view f) s bounds most)) c.in_ok-bounds-in-Bounded.ensures.ok (then_gives (λ most. after_bounds (form_view f) s (bounds_view c.in_ok-bounds-in-Bounded.bounds.items) most) c.in_ok-limit-in-Bounded.ensures.ok k))) (c.of_bounds.ensures.ok c.args.seen)

pub play_expr-returns-in_ok-limit-in-Bounded-clause-err : goal.play_expr-returns-in_ok-limit-in-Bounded-clause-err
play_expr-returns-in_ok-limit-in-Bounded-clause-err t c =
    let x = c.args.context.now in let p = c.args.progress.now in let s = site_at x c.args.seen in let sc = pairs_view c.args.scope.now in let f = c.as_ref-form.result.now in let h : c.args.e.now.form.value ≡ f = search rules in let m = means_form c.args.e.now f h s sc ∙ c.in-Bounded.ensures.means s sc in let a = bounds_mean (bounds_of (map bound_view c.in-Bounded.bounds.now)) s sc in let b = limit_means (limit_of (option_map expr_view c.in-Bounded.take.now)) s sc in let new = c.of_bounds.new.progress in
    IfErr-weaker c.of_bounds.result _ _ (λ e k. fails_as x p new e m (then_fails (λ bounds. b >>= (λ most. after_bounds (form_view f) s bounds most)) new e c.in_ok-bounds-in-Bounded.ensures.ok (then_fails (λ most. after_bounds (form_view f) s (bounds_view c.in_ok-bounds-in-Bounded.bounds.items) most) new e c.in_ok-limit-in-Bounded.ensures.ok k))) (c.of_bounds.ensures.err c.args.seen)

pub play_expr-leaf_value-requires : goal.play_expr-leaf_value-requires
play_expr-leaf_value-requires t c =
    record { within = c.requires.within }

pub play_limit-play_expr-requires : goal.play_limit-play_expr-requires
play_limit-play_expr-requires t c =
    (omega (arith, ap (λ (o : Option Held). limit_size (limit_of (option_map expr_view o))) c.in-Some.is), (c.requires.within, c.requires.there))

pub play_limit-returns-in_err-most-in-Some-clause-err : goal.play_limit-returns-in_err-most-in-Some-clause-err
play_limit-returns-in_err-most-in-Some-clause-err t c =
    let x = c.args.context.now in let p = c.args.progress.now in let s = site_at x c.args.seen in let sc = pairs_view c.args.scope.now in let m = ap (λ (o : Option Held). limit_means (limit_of (option_map expr_view o)) s sc) c.in-Some.is in let a = expr_means (expr_view c.in-Some.e) s sc in let e = c.in_err-most-in-Some.field-0.0 in let new = c.play_expr.new.progress in
    handed_on c.from_residual.result e _ (fails_as x p new e m (first_fails x p new a limit_value e c.in_err-most-in-Some.ensures.err)) c.from_residual.ensures.1

pub play_limit-limit_of-requires : goal.play_limit-limit_of-requires
play_limit-limit_of-requires t c =
    record { within = (c.in_ok-most-in-Some.ensures.ok).within }

pub play_limit-returns-in-None-clause-ok : goal.play_limit-returns-in-None-clause-ok
play_limit-returns-in-None-clause-ok t c =
    let x = c.args.context.now in let p = c.args.progress.now in let s = site_at x c.args.seen in let sc = pairs_view c.args.scope.now in let m = ap (λ (o : Option Held). limit_means (limit_of (option_map expr_view o)) s sc) c.in-None.is in
    gives_as m (gave_pure None c.requires.within)

pub play_limit-returns-in_ok-most-in-Some-clause-ok : goal.play_limit-returns-in_ok-most-in-Some-clause-ok
play_limit-returns-in_ok-most-in-Some-clause-ok t c =
    let x = c.args.context.now in let p = c.args.progress.now in let s = site_at x c.args.seen in let sc = pairs_view c.args.scope.now in let m = ap (λ (o : Option Held). limit_means (limit_of (option_map expr_view o)) s sc) c.in-Some.is in let a = expr_means (expr_view c.in-Some.e) s sc in
    IfOk-weaker c.limit_of.result _ _ (λ r k. gives_as m (then_gives limit_value c.in_ok-most-in-Some.ensures.ok k)) c.limit_of.ensures.ok

pub play_limit-returns-in_ok-most-in-Some-clause-err : goal.play_limit-returns-in_ok-most-in-Some-clause-err
play_limit-returns-in_ok-most-in-Some-clause-err t c =
    let x = c.args.context.now in let p = c.args.progress.now in let s = site_at x c.args.seen in let sc = pairs_view c.args.scope.now in let m = ap (λ (o : Option Held). limit_means (limit_of (option_map expr_view o)) s sc) c.in-Some.is in let a = expr_means (expr_view c.in-Some.e) s sc in let new = c.play_expr.new.progress in
    IfErr-weaker c.limit_of.result _ _ (λ e k. fails_as x p new e m (then_fails limit_value new e c.in_ok-most-in-Some.ensures.ok k)) c.limit_of.ensures.err

pub play_either-play_expr-requires : goal.play_either-play_expr-requires
play_either-play_expr-requires t c =
    (omega arith, (c.requires.within, c.requires.there))

pub play_either-play_expr-requires-2 : goal.play_either-play_expr-requires-2
play_either-play_expr-requires-2 t c =
    (omega arith, ((c.in_ok-left.ensures.ok).within, c.requires.there))

pub play_either-returns-in_err-left-clause-err : goal.play_either-returns-in_err-left-clause-err
play_either-returns-in_err-left-clause-err t c =
    let x = c.args.context.now in let p = c.args.progress.now in let s = site_at x c.args.seen in let sc = pairs_view c.args.scope.now in let d = c.args.decides in let a = expr_means (expr_view c.args.a.now) s sc in let b = expr_means (expr_view c.args.b.now) s sc in let rest = λ (v : Value). as_truth v >>= (λ z. right_side d z b) in let e = c.in_err-left.field-0.0 in
    handed_on c.from_residual.result e _ (first_fails x p c.play_expr.new.progress a rest e c.in_err-left.ensures.err) c.from_residual.ensures.1

pub play_either-returns-in_err-as_truth-clause-err : goal.play_either-returns-in_err-as_truth-clause-err
play_either-returns-in_err-as_truth-clause-err t c =
    let x = c.args.context.now in let p = c.args.progress.now in let s = site_at x c.args.seen in let sc = pairs_view c.args.scope.now in let d = c.args.decides in let a = expr_means (expr_view c.args.a.now) s sc in let b = expr_means (expr_view c.args.b.now) s sc in let rest = λ (v : Value). as_truth v >>= (λ z. right_side d z b) in let e = c.in_err-as_truth.field-0.0 in let mid = c.play_expr.new.progress in
    handed_on c.from_residual-in_err-as_truth.result e _
    (then_fails rest mid e c.in_ok-left.ensures.ok (first_fails x mid mid (as_truth (tree c.in_ok-left.left)) (λ z. right_side d z b) e (refused x mid e c.in_err-as_truth.ensures.err)))
    c.from_residual-in_err-as_truth.ensures.1

pub play_either-returns-then-branch-decides-clause-ok : goal.play_either-returns-then-branch-decides-clause-ok
play_either-returns-then-branch-decides-clause-ok t c =
    let x = c.args.context.now in let p = c.args.progress.now in let s = site_at x c.args.seen in let sc = pairs_view c.args.scope.now in let d = c.args.decides in let a = expr_means (expr_view c.args.a.now) s sc in let b = expr_means (expr_view c.args.b.now) s sc in let rest = λ (v : Value). as_truth v >>= (λ z. right_side d z b) in let w = (c.in_ok-left.ensures.ok).within in let z = c.in_ok-as_truth.field-0 in let known = gives_as c.in_ok-as_truth.ensures.ok (gave_pure z w) in
    then_gives rest c.in_ok-left.ensures.ok (then_gives (λ y. right_side d y b) known (gives_as (decided d z b c.if-branch-decides.true) (gave_pure (boolean d) w)))

pub play_either-returns-in_err-right-clause-err : goal.play_either-returns-in_err-right-clause-err
play_either-returns-in_err-right-clause-err t c =
    let x = c.args.context.now in let p = c.args.progress.now in let s = site_at x c.args.seen in let sc = pairs_view c.args.scope.now in let d = c.args.decides in let a = expr_means (expr_view c.args.a.now) s sc in let b = expr_means (expr_view c.args.b.now) s sc in
    let rest = λ (v : Value). as_truth v >>= (λ z. right_side d z b) in let w = (c.in_ok-left.ensures.ok).within in let z = c.in_ok-as_truth.field-0 in let known = gives_as c.in_ok-as_truth.ensures.ok (gave_pure z w) in let e = c.in_err-right.field-0.0 in let mid = c.play_expr.new.progress in let new = c.play_expr-2.new.progress in
    handed_on c.from_residual-in_err-right.result e _
    (then_fails rest new e c.in_ok-left.ensures.ok (then_fails (λ y. right_side d y b) new e known
    (fails_as x mid new e (undecided d z b c.if-branch-decides.false) (first_fails x mid new b as_boolean e c.in_err-right.ensures.err))))
    c.from_residual-in_err-right.ensures.1

pub play_either-returns-in_err-as_truth-2-clause-err : goal.play_either-returns-in_err-as_truth-2-clause-err
play_either-returns-in_err-as_truth-2-clause-err t c =
    let x = c.args.context.now in let p = c.args.progress.now in let s = site_at x c.args.seen in let sc = pairs_view c.args.scope.now in let d = c.args.decides in let a = expr_means (expr_view c.args.a.now) s sc in let b = expr_means (expr_view c.args.b.now) s sc in
    let rest = λ (v : Value). as_truth v >>= (λ z. right_side d z b) in let w = (c.in_ok-left.ensures.ok).within in let z = c.in_ok-as_truth.field-0 in let known = gives_as c.in_ok-as_truth.ensures.ok (gave_pure z w) in let e = c.in_err-as_truth-2.field-0.0 in let mid = c.play_expr.new.progress in let new = c.play_expr-2.new.progress in
    handed_on c.from_residual-in_err-as_truth-2.result e _
    (then_fails rest new e c.in_ok-left.ensures.ok (then_fails (λ y. right_side d y b) new e known
    (fails_as x mid new e (undecided d z b c.if-branch-decides.false) (then_fails as_boolean new e c.in_ok-right.ensures.ok
    (first_fails x new new (as_truth (tree c.in_ok-right.right)) (λ y. give (boolean y)) e (refused x new e c.in_err-as_truth-2.ensures.err))))))
    c.from_residual-in_err-as_truth-2.ensures.1

pub play_either-returns-clause-ok : goal.play_either-returns-clause-ok
play_either-returns-clause-ok t c =
    let x = c.args.context.now in let p = c.args.progress.now in let s = site_at x c.args.seen in let sc = pairs_view c.args.scope.now in let d = c.args.decides in let a = expr_means (expr_view c.args.a.now) s sc in let b = expr_means (expr_view c.args.b.now) s sc in
    let rest = λ (v : Value). as_truth v >>= (λ z. right_side d z b) in let w = (c.in_ok-left.ensures.ok).within in let z = c.in_ok-as_truth.field-0 in let known = gives_as c.in_ok-as_truth.ensures.ok (gave_pure z w) in let y = c.in_ok-as_truth-2.field-0 in let v = (c.in_ok-right.ensures.ok).within in
    then_gives rest c.in_ok-left.ensures.ok (then_gives (λ y. right_side d y b) known
    (gives_as (undecided d z b c.if-branch-decides.false) (then_gives as_boolean c.in_ok-right.ensures.ok
    (then_gives (λ y. give (boolean y)) (gives_as c.in_ok-as_truth-2.ensures.ok (gave_pure y v)) (gave_pure (boolean y) v)))))

pub call_helper-spend-requires : goal.call_helper-spend-requires
call_helper-spend-requires t c =
    record { within = c.requires.within }

pub call_helper-find_helper-requires : goal.call_helper-find_helper-requires
call_helper-find_helper-requires t c =
    record { there = c.requires.there }

pub call_helper-returns-in_err-spend-clause-err : goal.call_helper-returns-in_err-spend-clause-err
call_helper-returns-in_err-spend-clause-err t c =
    let x = c.args.context.now in let p = c.args.progress.now in let s = site_at x c.args.seen in let vs = map tree c.args.values.items in let call = λ (m : Meaning). m vs in let rest = λ (u : Unit {0}). or_type_error (at_name c.args.name.now s.helpers) >>= call in let e = c.in_err-spend.field-0.0 in
    handed_on c.from_residual.result e _ (first_fails x p c.spend.new.progress (spend s) rest e (c.in_err-spend.ensures.err c.args.seen)) c.from_residual.ensures.1

pub call_helper-returns-in_default-clause-err : goal.call_helper-returns-in_default-clause-err
call_helper-returns-in_default-clause-err t c =
    let x = c.args.context.now in let p = c.args.progress.now in let s = site_at x c.args.seen in let vs = map tree c.args.values.items in let call = λ (m : Meaning). m vs in let rest = λ (u : Unit {0}). or_type_error (at_name c.args.name.now s.helpers) >>= call in let mid = c.spend.new.progress in let e = c.failure.result in
    then_fails rest mid e (c.in_ok-spend.ensures.ok c.args.seen)
    (first_fails x mid mid (or_type_error (at_name c.args.name.now s.helpers)) call e (fails_by x mid e (codes "TypeError") (ap or_type_error c.in_default.ensures.none) c.failure.ensures))

pub call_helper-play_function-requires : goal.call_helper-play_function-requires
call_helper-play_function-requires t c =
    let found = c.in-Some.ensures.some.0 in
    (omega (arith, size_rises (map function_view c.args.context.now.functions.now) (c.in-Some.number + 1) c.args.seen (omega arith)), ((c.in_ok-spend.ensures.ok c.args.seen).within, omega (arith, c.requires.there)))

pub call_helper-returns-clause-ok : goal.call_helper-returns-clause-ok
call_helper-returns-clause-ok t c =
    let x = c.args.context.now in let p = c.args.progress.now in let s = site_at x c.args.seen in let vs = map tree c.args.values.items in let call = λ (m : Meaning). m vs in let rest = λ (u : Unit {0}). or_type_error (at_name c.args.name.now s.helpers) >>= call in
    let g = got c.args.context.now.functions.now c.in-Some.number (omega (arith, c.in-Some.ensures.some.0, c.requires.there)) in let found = c.in-Some.ensures.some.1 ∙ ap (option_map (function_means (site_at x c.in-Some.number))) g.1 in let w = (c.in_ok-spend.ensures.ok c.args.seen).within in let known = gives_as (ap or_type_error found) (gave_pure (function_means (site_at x c.in-Some.number) g.0) w) in
    IfOk-weaker c.play_function.result _ _ (λ r k. then_gives rest (c.in_ok-spend.ensures.ok c.args.seen) (then_gives call known k)) (c.play_function.ensures.ok g.0 g.1)

pub call_helper-returns-clause-err : goal.call_helper-returns-clause-err
call_helper-returns-clause-err t c =
    let x = c.args.context.now in let p = c.args.progress.now in let s = site_at x c.args.seen in let vs = map tree c.args.values.items in let call = λ (m : Meaning). m vs in let rest = λ (u : Unit {0}). or_type_error (at_name c.args.name.now s.helpers) >>= call in
    let g = got c.args.context.now.functions.now c.in-Some.number (omega (arith, c.in-Some.ensures.some.0, c.requires.there)) in let found = c.in-Some.ensures.some.1 ∙ ap (option_map (function_means (site_at x c.in-Some.number))) g.1 in let w = (c.in_ok-spend.ensures.ok c.args.seen).within in let known = gives_as (ap or_type_error found) (gave_pure (function_means (site_at x c.in-Some.number) g.0) w) in let new = c.play_function.new.progress in
    IfErr-weaker c.play_function.result _ _ (λ e k. then_fails rest new e (c.in_ok-spend.ensures.ok c.args.seen) (then_fails call new e known k)) (c.play_function.ensures.err g.0 g.1)

pub play_exprs-loop-e-init : goal.play_exprs-loop-e-init
play_exprs-loop-e-init t c =
    let x = c.args.context.now in let p = c.args.progress.now in let s = site_at x c.args.seen in let sc = pairs_view c.args.scope.now in let xs = c.args.es.now in let m = exprs_mean (exprs_of (map expr_view xs)) s sc in
    record { within = c.requires.within; reached = subst (λ vs. Reaches x p p m (behind (map tree vs) m)) (sym c.in_ok-values.ensures.items) (collect_none m) }

pub play_exprs-play_expr-requires : goal.play_exprs-play_expr-requires
play_exprs-play_expr-requires t c =
    let xs = c.args.es.now in let i = c.loop-e.e-index in let y = c.e-item.result in let h = item_falls (λ e. expr_size (expr_view e)) (λ es. exprs_size (exprs_of (map expr_view es))) (λ z zs. refl) xs i y (omega arith) c.e-item.is in
    (omega (arith, h), (c.loop-e.invariant.within, c.requires.there))

pub play_exprs-returns-in_err-play_expr-clause-err : goal.play_exprs-returns-in_err-play_expr-clause-err
play_exprs-returns-in_err-play_expr-clause-err t c =
    let x = c.args.context.now in let p = c.args.progress.now in let s = site_at x c.args.seen in let sc = pairs_view c.args.scope.now in let xs = c.args.es.now in let i = c.loop-e.e-index in let q = c.loop-e.progress in let m = λ (ys : List Held). exprs_mean (exprs_of (map expr_view ys)) s sc in let had = map tree c.loop-e.values.items in let y = c.e-item.result in let rest = m (drop (i + 1) xs) in let one = expr_means (expr_view y) s sc in
    let r : Reaches x p q (m xs) (behind had (and_rest (λ v. v) one rest)) = subst (λ ys. Reaches x p q (m xs) (behind had (m ys))) (next_left xs i y (omega arith) c.e-item.is) c.loop-e.invariant.reached in let e = c.in_err-play_expr.field-0.0 in let new = c.play_expr.new.progress in
    handed_on c.from_residual-in_err-play_expr.result e _ (collect_fails one rest (λ v. v) had new e r c.in_err-play_expr.ensures.err) c.from_residual-in_err-play_expr.ensures.1

pub play_exprs-loop-e-preserved : goal.play_exprs-loop-e-preserved
play_exprs-loop-e-preserved t c =
    let x = c.args.context.now in let p = c.args.progress.now in let s = site_at x c.args.seen in let sc = pairs_view c.args.scope.now in let xs = c.args.es.now in let i = c.loop-e.e-index in let q = c.loop-e.progress in let m = λ (ys : List Held). exprs_mean (exprs_of (map expr_view ys)) s sc in let had = map tree c.loop-e.values.items in let y = c.e-item.result in let rest = m (drop (i + 1) xs) in let one = expr_means (expr_view y) s sc in
    let r : Reaches x p q (m xs) (behind had (and_rest (λ v. v) one rest)) = subst (λ ys. Reaches x p q (m xs) (behind had (m ys))) (next_left xs i y (omega arith) c.e-item.is) c.loop-e.invariant.reached in let new = c.play_expr.new.progress in let v = c.in_ok-play_expr.field-0 in let more = collect_more rest (λ v. v) had r c.in_ok-play_expr.ensures.ok in
    record { within = (c.in_ok-play_expr.ensures.ok).within; reached = subst (λ vs. Reaches x p new (m xs) (behind vs rest)) (sym (ap (map tree) c.in_ok-push.ensures.items ∙ map-append tree c.loop-e.values.items (v ∷ []))) more }

pub play_exprs-returns-clause-ok : goal.play_exprs-returns-clause-ok
play_exprs-returns-clause-ok t c =
    let x = c.args.context.now in let p = c.args.progress.now in let s = site_at x c.args.seen in let sc = pairs_view c.args.scope.now in let xs = c.args.es.now in let i = c.loop-e.e-index in let q = c.loop-e.progress in let m = λ (ys : List Held). exprs_mean (exprs_of (map expr_view ys)) s sc in let had = map tree c.loop-e.values.items in
    collect_end had c.loop-e.invariant.within (subst (λ ys. Reaches x p q (m xs) (behind had (m ys))) (none_left xs i (omega arith)) c.loop-e.invariant.reached)

pub play_entries-loop-name-init : goal.play_entries-loop-name-init
play_entries-loop-name-init t c =
    let x = c.args.context.now in let p = c.args.progress.now in let s = site_at x c.args.seen in let sc = pairs_view c.args.scope.now in let xs = c.args.entries.now in let m = entries_mean (entries_of (map (λ p. (p.0, expr_view p.1)) xs)) s sc in
    record { within = c.requires.within; reached = subst (λ vs. Reaches x p p m (behind (pairs_view vs) m)) (sym c.in_ok-values.ensures.items) (collect_none m) }

pub play_entries-play_expr-requires : goal.play_entries-play_expr-requires
play_entries-play_expr-requires t c =
    let xs = c.args.entries.now in let i = c.loop-name.name-index in let y = c.loop-name-item.result in let h = item_falls (λ e. expr_size (expr_view e.1)) (λ es. entries_size (entries_of (map (λ p. (p.0, expr_view p.1)) es))) (λ z zs. refl) xs i y (omega arith) c.loop-name-item.is in
    (omega (arith, h), (c.loop-name.invariant.within, c.requires.there))

pub play_entries-returns-in_err-value-clause-err : goal.play_entries-returns-in_err-value-clause-err
play_entries-returns-in_err-value-clause-err t c =
    let x = c.args.context.now in let p = c.args.progress.now in let s = site_at x c.args.seen in let sc = pairs_view c.args.scope.now in let xs = c.args.entries.now in let i = c.loop-name.name-index in let q = c.loop-name.progress in let m = λ (ys : List (Named × Held)). entries_mean (entries_of (map (λ p. (p.0, expr_view p.1)) ys)) s sc in let had = pairs_view c.loop-name.values.items in let y = c.loop-name-item.result in let rest = m (drop (i + 1) xs) in let one = expr_means (expr_view y.1) s sc in
    let r : Reaches x p q (m xs) (behind had (and_rest (λ v. (y.0.text, v)) one rest)) = subst (λ ys. Reaches x p q (m xs) (behind had (m ys))) (next_left xs i y (omega arith) c.loop-name-item.is) c.loop-name.invariant.reached in let e = c.in_err-value.field-0.0 in let new = c.play_expr.new.progress in
    handed_on c.from_residual-in_err-value.result e _ (collect_fails one rest (λ v. (y.0.text, v)) had new e r c.in_err-value.ensures.err) c.from_residual-in_err-value.ensures.1

pub play_entries-loop-name-preserved : goal.play_entries-loop-name-preserved
play_entries-loop-name-preserved t c =
    let x = c.args.context.now in let p = c.args.progress.now in let s = site_at x c.args.seen in let sc = pairs_view c.args.scope.now in let xs = c.args.entries.now in let i = c.loop-name.name-index in let q = c.loop-name.progress in let m = λ (ys : List (Named × Held)). entries_mean (entries_of (map (λ p. (p.0, expr_view p.1)) ys)) s sc in let had = pairs_view c.loop-name.values.items in let y = c.loop-name-item.result in let rest = m (drop (i + 1) xs) in let one = expr_means (expr_view y.1) s sc in
    let r : Reaches x p q (m xs) (behind had (and_rest (λ v. (y.0.text, v)) one rest)) = subst (λ ys. Reaches x p q (m xs) (behind had (m ys))) (next_left xs i y (omega arith) c.loop-name-item.is) c.loop-name.invariant.reached in let new = c.play_expr.new.progress in let v = c.in_ok-value.value in let more = collect_more rest (λ v. (y.0.text, v)) had r c.in_ok-value.ensures.ok in
    record { within = (c.in_ok-value.ensures.ok).within; reached = subst (λ vs. Reaches x p new (m xs) (behind vs rest)) (sym (ap pairs_view c.in_ok-push.ensures.items ∙ map-append (λ (p : List ℕ × Val). (p.0, tree p.1)) c.loop-name.values.items ((c.in_ok-copy.field-0, v) ∷ []) ∙ ap (λ n. had ++ (n, tree v) ∷ []) c.in_ok-copy.ensures)) more }

pub play_entries-returns-clause-ok : goal.play_entries-returns-clause-ok
play_entries-returns-clause-ok t c =
    let x = c.args.context.now in let p = c.args.progress.now in let s = site_at x c.args.seen in let sc = pairs_view c.args.scope.now in let xs = c.args.entries.now in let i = c.loop-name.name-index in let q = c.loop-name.progress in let m = λ (ys : List (Named × Held)). entries_mean (entries_of (map (λ p. (p.0, expr_view p.1)) ys)) s sc in let had = pairs_view c.loop-name.values.items in
    collect_end had c.loop-name.invariant.within (subst (λ ys. Reaches x p q (m xs) (behind had (m ys))) (none_left xs i (omega arith)) c.loop-name.invariant.reached)

pub play_bounds-loop-bound-init : goal.play_bounds-loop-bound-init
play_bounds-loop-bound-init t c =
    let x = c.args.context.now in let p = c.args.progress.now in let s = site_at x c.args.seen in let sc = pairs_view c.args.scope.now in let xs = c.args.bounds.now in let m = bounds_mean (bounds_of (map bound_view xs)) s sc in
    record { within = c.requires.within; reached = subst (λ vs. Reaches x p p m (behind (bounds_view vs) m)) (sym c.in_ok-values.ensures.items) (collect_none m) }

pub play_bounds-play_expr-requires : goal.play_bounds-play_expr-requires
play_bounds-play_expr-requires t c =
    let xs = c.args.bounds.now in let i = c.loop-bound.bound-index in let y = c.bound-item.result in let h = item_falls (λ b. expr_size (bound_view b).2) (λ bs. bounds_size (bounds_of (map bound_view bs))) (λ z zs. refl) xs i y (omega arith) c.bound-item.is in
    (omega (arith, h, ap (λ b. expr_size b.2) (bound_is y)), (c.loop-bound.invariant.within, c.requires.there))

pub play_bounds-returns-in_err-value-clause-err : goal.play_bounds-returns-in_err-value-clause-err
play_bounds-returns-in_err-value-clause-err t c =
    let x = c.args.context.now in let p = c.args.progress.now in let s = site_at x c.args.seen in let sc = pairs_view c.args.scope.now in let xs = c.args.bounds.now in let i = c.loop-bound.bound-index in let q = c.loop-bound.progress in let m = λ (ys : List HeldBound). bounds_mean (bounds_of (map bound_view ys)) s sc in let had = bounds_view c.loop-bound.values.items in let y = c.bound-item.result in let rest = m (drop (i + 1) xs) in let one = expr_means (bound_view y).2 s sc in
    let r : Reaches x p q (m xs) (behind had (and_rest (λ v. ((bound_view y).1, v)) one rest)) = subst (λ ys. Reaches x p q (m xs) (behind had (m ys))) (next_left xs i y (omega arith) c.bound-item.is) c.loop-bound.invariant.reached in let e = c.in_err-value.field-0.0 in let new = c.play_expr.new.progress in
    handed_on c.from_residual-in_err-value.result e _ (collect_fails one rest (λ v. ((bound_view y).1, v)) had new e r (fails_as x q new e (ap (λ b. expr_means b.2 s sc) (bound_is y)) c.in_err-value.ensures.err)) c.from_residual-in_err-value.ensures.1

pub play_bounds-loop-bound-preserved : goal.play_bounds-loop-bound-preserved
play_bounds-loop-bound-preserved t c =
    let x = c.args.context.now in let p = c.args.progress.now in let s = site_at x c.args.seen in let sc = pairs_view c.args.scope.now in let xs = c.args.bounds.now in let i = c.loop-bound.bound-index in let q = c.loop-bound.progress in let m = λ (ys : List HeldBound). bounds_mean (bounds_of (map bound_view ys)) s sc in let had = bounds_view c.loop-bound.values.items in let y = c.bound-item.result in let rest = m (drop (i + 1) xs) in let one = expr_means (bound_view y).2 s sc in
    let r : Reaches x p q (m xs) (behind had (and_rest (λ v. ((bound_view y).1, v)) one rest)) = subst (λ ys. Reaches x p q (m xs) (behind had (m ys))) (next_left xs i y (omega arith) c.bound-item.is) c.loop-bound.invariant.reached in let new = c.play_expr.new.progress in let v = c.in_ok-value.value in let more = collect_more rest (λ v. ((bound_view y).1, v)) had r (gives_as (ap (λ b. expr_means b.2 s sc) (bound_is y)) c.in_ok-value.ensures.ok) in
    record { within = (c.in_ok-value.ensures.ok).within; reached = subst (λ vs. Reaches x p new (m xs) (behind vs rest)) (sym (ap bounds_view c.in_ok-push.ensures.items ∙ map-append (λ (b : CompareOp × Val). (b.0, tree b.1)) c.loop-bound.values.items ((y.op, v) ∷ []) ∙ ap (λ b. had ++ (b.1, tree v) ∷ []) (sym (bound_is y)))) more }

pub play_bounds-returns-clause-ok : goal.play_bounds-returns-clause-ok
play_bounds-returns-clause-ok t c =
    let x = c.args.context.now in let p = c.args.progress.now in let s = site_at x c.args.seen in let sc = pairs_view c.args.scope.now in let xs = c.args.bounds.now in let i = c.loop-bound.bound-index in let q = c.loop-bound.progress in let m = λ (ys : List HeldBound). bounds_mean (bounds_of (map bound_view ys)) s sc in let had = bounds_view c.loop-bound.values.items in
    collect_end had c.loop-bound.invariant.within (subst (λ ys. Reaches x p q (m xs) (behind had (m ys))) (none_left xs i (omega arith)) c.loop-bound.invariant.reached)

pub play_block-loop-stmt-init : goal.play_block-loop-stmt-init
play_block-loop-stmt-init t c =
    record { within = c.requires.within; came = came_nothing _ }

pub play_block-play_stmt-requires : goal.play_block-play_stmt-requires
play_block-play_stmt-requires t c =
    let xs = c.args.stmts.now in let h = item_falls (λ y. stmt_size (stmt_view y)) (λ ys. stmts_size (stmts_of (map stmt_view ys))) (λ z zs. refl) xs c.loop-stmt.stmt-index c.stmt-item.result (omega arith) c.stmt-item.is in
    (omega (arith, h), (c.loop-stmt.invariant.within, c.requires.there))

pub play_block-returns-in_err-play_stmt-clause-err : goal.play_block-returns-in_err-play_stmt-clause-err
play_block-returns-in_err-play_stmt-clause-err t c =
    let x = c.args.context.now in let p = c.args.progress.now in let s = site_at x c.args.seen in let xs = c.args.stmts.now in let i = c.loop-stmt.stmt-index in let q = c.loop-stmt.progress in let here = pairs_view c.loop-stmt.scope.items in
    let m = λ (back : Return). stmts_mean (stmts_of (map stmt_view xs)) s back (pairs_view c.args.scope.now.items) in let y = c.stmt-item.result in let one = λ (back : Return). stmt_means (stmt_view y) s back here in let rest = λ (back : Return). stmts_mean (stmts_of (map stmt_view (drop (i + 1) xs))) s back in
    let r : Comes x p q m (λ back. one back >>= rest back) = subst (λ ys. Comes x p q m (λ back. stmts_mean (stmts_of (map stmt_view ys)) s back here)) (next_left xs i y (omega arith) c.stmt-item.is) c.loop-stmt.invariant.came in let e = c.in_err-play_stmt.field-0.0 in let new = c.play_stmt.new.progress in
    handed_on c.from_residual.result e _ (came_breaks new e r (breaks_first x q new one rest e c.in_err-play_stmt.ensures.err)) c.from_residual.ensures.1

pub play_block-returns-in-Returned-clause-ok : goal.play_block-returns-in-Returned-clause-ok
play_block-returns-in-Returned-clause-ok t c =
    let x = c.args.context.now in let p = c.args.progress.now in let s = site_at x c.args.seen in let xs = c.args.stmts.now in let i = c.loop-stmt.stmt-index in let q = c.loop-stmt.progress in let here = pairs_view c.loop-stmt.scope.items in
    let m = λ (back : Return). stmts_mean (stmts_of (map stmt_view xs)) s back (pairs_view c.args.scope.now.items) in let y = c.stmt-item.result in let one = λ (back : Return). stmt_means (stmt_view y) s back here in let rest = λ (back : Return). stmts_mean (stmts_of (map stmt_view (drop (i + 1) xs))) s back in
    let r : Comes x p q m (λ back. one back >>= rest back) = subst (λ ys. Comes x p q m (λ back. stmts_mean (stmts_of (map stmt_view ys)) s back here)) (next_left xs i y (omega arith) c.stmt-item.is) c.loop-stmt.invariant.came in let new = c.play_stmt.new.progress in let h : Returns x q new one (tree c.in-Returned.v) = subst (λ flow. Flows x q new one (pairs_view c.play_stmt.new.scope.items) flow) c.in-Returned.is c.in_ok-play_stmt.ensures.ok in
    came_returns r (returns_first rest h)

pub play_block-loop-stmt-preserved : goal.play_block-loop-stmt-preserved
play_block-loop-stmt-preserved t c =
    let x = c.args.context.now in let p = c.args.progress.now in let s = site_at x c.args.seen in let xs = c.args.stmts.now in let i = c.loop-stmt.stmt-index in let q = c.loop-stmt.progress in let here = pairs_view c.loop-stmt.scope.items in
    let m = λ (back : Return). stmts_mean (stmts_of (map stmt_view xs)) s back (pairs_view c.args.scope.now.items) in let y = c.stmt-item.result in let one = λ (back : Return). stmt_means (stmt_view y) s back here in let rest = λ (back : Return). stmts_mean (stmts_of (map stmt_view (drop (i + 1) xs))) s back in
    let r : Comes x p q m (λ back. one back >>= rest back) = subst (λ ys. Comes x p q m (λ back. stmts_mean (stmts_of (map stmt_view ys)) s back here)) (next_left xs i y (omega arith) c.stmt-item.is) c.loop-stmt.invariant.came in let new = c.play_stmt.new.progress in let h : Leaves x q new one (pairs_view c.play_stmt.new.scope.items) = subst (λ flow. Flows x q new one (pairs_view c.play_stmt.new.scope.items) flow) c.in-On.is c.in_ok-play_stmt.ensures.ok in
    record { within = h.within; came = came_more rest r h }

pub play_block-returns-clause-ok : goal.play_block-returns-clause-ok
play_block-returns-clause-ok t c =
    let x = c.args.context.now in let p = c.args.progress.now in let s = site_at x c.args.seen in let xs = c.args.stmts.now in let i = c.loop-stmt.stmt-index in let q = c.loop-stmt.progress in let here = pairs_view c.loop-stmt.scope.items in let m = λ (back : Return). stmts_mean (stmts_of (map stmt_view xs)) s back (pairs_view c.args.scope.now.items) in
    came_end c.loop-stmt.invariant.within (subst (λ ys. Comes x p q m (λ back. stmts_mean (stmts_of (map stmt_view ys)) s back here)) (none_left xs i (omega arith)) c.loop-stmt.invariant.came)

pub play_turns-loop-item-init : goal.play_turns-loop-item-init
play_turns-loop-item-init t c =
    record { within = c.requires.within; came = came_nothing _ }

pub play_turns-spend-requires : goal.play_turns-spend-requires
play_turns-spend-requires t c =
    record { within = c.loop-item.invariant.within }

pub play_turns-returns-in_err-spend-clause-err : goal.play_turns-returns-in_err-spend-clause-err
play_turns-returns-in_err-spend-clause-err t c =
    let x = c.args.context.now in let p = c.args.progress.now in let s = site_at x c.args.seen in let name = c.args.name.now in let body = stmts_of (map stmt_view c.args.body.now) in let xs = c.args.items.now in let i = c.loop-item.item-index in let q = c.loop-item.progress in let here = pairs_view c.loop-item.scope.items in
    let all = λ (vs : List Val) (scope : Scope) (back : Return). turns s (turn_of s back name body) (map tree vs) scope in let m = all xs (pairs_view c.args.scope.now.items) in let y = c.item-item.result in let left = drop (i + 1) xs in
    let after = λ (back : Return) (u : Unit {0}). turn_of s back name body (tree y) here >>= (λ scope. all left scope back) in let r : Comes x p q m (λ back. spend s >>= after back) = subst (λ vs. Comes x p q m (all vs here)) (next_left xs i y (omega arith) c.item-item.is) c.loop-item.invariant.came in let e = c.in_err-spend.field-0.0 in let new = c.spend.new.progress in
    handed_on c.from_residual.result e _ (came_breaks new e r (fails_first x q new (spend s) after e (c.in_err-spend.ensures.err c.args.seen))) c.from_residual.ensures.1

pub play_turns-play_block-requires : goal.play_turns-play_block-requires
play_turns-play_block-requires t c =
    (omega arith, ((c.in_ok-spend.ensures.ok c.args.seen).within, c.requires.there))

pub play_turns-returns-in_err-play_block-clause-err : goal.play_turns-returns-in_err-play_block-clause-err
play_turns-returns-in_err-play_block-clause-err t c =
    let x = c.args.context.now in let p = c.args.progress.now in let s = site_at x c.args.seen in let name = c.args.name.now in let body = stmts_of (map stmt_view c.args.body.now) in let xs = c.args.items.now in let i = c.loop-item.item-index in let q = c.loop-item.progress in let here = pairs_view c.loop-item.scope.items in
    let all = λ (vs : List Val) (scope : Scope) (back : Return). turns s (turn_of s back name body) (map tree vs) scope in let m = all xs (pairs_view c.args.scope.now.items) in let y = c.item-item.result in let left = drop (i + 1) xs in
    let after = λ (back : Return) (u : Unit {0}). turn_of s back name body (tree y) here >>= (λ scope. all left scope back) in let r : Comes x p q m (λ back. spend s >>= after back) = subst (λ vs. Comes x p q m (all vs here)) (next_left xs i y (omega arith) c.item-item.is) c.loop-item.invariant.came in let mid = c.spend.new.progress in let inside = λ (back : Return). stmts_mean body s back (here ++ (name, tree y) ∷ []) in let rest = λ (back : Return) (scope : Scope). all left (outside here scope) back in
    let r2 : Comes x p mid m (λ back. inside back >>= rest back) = came_then after r (c.in_ok-spend.ensures.ok c.args.seen) in
    let begins : pairs_view c.push.new.self.items ≡ here ++ (name, tree y) ∷ [] =
    ap pairs_view c.in_ok-push.ensures.items ∙ map-append (λ (p : List ℕ × Val). (p.0, tree p.1)) c.loop-item.scope.items ((c.in_ok-copy.field-0, c.in_ok-copy-2.field-0) ∷ [])
    ∙ ap (λ n. here ++ (n, tree c.in_ok-copy-2.field-0) ∷ []) c.in_ok-copy.ensures ∙ ap (λ v. here ++ (name, tree v) ∷ []) c.in_ok-copy-2.ensures in
    let e = c.in_err-play_block.field-0.0 in let new = c.play_block.new.progress in let h = subst (λ (scope : Scope). Breaks x mid new (λ back. stmts_mean body s back scope) e) begins c.in_err-play_block.ensures.err in
    handed_on c.from_residual-in_err-play_block.result e _ (came_breaks new e r2 (breaks_first x mid new inside rest e h)) c.from_residual-in_err-play_block.ensures.1

pub play_turns-returns-in-Returned-clause-ok : goal.play_turns-returns-in-Returned-clause-ok
play_turns-returns-in-Returned-clause-ok t c =
    let x = c.args.context.now in let p = c.args.progress.now in let s = site_at x c.args.seen in let name = c.args.name.now in let body = stmts_of (map stmt_view c.args.body.now) in let xs = c.args.items.now in let i = c.loop-item.item-index in let q = c.loop-item.progress in let here = pairs_view c.loop-item.scope.items in
    let all = λ (vs : List Val) (scope : Scope) (back : Return). turns s (turn_of s back name body) (map tree vs) scope in let m = all xs (pairs_view c.args.scope.now.items) in let y = c.item-item.result in let left = drop (i + 1) xs in
    let after = λ (back : Return) (u : Unit {0}). turn_of s back name body (tree y) here >>= (λ scope. all left scope back) in let r : Comes x p q m (λ back. spend s >>= after back) = subst (λ vs. Comes x p q m (all vs here)) (next_left xs i y (omega arith) c.item-item.is) c.loop-item.invariant.came in let mid = c.spend.new.progress in let inside = λ (back : Return). stmts_mean body s back (here ++ (name, tree y) ∷ []) in let rest = λ (back : Return) (scope : Scope). all left (outside here scope) back in
    let r2 : Comes x p mid m (λ back. inside back >>= rest back) = came_then after r (c.in_ok-spend.ensures.ok c.args.seen) in
    let begins : pairs_view c.push.new.self.items ≡ here ++ (name, tree y) ∷ [] =
    ap pairs_view c.in_ok-push.ensures.items ∙ map-append (λ (p : List ℕ × Val). (p.0, tree p.1)) c.loop-item.scope.items ((c.in_ok-copy.field-0, c.in_ok-copy-2.field-0) ∷ [])
    ∙ ap (λ n. here ++ (n, tree c.in_ok-copy-2.field-0) ∷ []) c.in_ok-copy.ensures ∙ ap (λ v. here ++ (name, tree v) ∷ []) c.in_ok-copy-2.ensures in
    let new = c.play_block.new.progress in let ends = pairs_view c.play_block.new.scope.items in let h = subst (λ (scope : Scope). Flows x mid new (λ back. stmts_mean body s back scope) ends c.in_ok-play_block.field-0) begins c.in_ok-play_block.ensures.ok in let k : Returns x mid new inside (tree c.in-Returned.v) = subst (λ flow. Flows x mid new inside ends flow) c.in-Returned.is h in
    came_returns r2 (returns_first rest k)

pub play_turns-loop-item-preserved : goal.play_turns-loop-item-preserved
play_turns-loop-item-preserved t c =
    let x = c.args.context.now in let p = c.args.progress.now in let s = site_at x c.args.seen in let name = c.args.name.now in let body = stmts_of (map stmt_view c.args.body.now) in let xs = c.args.items.now in let i = c.loop-item.item-index in let q = c.loop-item.progress in let here = pairs_view c.loop-item.scope.items in
    let all = λ (vs : List Val) (scope : Scope) (back : Return). turns s (turn_of s back name body) (map tree vs) scope in let m = all xs (pairs_view c.args.scope.now.items) in let y = c.item-item.result in let left = drop (i + 1) xs in
    let after = λ (back : Return) (u : Unit {0}). turn_of s back name body (tree y) here >>= (λ scope. all left scope back) in let r : Comes x p q m (λ back. spend s >>= after back) = subst (λ vs. Comes x p q m (all vs here)) (next_left xs i y (omega arith) c.item-item.is) c.loop-item.invariant.came in let mid = c.spend.new.progress in let inside = λ (back : Return). stmts_mean body s back (here ++ (name, tree y) ∷ []) in let rest = λ (back : Return) (scope : Scope). all left (outside here scope) back in
    let r2 : Comes x p mid m (λ back. inside back >>= rest back) = came_then after r (c.in_ok-spend.ensures.ok c.args.seen) in
    let begins : pairs_view c.push.new.self.items ≡ here ++ (name, tree y) ∷ [] =
    ap pairs_view c.in_ok-push.ensures.items ∙ map-append (λ (p : List ℕ × Val). (p.0, tree p.1)) c.loop-item.scope.items ((c.in_ok-copy.field-0, c.in_ok-copy-2.field-0) ∷ [])
    ∙ ap (λ n. here ++ (n, tree c.in_ok-copy-2.field-0) ∷ []) c.in_ok-copy.ensures ∙ ap (λ v. here ++ (name, tree v) ∷ []) c.in_ok-copy-2.ensures in
    let new = c.play_block.new.progress in let ends = pairs_view c.play_block.new.scope.items in let h = subst (λ (scope : Scope). Flows x mid new (λ back. stmts_mean body s back scope) ends c.in_ok-play_block.field-0) begins c.in_ok-play_block.ensures.ok in
    let k : Leaves x mid new inside ends = subst (λ flow. Flows x mid new inside ends flow) c.in-On.is h in let cut : outside here ends ≡ pairs_view c.truncate.new.self.items = sym (ap pairs_view c.truncate.ensures.items ∙ cut_back c.loop-item.scope.items c.play_block.new.scope.items c.len-outer.result (omega arith)) in
    record { within = k.within; came = subst (λ scope. Comes x p new m (all left scope)) cut (came_more rest r2 k) }

pub play_turns-returns-clause-ok : goal.play_turns-returns-clause-ok
play_turns-returns-clause-ok t c =
    let x = c.args.context.now in let p = c.args.progress.now in let s = site_at x c.args.seen in let name = c.args.name.now in let body = stmts_of (map stmt_view c.args.body.now) in let xs = c.args.items.now in let i = c.loop-item.item-index in let q = c.loop-item.progress in let here = pairs_view c.loop-item.scope.items in let all = λ (vs : List Val) (scope : Scope) (back : Return). turns s (turn_of s back name body) (map tree vs) scope in let m = all xs (pairs_view c.args.scope.now.items) in
    came_end c.loop-item.invariant.within (subst (λ vs. Comes x p q m (all vs here)) (none_left xs i (omega arith)) c.loop-item.invariant.came)

pub play_function-returns-in_default-clause-err : goal.play_function-returns-in_default-clause-err
play_function-returns-in_default-clause-err t c f k =
    let x = c.args.context.now in let p = c.args.progress.now in let s = site_at x c.args.number in let g = get_or x.functions.now c.args.number c.index-context-number.result in let vs = map tree c.args.values.items in let same = same_function x.functions.now c.args.number g f c.requires.there (ap (get_or x.functions.now c.args.number) c.index-context-number.is) k in let body = λ (back : Return) (scope : Scope). stmts_mean (stmts_of (map stmt_view g.body.items)) s back scope in
    let run = λ (scope : Scope). given_by (λ back. body back scope) in let bound = ap (λ ps. bound_to ps vs) (sym c.as_slice.ensures.value) ∙ sym c.in_ok-scope.ensures ∙ ap (option_map (λ (s : Vec (List ℕ × Val) Global). pairs_view s.items)) c.in_default.is in let e = c.failure.result in
    subst (λ (h : plain.FunctionTree). Fails x p p (function_means s h vs) e) same
    (first_fails x p p (or_type_error (bound_to g.params.items vs)) run e (fails_by x p e (codes "TypeError") (ap or_type_error bound) c.failure.ensures))

pub play_function-play_block-requires : goal.play_function-play_block-requires
play_function-play_block-requires t c =
    let x = c.args.context.now in let fs = map function_view x.functions.now in let g = got x.functions.now c.args.number c.requires.there in let same = same_function x.functions.now c.args.number (get_or x.functions.now c.args.number c.index-context-number.result) g.0 c.requires.there (ap (get_or x.functions.now c.args.number) c.index-context-number.is) g.1 in let e = size_after fs c.args.number g.0 g.1 in
    let b = ap (λ (h : plain.FunctionTree). stmts_size h.body) same in let k = ap (λ ss. stmts_size (stmts_of (map stmt_view ss))) c.as_slice-2.ensures.value in let o = ap (size_before fs) (add-one c.args.number) in
    (omega arith, (c.requires.within, omega (arith, c.requires.there)))

pub play_function-returns-in_err-play_block-clause-err : goal.play_function-returns-in_err-play_block-clause-err
play_function-returns-in_err-play_block-clause-err t c f k =
    let x = c.args.context.now in let p = c.args.progress.now in let s = site_at x c.args.number in let g = get_or x.functions.now c.args.number c.index-context-number.result in let vs = map tree c.args.values.items in let same = same_function x.functions.now c.args.number g f c.requires.there (ap (get_or x.functions.now c.args.number) c.index-context-number.is) k in let body = λ (back : Return) (scope : Scope). stmts_mean (stmts_of (map stmt_view g.body.items)) s back scope in
    let run = λ (scope : Scope). given_by (λ back. body back scope) in let bound = ap (λ ps. bound_to ps vs) (sym c.as_slice.ensures.value) ∙ sym c.in_ok-scope.ensures ∙ ap (option_map (λ (s : Vec (List ℕ × Val) Global). pairs_view s.items)) c.in-Some.is in let scope = pairs_view c.in-Some.scope.items in let new = c.play_block.new.progress in let known = gives_as (ap or_type_error bound) (gave_pure scope c.requires.within) in let slice = c.as_slice-2.ensures.value in let e = c.in_err-play_block.field-0.0 in
    let h = subst (λ ss. Breaks x p new (λ back. stmts_mean (stmts_of (map stmt_view ss)) s back scope) e) slice c.in_err-play_block.ensures.err in
    handed_on c.from_residual-in_err-play_block.result e _
    (subst (λ (h : plain.FunctionTree). Fails x p new (function_means s h vs) e) same (then_fails run new e known (broken_fails x p new (λ back. body back scope) e h)))
    c.from_residual-in_err-play_block.ensures.1

pub play_function-returns-in-On-clause-ok : goal.play_function-returns-in-On-clause-ok
play_function-returns-in-On-clause-ok t c f k =
    let x = c.args.context.now in let p = c.args.progress.now in let s = site_at x c.args.number in let g = get_or x.functions.now c.args.number c.index-context-number.result in let vs = map tree c.args.values.items in let same = same_function x.functions.now c.args.number g f c.requires.there (ap (get_or x.functions.now c.args.number) c.index-context-number.is) k in let body = λ (back : Return) (scope : Scope). stmts_mean (stmts_of (map stmt_view g.body.items)) s back scope in
    let run = λ (scope : Scope). given_by (λ back. body back scope) in let bound = ap (λ ps. bound_to ps vs) (sym c.as_slice.ensures.value) ∙ sym c.in_ok-scope.ensures ∙ ap (option_map (λ (s : Vec (List ℕ × Val) Global). pairs_view s.items)) c.in-Some.is in let scope = pairs_view c.in-Some.scope.items in
    let new = c.play_block.new.progress in let known = gives_as (ap or_type_error bound) (gave_pure scope c.requires.within) in let slice = c.as_slice-2.ensures.value in let ends = pairs_view c.play_block.new.scope.items in let h = subst (λ ss. Flows x p new (λ back. stmts_mean (stmts_of (map stmt_view ss)) s back scope) ends c.in_ok-play_block.field-0) slice c.in_ok-play_block.ensures.ok in
    let done : Leaves x p new (λ back. body back scope) (pairs_view c.play_block.new.scope.items) = subst (λ flow. Flows x p new (λ back. body back scope) ends flow) c.in-On.is h in
    subst (λ (h : plain.FunctionTree). Gives x p new (function_means s h vs) null) same (then_gives run known (left_gives done))

pub play_function-returns-clause-ok : goal.play_function-returns-clause-ok
play_function-returns-clause-ok t c f k =
    let x = c.args.context.now in let p = c.args.progress.now in let s = site_at x c.args.number in let g = get_or x.functions.now c.args.number c.index-context-number.result in let vs = map tree c.args.values.items in let same = same_function x.functions.now c.args.number g f c.requires.there (ap (get_or x.functions.now c.args.number) c.index-context-number.is) k in let body = λ (back : Return) (scope : Scope). stmts_mean (stmts_of (map stmt_view g.body.items)) s back scope in
    let run = λ (scope : Scope). given_by (λ back. body back scope) in let bound = ap (λ ps. bound_to ps vs) (sym c.as_slice.ensures.value) ∙ sym c.in_ok-scope.ensures ∙ ap (option_map (λ (s : Vec (List ℕ × Val) Global). pairs_view s.items)) c.in-Some.is in let scope = pairs_view c.in-Some.scope.items in
    let new = c.play_block.new.progress in let known = gives_as (ap or_type_error bound) (gave_pure scope c.requires.within) in let slice = c.as_slice-2.ensures.value in let ends = pairs_view c.play_block.new.scope.items in let h = subst (λ ss. Flows x p new (λ back. stmts_mean (stmts_of (map stmt_view ss)) s back scope) ends c.in_ok-play_block.field-0) slice c.in_ok-play_block.ensures.ok in
    let done : Returns x p new (λ back. body back scope) (tree c.in-Returned.v) = subst (λ flow. Flows x p new (λ back. body back scope) ends flow) c.in-Returned.is h in
    subst (λ (h : plain.FunctionTree). Gives x p new (function_means s h vs) (tree c.in-Returned.v)) same (then_gives run known (returned_gives done))

pub play_stmt-spend-requires : goal.play_stmt-spend-requires
play_stmt-spend-requires t c =
    record { within = c.requires.within }

pub play_stmt-returns-in_err-spend-clause-err : goal.play_stmt-returns-in_err-spend-clause-err
play_stmt-returns-in_err-spend-clause-err t c =
    let x = c.args.context.now in let p = c.args.progress.now in let s = site_at x c.args.seen in let st = c.args.stmt.now in let sc = pairs_view c.args.scope.now.items in let mid = c.spend.new.progress in let e = c.in_err-spend.field-0.0 in let m = does_as (stmt_view st) st.at (act_view st.form) s sc (done_as st st.form (act_view st.form) refl refl) in
    handed_on c.from_residual.result e _
    (subst (λ ss. Breaks x p mid ss e) (sym m) (fails_first x p mid (spend s) (λ back u. act_means (act_view st.form) s back sc) e (c.in_err-spend.ensures.err c.args.seen)))
    c.from_residual.ensures.1

pub play_stmt-play_expr-requires : goal.play_stmt-play_expr-requires
play_stmt-play_expr-requires t c =
    let x = c.args.context.now in let p = c.args.progress.now in let s = site_at x c.args.seen in let st = c.args.stmt.now in let size = ap stmt_size (done_as st (act.Let c.in-Let.name c.in-Let.e) (plain.declare c.in-Let.name (expr_view c.in-Let.e)) c.in-Let.is (act-Let c.in-Let.name c.in-Let.e)) in
    (omega arith, ((c.in_ok-spend.ensures.ok c.args.seen).within, c.requires.there))

pub play_stmt-returns-in_err-value-in-Let-clause-err : goal.play_stmt-returns-in_err-value-in-Let-clause-err
play_stmt-returns-in_err-value-in-Let-clause-err t c =
    let x = c.args.context.now in let p = c.args.progress.now in let s = site_at x c.args.seen in let st = c.args.stmt.now in let sc = pairs_view c.args.scope.now.items in let mid = c.spend.new.progress in let what = plain.declare c.in-Let.name (expr_view c.in-Let.e) in
    let d = done_as st (act.Let c.in-Let.name c.in-Let.e) what c.in-Let.is (act-Let c.in-Let.name c.in-Let.e) in let m = does_as (stmt_view st) st.at what s sc d in let whole = λ (back : Return) (u : Unit {0}). act_means what s back sc in let a = expr_means (expr_view c.in-Let.e) s sc in let rest = λ (back : Return) (v : Value). give (sc ++ (c.in-Let.name.text, v) ∷ []) in let paid = c.in_ok-spend.ensures.ok c.args.seen in let e = c.in_err-value-in-Let.field-0.0 in let new = c.play_expr.new.progress in
    let fault = subst (λ (ps : List (List ℕ × Val)). Fails x mid new (expr_means (expr_view c.in-Let.e) s (pairs_view ps)) e) c.as_slice.ensures.value c.in_err-value-in-Let.ensures.err in
    handed_on c.from_residual-in_err-value-in-Let.result e _ (subst (λ ss. Breaks x p new ss e) (sym m) (then_breaks whole new e paid (fails_first x mid new a rest e fault))) c.from_residual-in_err-value-in-Let.ensures.1

pub play_stmt-play_expr-requires-in-Assign : goal.play_stmt-play_expr-requires-in-Assign
play_stmt-play_expr-requires-in-Assign t c =
    let x = c.args.context.now in let p = c.args.progress.now in let s = site_at x c.args.seen in let st = c.args.stmt.now in let size = ap stmt_size (done_as st (act.Assign c.in-Assign.name c.in-Assign.e) (plain.assign c.in-Assign.name (expr_view c.in-Assign.e)) c.in-Assign.is (act-Assign c.in-Assign.name c.in-Assign.e)) in
    (omega arith, ((c.in_ok-spend.ensures.ok c.args.seen).within, c.requires.there))

pub play_stmt-returns-in_err-value-in-Assign-clause-err : goal.play_stmt-returns-in_err-value-in-Assign-clause-err
play_stmt-returns-in_err-value-in-Assign-clause-err t c =
    let x = c.args.context.now in let p = c.args.progress.now in let s = site_at x c.args.seen in let st = c.args.stmt.now in let sc = pairs_view c.args.scope.now.items in let mid = c.spend.new.progress in let what = plain.assign c.in-Assign.name (expr_view c.in-Assign.e) in
    let d = done_as st (act.Assign c.in-Assign.name c.in-Assign.e) what c.in-Assign.is (act-Assign c.in-Assign.name c.in-Assign.e) in let m = does_as (stmt_view st) st.at what s sc d in let whole = λ (back : Return) (u : Unit {0}). act_means what s back sc in let a = expr_means (expr_view c.in-Assign.e) s sc in
    let rest = λ (back : Return) (v : Value). or_type_error (assigned c.in-Assign.name.text v sc) in let paid = c.in_ok-spend.ensures.ok c.args.seen in let e = c.in_err-value-in-Assign.field-0.0 in let new = c.play_expr-in-Assign.new.progress in let fault = subst (λ (ps : List (List ℕ × Val)). Fails x mid new (expr_means (expr_view c.in-Assign.e) s (pairs_view ps)) e) c.as_slice-in-Assign.ensures.value c.in_err-value-in-Assign.ensures.err in
    handed_on c.from_residual-in_err-value-in-Assign.result e _ (subst (λ ss. Breaks x p new ss e) (sym m) (then_breaks whole new e paid (fails_first x mid new a rest e fault))) c.from_residual-in_err-value-in-Assign.ensures.1

pub play_stmt-play_expr-requires-in-Eval : goal.play_stmt-play_expr-requires-in-Eval
play_stmt-play_expr-requires-in-Eval t c =
    let x = c.args.context.now in let p = c.args.progress.now in let s = site_at x c.args.seen in let st = c.args.stmt.now in let size = ap stmt_size (done_as st (act.Eval c.in-Eval.e) (plain.evaluate (expr_view c.in-Eval.e)) c.in-Eval.is (act-Eval c.in-Eval.e)) in
    (omega arith, ((c.in_ok-spend.ensures.ok c.args.seen).within, c.requires.there))

pub play_stmt-returns-in_err-play_expr-in-Eval-clause-err : goal.play_stmt-returns-in_err-play_expr-in-Eval-clause-err
play_stmt-returns-in_err-play_expr-in-Eval-clause-err t c =
    let x = c.args.context.now in let p = c.args.progress.now in let s = site_at x c.args.seen in let st = c.args.stmt.now in let sc = pairs_view c.args.scope.now.items in let mid = c.spend.new.progress in let what = plain.evaluate (expr_view c.in-Eval.e) in
    let d = done_as st (act.Eval c.in-Eval.e) what c.in-Eval.is (act-Eval c.in-Eval.e) in let m = does_as (stmt_view st) st.at what s sc d in let whole = λ (back : Return) (u : Unit {0}). act_means what s back sc in let a = expr_means (expr_view c.in-Eval.e) s sc in let rest = λ (back : Return) (v : Value). give sc in let paid = c.in_ok-spend.ensures.ok c.args.seen in let e = c.in_err-play_expr-in-Eval.field-0.0 in let new = c.play_expr-in-Eval.new.progress in
    let fault = subst (λ (ps : List (List ℕ × Val)). Fails x mid new (expr_means (expr_view c.in-Eval.e) s (pairs_view ps)) e) c.as_slice-in-Eval.ensures.value c.in_err-play_expr-in-Eval.ensures.err in
    handed_on c.from_residual-in_err-play_expr-in-Eval.result e _ (subst (λ ss. Breaks x p new ss e) (sym m) (then_breaks whole new e paid (fails_first x mid new a rest e fault))) c.from_residual-in_err-play_expr-in-Eval.ensures.1

pub play_stmt-play_expr-requires-in-If : goal.play_stmt-play_expr-requires-in-If
play_stmt-play_expr-requires-in-If t c =
    let x = c.args.context.now in let p = c.args.progress.now in let s = site_at x c.args.seen in let st = c.args.stmt.now in let yes = stmts_of (map stmt_view c.in-If.then.items) in let no = else_view c.in-If.other in let size = ap stmt_size (done_as st (act.If c.in-If.e c.in-If.then c.in-If.other) (plain.choose (expr_view c.in-If.e) yes no) c.in-If.is (act-If c.in-If.e c.in-If.then c.in-If.other)) in
    (omega arith, ((c.in_ok-spend.ensures.ok c.args.seen).within, c.requires.there))

pub play_stmt-returns-in_err-value-in-If-clause-err : goal.play_stmt-returns-in_err-value-in-If-clause-err
play_stmt-returns-in_err-value-in-If-clause-err t c =
    let x = c.args.context.now in let p = c.args.progress.now in let s = site_at x c.args.seen in let st = c.args.stmt.now in let sc = pairs_view c.args.scope.now.items in let mid = c.spend.new.progress in let yes = stmts_of (map stmt_view c.in-If.then.items) in let no = else_view c.in-If.other in
    let what = plain.choose (expr_view c.in-If.e) yes no in let d = done_as st (act.If c.in-If.e c.in-If.then c.in-If.other) what c.in-If.is (act-If c.in-If.e c.in-If.then c.in-If.other) in let m = does_as (stmt_view st) st.at what s sc d in let whole = λ (back : Return) (u : Unit {0}). act_means what s back sc in
    let a = expr_means (expr_view c.in-If.e) s sc in let rest = λ (back : Return) (v : Value). as_truth v >>= (λ b. blocked sc (λ back. if b then stmts_mean yes s back sc else else_means no s back sc) back) in let paid = c.in_ok-spend.ensures.ok c.args.seen in let e = c.in_err-value-in-If.field-0.0 in
    let new = c.play_expr-in-If.new.progress in let fault = subst (λ (ps : List (List ℕ × Val)). Fails x mid new (expr_means (expr_view c.in-If.e) s (pairs_view ps)) e) c.as_slice-in-If.ensures.value c.in_err-value-in-If.ensures.err in
    handed_on c.from_residual-in_err-value-in-If.result e _ (subst (λ ss. Breaks x p new ss e) (sym m) (then_breaks whole new e paid (fails_first x mid new a rest e fault))) c.from_residual-in_err-value-in-If.ensures.1

pub play_stmt-play_expr-requires-in-For : goal.play_stmt-play_expr-requires-in-For
play_stmt-play_expr-requires-in-For t c =
    let x = c.args.context.now in let p = c.args.progress.now in let s = site_at x c.args.seen in let st = c.args.stmt.now in let body = stmts_of (map stmt_view c.in-For.body.items) in let size = ap stmt_size (done_as st (act.For c.in-For.name c.in-For.e c.in-For.body) (plain.each c.in-For.name (expr_view c.in-For.e) body) c.in-For.is (act-For c.in-For.name c.in-For.e c.in-For.body)) in
    (omega arith, ((c.in_ok-spend.ensures.ok c.args.seen).within, c.requires.there))

pub play_stmt-returns-in_err-value-in-For-clause-err : goal.play_stmt-returns-in_err-value-in-For-clause-err
play_stmt-returns-in_err-value-in-For-clause-err t c =
    let x = c.args.context.now in let p = c.args.progress.now in let s = site_at x c.args.seen in let st = c.args.stmt.now in let sc = pairs_view c.args.scope.now.items in let mid = c.spend.new.progress in let body = stmts_of (map stmt_view c.in-For.body.items) in
    let what = plain.each c.in-For.name (expr_view c.in-For.e) body in let d = done_as st (act.For c.in-For.name c.in-For.e c.in-For.body) what c.in-For.is (act-For c.in-For.name c.in-For.e c.in-For.body) in let m = does_as (stmt_view st) st.at what s sc d in
    let whole = λ (back : Return) (u : Unit {0}). act_means what s back sc in let a = expr_means (expr_view c.in-For.e) s sc in let rest = λ (back : Return) (v : Value). as_items v >>= (λ vs. turns s (turn_of s back c.in-For.name.text body) vs sc) in let paid = c.in_ok-spend.ensures.ok c.args.seen in
    let e = c.in_err-value-in-For.field-0.0 in let new = c.play_expr-in-For.new.progress in let fault = subst (λ (ps : List (List ℕ × Val)). Fails x mid new (expr_means (expr_view c.in-For.e) s (pairs_view ps)) e) c.as_slice-in-For.ensures.value c.in_err-value-in-For.ensures.err in
    handed_on c.from_residual-in_err-value-in-For.result e _ (subst (λ ss. Breaks x p new ss e) (sym m) (then_breaks whole new e paid (fails_first x mid new a rest e fault))) c.from_residual-in_err-value-in-For.ensures.1

pub play_stmt-play_expr-requires-in-Return : goal.play_stmt-play_expr-requires-in-Return
play_stmt-play_expr-requires-in-Return t c =
    let x = c.args.context.now in let p = c.args.progress.now in let s = site_at x c.args.seen in let st = c.args.stmt.now in let size = ap stmt_size (done_as st (act.Return c.in-Return.e) (plain.give_back (expr_view c.in-Return.e)) c.in-Return.is (act-Return c.in-Return.e)) in
    (omega arith, ((c.in_ok-spend.ensures.ok c.args.seen).within, c.requires.there))

pub play_stmt-returns-in_err-value-in-Return-clause-err : goal.play_stmt-returns-in_err-value-in-Return-clause-err
play_stmt-returns-in_err-value-in-Return-clause-err t c =
    let x = c.args.context.now in let p = c.args.progress.now in let s = site_at x c.args.seen in let st = c.args.stmt.now in let sc = pairs_view c.args.scope.now.items in let mid = c.spend.new.progress in let what = plain.give_back (expr_view c.in-Return.e) in
    let d = done_as st (act.Return c.in-Return.e) what c.in-Return.is (act-Return c.in-Return.e) in let m = does_as (stmt_view st) st.at what s sc d in let whole = λ (back : Return) (u : Unit {0}). act_means what s back sc in let a = expr_means (expr_view c.in-Return.e) s sc in let paid = c.in_ok-spend.ensures.ok c.args.seen in let e = c.in_err-value-in-Return.field-0.0 in let new = c.play_expr-in-Return.new.progress in
    let fault = subst (λ (ps : List (List ℕ × Val)). Fails x mid new (expr_means (expr_view c.in-Return.e) s (pairs_view ps)) e) c.as_slice-in-Return.ensures.value c.in_err-value-in-Return.ensures.err in
    handed_on c.from_residual-in_err-value-in-Return.result e _ (subst (λ ss. Breaks x p new ss e) (sym m) (then_breaks whole new e paid (return_breaks x mid new a e fault))) c.from_residual-in_err-value-in-Return.ensures.1

pub play_stmt-play_expr-requires-in-Throw : goal.play_stmt-play_expr-requires-in-Throw
play_stmt-play_expr-requires-in-Throw t c =
    let x = c.args.context.now in let p = c.args.progress.now in let s = site_at x c.args.seen in let st = c.args.stmt.now in let size = ap stmt_size (done_as st (act.Throw c.in-Throw.e) (plain.throw (expr_view c.in-Throw.e)) c.in-Throw.is (act-Throw c.in-Throw.e)) in
    (omega arith, ((c.in_ok-spend.ensures.ok c.args.seen).within, c.requires.there))

pub play_stmt-returns-in_err-value-in-Throw-clause-err : goal.play_stmt-returns-in_err-value-in-Throw-clause-err
play_stmt-returns-in_err-value-in-Throw-clause-err t c =
    let x = c.args.context.now in let p = c.args.progress.now in let s = site_at x c.args.seen in let st = c.args.stmt.now in let sc = pairs_view c.args.scope.now.items in let mid = c.spend.new.progress in let what = plain.throw (expr_view c.in-Throw.e) in
    let d = done_as st (act.Throw c.in-Throw.e) what c.in-Throw.is (act-Throw c.in-Throw.e) in let m = does_as (stmt_view st) st.at what s sc d in let whole = λ (back : Return) (u : Unit {0}). act_means what s back sc in let a = expr_means (expr_view c.in-Throw.e) s sc in let rest = λ (back : Return) (v : Value). as_text v >>= (λ t. fail (throw_text t)) in let paid = c.in_ok-spend.ensures.ok c.args.seen in let e = c.in_err-value-in-Throw.field-0.0 in let new = c.play_expr-in-Throw.new.progress in
    let fault = subst (λ (ps : List (List ℕ × Val)). Fails x mid new (expr_means (expr_view c.in-Throw.e) s (pairs_view ps)) e) c.as_slice-in-Throw.ensures.value c.in_err-value-in-Throw.ensures.err in
    handed_on c.from_residual-in_err-value-in-Throw.result e _ (subst (λ ss. Breaks x p new ss e) (sym m) (then_breaks whole new e paid (fails_first x mid new a rest e fault))) c.from_residual-in_err-value-in-Throw.ensures.1

pub play_stmt-returns-in_ok-push-in-Let-clause-ok : goal.play_stmt-returns-in_ok-push-in-Let-clause-ok
play_stmt-returns-in_ok-push-in-Let-clause-ok t c =
    let x = c.args.context.now in let p = c.args.progress.now in let s = site_at x c.args.seen in let st = c.args.stmt.now in let sc = pairs_view c.args.scope.now.items in let mid = c.spend.new.progress in let what = plain.declare c.in-Let.name (expr_view c.in-Let.e) in
    let d = done_as st (act.Let c.in-Let.name c.in-Let.e) what c.in-Let.is (act-Let c.in-Let.name c.in-Let.e) in let m = does_as (stmt_view st) st.at what s sc d in let whole = λ (back : Return) (u : Unit {0}). act_means what s back sc in let a = expr_means (expr_view c.in-Let.e) s sc in let rest = λ (back : Return) (v : Value). give (sc ++ (c.in-Let.name.text, v) ∷ []) in let paid = c.in_ok-spend.ensures.ok c.args.seen in let q = c.play_expr.new.progress in let v = tree c.in_ok-value-in-Let.value in
    let value = subst (λ (ps : List (List ℕ × Val)). Gives x mid q (expr_means (expr_view c.in-Let.e) s (pairs_view ps)) v) c.as_slice.ensures.value c.in_ok-value-in-Let.ensures.ok in
    let grown : sc ++ (c.in-Let.name.text, v) ∷ [] ≡ pairs_view c.push.new.self.items =
    sym (ap pairs_view c.in_ok-push-in-Let.ensures.items ∙ map-append (λ (p : List ℕ × Val). (p.0, tree p.1)) c.args.scope.now.items ((c.in_ok-copy-in-Let.field-0, c.in_ok-value-in-Let.value) ∷ [])
    ∙ ap (λ n. sc ++ (n, v) ∷ []) c.in_ok-copy-in-Let.ensures) in
    subst (λ scope. Leaves x p q (λ back. stmt_means (stmt_view st) s back sc) scope) grown
    (subst (λ ss. Leaves x p q ss (sc ++ (c.in-Let.name.text, v) ∷ [])) (sym m) (then_leaves whole paid (then_leaves rest value (left_pure (sc ++ (c.in-Let.name.text, v) ∷ []) value.within))))

pub play_stmt-returns-in_ok-set_variable-in-Assign-clause-ok : goal.play_stmt-returns-in_ok-set_variable-in-Assign-clause-ok
play_stmt-returns-in_ok-set_variable-in-Assign-clause-ok t c =
    let x = c.args.context.now in let p = c.args.progress.now in let s = site_at x c.args.seen in let st = c.args.stmt.now in let sc = pairs_view c.args.scope.now.items in let mid = c.spend.new.progress in let what = plain.assign c.in-Assign.name (expr_view c.in-Assign.e) in
    let d = done_as st (act.Assign c.in-Assign.name c.in-Assign.e) what c.in-Assign.is (act-Assign c.in-Assign.name c.in-Assign.e) in let m = does_as (stmt_view st) st.at what s sc d in let whole = λ (back : Return) (u : Unit {0}). act_means what s back sc in let a = expr_means (expr_view c.in-Assign.e) s sc in
    let rest = λ (back : Return) (v : Value). or_type_error (assigned c.in-Assign.name.text v sc) in let paid = c.in_ok-spend.ensures.ok c.args.seen in let q = c.play_expr-in-Assign.new.progress in let v = tree c.in_ok-value-in-Assign.value in let value = subst (λ (ps : List (List ℕ × Val)). Gives x mid q (expr_means (expr_view c.in-Assign.e) s (pairs_view ps)) v) c.as_slice-in-Assign.ensures.value c.in_ok-value-in-Assign.ensures.ok in
    subst (λ ss. Leaves x p q ss (pairs_view c.set_variable.new.scope.items)) (sym m) (then_leaves whole paid (then_leaves rest value (action_leaves c.in_ok-set_variable-in-Assign.ensures.ok)))

pub play_stmt-returns-in_err-set_variable-in-Assign-clause-err : goal.play_stmt-returns-in_err-set_variable-in-Assign-clause-err
play_stmt-returns-in_err-set_variable-in-Assign-clause-err t c =
    let x = c.args.context.now in let p = c.args.progress.now in let s = site_at x c.args.seen in let st = c.args.stmt.now in let sc = pairs_view c.args.scope.now.items in let mid = c.spend.new.progress in let what = plain.assign c.in-Assign.name (expr_view c.in-Assign.e) in
    let d = done_as st (act.Assign c.in-Assign.name c.in-Assign.e) what c.in-Assign.is (act-Assign c.in-Assign.name c.in-Assign.e) in let m = does_as (stmt_view st) st.at what s sc d in let whole = λ (back : Return) (u : Unit {0}). act_means what s back sc in let a = expr_means (expr_view c.in-Assign.e) s sc in
    let rest = λ (back : Return) (v : Value). or_type_error (assigned c.in-Assign.name.text v sc) in let paid = c.in_ok-spend.ensures.ok c.args.seen in let q = c.play_expr-in-Assign.new.progress in let v = tree c.in_ok-value-in-Assign.value in let value = subst (λ (ps : List (List ℕ × Val)). Gives x mid q (expr_means (expr_view c.in-Assign.e) s (pairs_view ps)) v) c.as_slice-in-Assign.ensures.value c.in_ok-value-in-Assign.ensures.ok in let e = c.in_err-set_variable-in-Assign.field-0.0 in
    handed_on c.from_residual-in_err-set_variable-in-Assign.result e _ (subst (λ ss. Breaks x p q ss e) (sym m) (then_breaks whole q e paid (then_breaks rest q e value (action_breaks x q q (or_type_error (assigned c.in-Assign.name.text v sc)) e c.in_err-set_variable-in-Assign.ensures.err)))) c.from_residual-in_err-set_variable-in-Assign.ensures.1

pub play_stmt-returns-in_ok-play_expr-in-Eval-clause-ok : goal.play_stmt-returns-in_ok-play_expr-in-Eval-clause-ok
play_stmt-returns-in_ok-play_expr-in-Eval-clause-ok t c =
    let x = c.args.context.now in let p = c.args.progress.now in let s = site_at x c.args.seen in let st = c.args.stmt.now in let sc = pairs_view c.args.scope.now.items in let mid = c.spend.new.progress in let what = plain.evaluate (expr_view c.in-Eval.e) in
    let d = done_as st (act.Eval c.in-Eval.e) what c.in-Eval.is (act-Eval c.in-Eval.e) in let m = does_as (stmt_view st) st.at what s sc d in let whole = λ (back : Return) (u : Unit {0}). act_means what s back sc in let a = expr_means (expr_view c.in-Eval.e) s sc in let rest = λ (back : Return) (v : Value). give sc in let paid = c.in_ok-spend.ensures.ok c.args.seen in let q = c.play_expr-in-Eval.new.progress in let v = tree c.in_ok-play_expr-in-Eval.field-0 in
    let value = subst (λ (ps : List (List ℕ × Val)). Gives x mid q (expr_means (expr_view c.in-Eval.e) s (pairs_view ps)) v) c.as_slice-in-Eval.ensures.value c.in_ok-play_expr-in-Eval.ensures.ok in
    subst (λ ss. Leaves x p q ss sc) (sym m) (then_leaves whole paid (then_leaves rest value (left_pure sc value.within)))

pub play_stmt-returns-in_ok-value-in-Return-clause-ok : goal.play_stmt-returns-in_ok-value-in-Return-clause-ok
play_stmt-returns-in_ok-value-in-Return-clause-ok t c =
    let x = c.args.context.now in let p = c.args.progress.now in let s = site_at x c.args.seen in let st = c.args.stmt.now in let sc = pairs_view c.args.scope.now.items in let mid = c.spend.new.progress in let what = plain.give_back (expr_view c.in-Return.e) in
    let d = done_as st (act.Return c.in-Return.e) what c.in-Return.is (act-Return c.in-Return.e) in let m = does_as (stmt_view st) st.at what s sc d in let whole = λ (back : Return) (u : Unit {0}). act_means what s back sc in let a = expr_means (expr_view c.in-Return.e) s sc in let paid = c.in_ok-spend.ensures.ok c.args.seen in let q = c.play_expr-in-Return.new.progress in let v = tree c.in_ok-value-in-Return.value in
    let value = subst (λ (ps : List (List ℕ × Val)). Gives x mid q (expr_means (expr_view c.in-Return.e) s (pairs_view ps)) v) c.as_slice-in-Return.ensures.value c.in_ok-value-in-Return.ensures.ok in
    subst (λ ss. Returns x p q ss v) (sym m) (then_returns whole paid (returned value))

pub play_stmt-returns-in_ok-value-in-Throw-clause-err : goal.play_stmt-returns-in_ok-value-in-Throw-clause-err
play_stmt-returns-in_ok-value-in-Throw-clause-err t c =
    let x = c.args.context.now in let p = c.args.progress.now in let s = site_at x c.args.seen in let st = c.args.stmt.now in let sc = pairs_view c.args.scope.now.items in let mid = c.spend.new.progress in let what = plain.throw (expr_view c.in-Throw.e) in
    let d = done_as st (act.Throw c.in-Throw.e) what c.in-Throw.is (act-Throw c.in-Throw.e) in let m = does_as (stmt_view st) st.at what s sc d in let whole = λ (back : Return) (u : Unit {0}). act_means what s back sc in let a = expr_means (expr_view c.in-Throw.e) s sc in let rest = λ (back : Return) (v : Value). as_text v >>= (λ t. fail (throw_text t)) in let paid = c.in_ok-spend.ensures.ok c.args.seen in let q = c.play_expr-in-Throw.new.progress in let v = tree c.in_ok-value-in-Throw.value in
    let value = subst (λ (ps : List (List ℕ × Val)). Gives x mid q (expr_means (expr_view c.in-Throw.e) s (pairs_view ps)) v) c.as_slice-in-Throw.ensures.value c.in_ok-value-in-Throw.ensures.ok in let e = c.thrown.result in
    subst (λ ss. Breaks x p q ss e) (sym m) (then_breaks whole q e paid (then_breaks rest q e value (throws x q v e c.thrown.ensures)))

pub play_stmt-returns-in_err-truth-in-If-clause-err : goal.play_stmt-returns-in_err-truth-in-If-clause-err
play_stmt-returns-in_err-truth-in-If-clause-err t c =
    let x = c.args.context.now in let p = c.args.progress.now in let s = site_at x c.args.seen in let st = c.args.stmt.now in let sc = pairs_view c.args.scope.now.items in let mid = c.spend.new.progress in let yes = stmts_of (map stmt_view c.in-If.then.items) in let no = else_view c.in-If.other in
    let what = plain.choose (expr_view c.in-If.e) yes no in let d = done_as st (act.If c.in-If.e c.in-If.then c.in-If.other) what c.in-If.is (act-If c.in-If.e c.in-If.then c.in-If.other) in let m = does_as (stmt_view st) st.at what s sc d in let whole = λ (back : Return) (u : Unit {0}). act_means what s back sc in
    let a = expr_means (expr_view c.in-If.e) s sc in let rest = λ (back : Return) (v : Value). as_truth v >>= (λ b. blocked sc (λ back. if b then stmts_mean yes s back sc else else_means no s back sc) back) in let paid = c.in_ok-spend.ensures.ok c.args.seen in let q = c.play_expr-in-If.new.progress in
    let v = tree c.in_ok-value-in-If.value in let value = subst (λ (ps : List (List ℕ × Val)). Gives x mid q (expr_means (expr_view c.in-If.e) s (pairs_view ps)) v) c.as_slice-in-If.ensures.value c.in_ok-value-in-If.ensures.ok in let e = c.in_err-truth-in-If.field-0.0 in let on = λ (back : Return) (b : Bool). blocked sc (λ back. if b then stmts_mean yes s back sc else else_means no s back sc) back in
    handed_on c.from_residual-in_err-truth-in-If.result e _
    (subst (λ ss. Breaks x p q ss e) (sym m) (then_breaks whole q e paid (then_breaks rest q e value (fails_first x q q (as_truth v) on e (refused x q e c.in_err-truth-in-If.ensures.err)))))
    c.from_residual-in_err-truth-in-If.ensures.1

pub play_stmt-play_block-requires : goal.play_stmt-play_block-requires
play_stmt-play_block-requires t c =
    let x = c.args.context.now in let p = c.args.progress.now in let s = site_at x c.args.seen in let st = c.args.stmt.now in let yes = stmts_of (map stmt_view c.in-If.then.items) in let no = else_view c.in-If.other in let b = c.in_ok-truth-in-If.truth in
    let picked = c.branch-chosen.ensures ∙ ap (λ ss. chosen b (stmts_of (map stmt_view ss)) no) c.as_slice-in-If-2.ensures.value in let size = ap stmt_size (done_as st (act.If c.in-If.e c.in-If.then c.in-If.other) (plain.choose (expr_view c.in-If.e) yes no) c.in-If.is (act-If c.in-If.e c.in-If.then c.in-If.other)) in let falls = chosen_falls b yes no in let same = ap stmts_size picked in
    (omega arith, (c.in_ok-value-in-If.ensures.ok.within, c.requires.there))

pub play_stmt-returns-in_err-flow-in-If-clause-err : goal.play_stmt-returns-in_err-flow-in-If-clause-err
play_stmt-returns-in_err-flow-in-If-clause-err t c =
    let x = c.args.context.now in let p = c.args.progress.now in let s = site_at x c.args.seen in let st = c.args.stmt.now in let sc = pairs_view c.args.scope.now.items in let mid = c.spend.new.progress in let yes = stmts_of (map stmt_view c.in-If.then.items) in let no = else_view c.in-If.other in
    let what = plain.choose (expr_view c.in-If.e) yes no in let d = done_as st (act.If c.in-If.e c.in-If.then c.in-If.other) what c.in-If.is (act-If c.in-If.e c.in-If.then c.in-If.other) in let m = does_as (stmt_view st) st.at what s sc d in let whole = λ (back : Return) (u : Unit {0}). act_means what s back sc in
    let a = expr_means (expr_view c.in-If.e) s sc in let rest = λ (back : Return) (v : Value). as_truth v >>= (λ b. blocked sc (λ back. if b then stmts_mean yes s back sc else else_means no s back sc) back) in let paid = c.in_ok-spend.ensures.ok c.args.seen in let q = c.play_expr-in-If.new.progress in
    let v = tree c.in_ok-value-in-If.value in let value = subst (λ (ps : List (List ℕ × Val)). Gives x mid q (expr_means (expr_view c.in-If.e) s (pairs_view ps)) v) c.as_slice-in-If.ensures.value c.in_ok-value-in-If.ensures.ok in let b = c.in_ok-truth-in-If.truth in
    let picked = c.branch-chosen.ensures ∙ ap (λ ss. chosen b (stmts_of (map stmt_view ss)) no) c.as_slice-in-If-2.ensures.value in let on = λ (back : Return) (b : Bool). blocked sc (λ back. if b then stmts_mean yes s back sc else else_means no s back sc) back in
    let known = gives_as c.in_ok-truth-in-If.ensures.ok (gave_pure b value.within) in let new = c.play_block.new.progress in let turn = ap (λ ss. block_of ss s sc) picked ∙ sym (chooses b yes no s sc) in let e = c.in_err-flow-in-If.field-0.0 in let h = subst (λ ss. Breaks x q new ss e) turn c.in_err-flow-in-If.ensures.err in
    handed_on c.from_residual-in_err-flow-in-If.result e _
    (subst (λ ss. Breaks x p new ss e) (sym m) (then_breaks whole new e paid (then_breaks rest new e value (then_breaks on new e known
    (breaks_first x q new (λ back. if b then stmts_mean yes s back sc else else_means no s back sc) (λ back after. give (outside sc after)) e h)))))
    c.from_residual-in_err-flow-in-If.ensures.1

pub play_stmt-returns-in_ok-flow-in-If-clause-ok : goal.play_stmt-returns-in_ok-flow-in-If-clause-ok
play_stmt-returns-in_ok-flow-in-If-clause-ok t c =
    let x = c.args.context.now in let p = c.args.progress.now in let s = site_at x c.args.seen in let st = c.args.stmt.now in let sc = pairs_view c.args.scope.now.items in let mid = c.spend.new.progress in let yes = stmts_of (map stmt_view c.in-If.then.items) in let no = else_view c.in-If.other in
    let what = plain.choose (expr_view c.in-If.e) yes no in let d = done_as st (act.If c.in-If.e c.in-If.then c.in-If.other) what c.in-If.is (act-If c.in-If.e c.in-If.then c.in-If.other) in let m = does_as (stmt_view st) st.at what s sc d in let whole = λ (back : Return) (u : Unit {0}). act_means what s back sc in
    let a = expr_means (expr_view c.in-If.e) s sc in let rest = λ (back : Return) (v : Value). as_truth v >>= (λ b. blocked sc (λ back. if b then stmts_mean yes s back sc else else_means no s back sc) back) in let paid = c.in_ok-spend.ensures.ok c.args.seen in let q = c.play_expr-in-If.new.progress in
    let v = tree c.in_ok-value-in-If.value in let value = subst (λ (ps : List (List ℕ × Val)). Gives x mid q (expr_means (expr_view c.in-If.e) s (pairs_view ps)) v) c.as_slice-in-If.ensures.value c.in_ok-value-in-If.ensures.ok in let b = c.in_ok-truth-in-If.truth in
    let picked = c.branch-chosen.ensures ∙ ap (λ ss. chosen b (stmts_of (map stmt_view ss)) no) c.as_slice-in-If-2.ensures.value in let on = λ (back : Return) (b : Bool). blocked sc (λ back. if b then stmts_mean yes s back sc else else_means no s back sc) back in
    let known = gives_as c.in_ok-truth-in-If.ensures.ok (gave_pure b value.within) in let new = c.play_block.new.progress in let turn = ap (λ ss. block_of ss s sc) picked ∙ sym (chooses b yes no s sc) in let flow = c.in_ok-flow-in-If.flow in let ends = pairs_view c.play_block.new.scope.items in let h = subst (λ ss. Flows x q new ss ends flow) turn c.in_ok-flow-in-If.ensures.ok in let k = flows_block x q new (λ back. if b then stmts_mean yes s back sc else else_means no s back sc) sc ends flow h in
    let cut : outside sc ends ≡ pairs_view c.truncate.new.self.items = sym (ap pairs_view c.truncate.ensures.items ∙ cut_back c.args.scope.now.items c.play_block.new.scope.items c.len-outer.result (omega arith)) in
    subst (λ scope. Flows x p new (λ back. stmt_means (stmt_view st) s back sc) scope flow) cut
    (subst (λ ss. Flows x p new ss (outside sc ends) flow) (sym m)
    (flows_then whole new (outside sc ends) flow paid (flows_then rest new (outside sc ends) flow value (flows_then on new (outside sc ends) flow known k))))

pub play_stmt-returns-in_err-items-in-For-clause-err : goal.play_stmt-returns-in_err-items-in-For-clause-err
play_stmt-returns-in_err-items-in-For-clause-err t c =
    let x = c.args.context.now in let p = c.args.progress.now in let s = site_at x c.args.seen in let st = c.args.stmt.now in let sc = pairs_view c.args.scope.now.items in let mid = c.spend.new.progress in let body = stmts_of (map stmt_view c.in-For.body.items) in
    let what = plain.each c.in-For.name (expr_view c.in-For.e) body in let d = done_as st (act.For c.in-For.name c.in-For.e c.in-For.body) what c.in-For.is (act-For c.in-For.name c.in-For.e c.in-For.body) in let m = does_as (stmt_view st) st.at what s sc d in
    let whole = λ (back : Return) (u : Unit {0}). act_means what s back sc in let a = expr_means (expr_view c.in-For.e) s sc in let rest = λ (back : Return) (v : Value). as_items v >>= (λ vs. turns s (turn_of s back c.in-For.name.text body) vs sc) in let paid = c.in_ok-spend.ensures.ok c.args.seen in
    let q = c.play_expr-in-For.new.progress in let v = tree c.in_ok-value-in-For.value in let value = subst (λ (ps : List (List ℕ × Val)). Gives x mid q (expr_means (expr_view c.in-For.e) s (pairs_view ps)) v) c.as_slice-in-For.ensures.value c.in_ok-value-in-For.ensures.ok in let e = c.in_err-items-in-For.field-0.0 in let on = λ (back : Return) (vs : List Value). turns s (turn_of s back c.in-For.name.text body) vs sc in
    handed_on c.from_residual-in_err-items-in-For.result e _
    (subst (λ ss. Breaks x p q ss e) (sym m) (then_breaks whole q e paid (then_breaks rest q e value (fails_first x q q (as_items v) on e (refused x q e c.in_err-items-in-For.ensures.err)))))
    c.from_residual-in_err-items-in-For.ensures.1

pub play_stmt-play_turns-requires : goal.play_stmt-play_turns-requires
play_stmt-play_turns-requires t c =
    let x = c.args.context.now in let p = c.args.progress.now in let s = site_at x c.args.seen in let st = c.args.stmt.now in let body = stmts_of (map stmt_view c.in-For.body.items) in let size = ap stmt_size (done_as st (act.For c.in-For.name c.in-For.e c.in-For.body) (plain.each c.in-For.name (expr_view c.in-For.e) body) c.in-For.is (act-For c.in-For.name c.in-For.e c.in-For.body)) in let same = ap (λ ss. stmts_size (stmts_of (map stmt_view ss))) c.as_slice-in-For-3.ensures.value in
    (omega arith, (c.in_ok-value-in-For.ensures.ok.within, c.requires.there))

pub play_stmt-returns-in_ok-items-in-For-clause-ok : goal.play_stmt-returns-in_ok-items-in-For-clause-ok
play_stmt-returns-in_ok-items-in-For-clause-ok t c =
    let x = c.args.context.now in let p = c.args.progress.now in let s = site_at x c.args.seen in let st = c.args.stmt.now in let sc = pairs_view c.args.scope.now.items in let mid = c.spend.new.progress in let body = stmts_of (map stmt_view c.in-For.body.items) in
    let what = plain.each c.in-For.name (expr_view c.in-For.e) body in let d = done_as st (act.For c.in-For.name c.in-For.e c.in-For.body) what c.in-For.is (act-For c.in-For.name c.in-For.e c.in-For.body) in let m = does_as (stmt_view st) st.at what s sc d in
    let whole = λ (back : Return) (u : Unit {0}). act_means what s back sc in let a = expr_means (expr_view c.in-For.e) s sc in let rest = λ (back : Return) (v : Value). as_items v >>= (λ vs. turns s (turn_of s back c.in-For.name.text body) vs sc) in let paid = c.in_ok-spend.ensures.ok c.args.seen in
    let q = c.play_expr-in-For.new.progress in let v = tree c.in_ok-value-in-For.value in let value = subst (λ (ps : List (List ℕ × Val)). Gives x mid q (expr_means (expr_view c.in-For.e) s (pairs_view ps)) v) c.as_slice-in-For.ensures.value c.in_ok-value-in-For.ensures.ok in let vs = c.in_ok-items-in-For.items in
    let on = λ (back : Return) (vs : List Value). turns s (turn_of s back c.in-For.name.text body) vs sc in let known = gives_as c.in_ok-items-in-For.ensures.ok (gave_pure vs value.within) in let new = c.play_turns.new.progress in let ends = pairs_view c.play_turns.new.scope.items in let name = c.in-For.name.text in
    let turn = ap (λ ss. turns_of s name (stmts_of (map stmt_view ss)) (map tree c.as_slice-in-For-2.result.now) sc) c.as_slice-in-For-3.ensures.value
    ∙ ap (λ us. turns_of s name body us sc) c.as_slice-in-For-2.ensures.value in
    IfOk-weaker c.play_turns.result _ _ (λ flow h.
    subst (λ ss. Flows x p new ss ends flow) (sym m)
    (flows_then whole new ends flow paid (flows_then rest new ends flow value (flows_then on new ends flow known (subst (λ ss. Flows x q new ss ends flow) turn h)))))
    c.play_turns.ensures.ok

pub play_stmt-returns-in_ok-items-in-For-clause-err : goal.play_stmt-returns-in_ok-items-in-For-clause-err
play_stmt-returns-in_ok-items-in-For-clause-err t c =
    let x = c.args.context.now in let p = c.args.progress.now in let s = site_at x c.args.seen in let st = c.args.stmt.now in let sc = pairs_view c.args.scope.now.items in let mid = c.spend.new.progress in let body = stmts_of (map stmt_view c.in-For.body.items) in
    let what = plain.each c.in-For.name (expr_view c.in-For.e) body in let d = done_as st (act.For c.in-For.name c.in-For.e c.in-For.body) what c.in-For.is (act-For c.in-For.name c.in-For.e c.in-For.body) in let m = does_as (stmt_view st) st.at what s sc d in
    let whole = λ (back : Return) (u : Unit {0}). act_means what s back sc in let a = expr_means (expr_view c.in-For.e) s sc in let rest = λ (back : Return) (v : Value). as_items v >>= (λ vs. turns s (turn_of s back c.in-For.name.text body) vs sc) in let paid = c.in_ok-spend.ensures.ok c.args.seen in
    let q = c.play_expr-in-For.new.progress in let v = tree c.in_ok-value-in-For.value in let value = subst (λ (ps : List (List ℕ × Val)). Gives x mid q (expr_means (expr_view c.in-For.e) s (pairs_view ps)) v) c.as_slice-in-For.ensures.value c.in_ok-value-in-For.ensures.ok in let vs = c.in_ok-items-in-For.items in
    let on = λ (back : Return) (vs : List Value). turns s (turn_of s back c.in-For.name.text body) vs sc in let known = gives_as c.in_ok-items-in-For.ensures.ok (gave_pure vs value.within) in let new = c.play_turns.new.progress in let ends = pairs_view c.play_turns.new.scope.items in let name = c.in-For.name.text in
    let turn = ap (λ ss. turns_of s name (stmts_of (map stmt_view ss)) (map tree c.as_slice-in-For-2.result.now) sc) c.as_slice-in-For-3.ensures.value
    ∙ ap (λ us. turns_of s name body us sc) c.as_slice-in-For-2.ensures.value in
    IfErr-weaker c.play_turns.result _ _ (λ e h.
    subst (λ ss. Breaks x p new ss e) (sym m)
    (then_breaks whole new e paid (then_breaks rest new e value (then_breaks on new e known (subst (λ ss. Breaks x q new ss e) turn h)))))
    c.play_turns.ensures.err
