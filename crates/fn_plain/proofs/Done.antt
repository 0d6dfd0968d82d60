-- What statements do, one after another.
use Rattle.std.proofs.Common.{◌≡◌, ◌∙◌, Bool, true, false, List, ℕ, refl, sym, ap, subst, if◌then◌else◌}
use Rattle.std.specs.Prelude.{codes}
use Rattle.cv_values.specs.Value.{Value, null, int, boolean, string, bytes, array, object}
use Rattle.fn_tree.specs.Actions.{Action, ◌>>=◌, give, fail, Scope, Site, spend, as_text}
use Rattle.fn_tree.specs.Meaning.{Return, throw_text, stmt_means, act_means, stmts_mean, else_means, turns}
use Rattle.fn_tree.specs.Names.{outside}
use Rattle.fn_tree.specs.SyntaxTree as plain
use Rattle.fn_tree.specs.SyntaxTree.{Stmts, Else, no_else, or_else}
use Rattle.fn_plain.specs.Scopes.{Flows, chosen, turn_of, thrown_text}
use Rattle.fn_plain.specs.Sizes.{stmts_size, else_size}
use Rattle.fn_plain.specs.States.{IsWithin, Gives, Fails, Statements, Leaves, Returns, Breaks}
use Rattle.fn_plain.specs.Texts.{Says}
use Rattle.fn_plain.specs.declared.context.Context.{Context}
use Rattle.fn_plain.specs.declared.context.Progress.{Progress}
use Rattle.fn_plain.specs.declared.fault.Fault.{Fault}
use Rattle.fn_plain.specs.declared.fault.Fault.TheVariants.{Failed, Memory}
use Rattle.fn_plain.specs.declared.play.Flow.{Flow}
use Rattle.fn_plain.specs.declared.play.Flow.TheVariants.{On, Returned}
use Rattle.std.proofs.Common.{◌+◌, ◌≤◌, arith}
use Rattle.fn_plain.proofs.Steps.{fails_by, then_leaves, then_returns, next_leaves, returns_first}

pub left_pure : {c : Context} {p : Progress} (scope : Scope) → IsWithin 0 c p.counts → Leaves c p p (λ back. give scope) scope
left_pure scope h = record { within = h; by = λ back next. refl }

pub flows_then : {A : Type 0} {c : Context} {old mid : Progress} {m : Action A} {a : A} (f : Return → A → Action Scope) (new : Progress) (scope : Scope) (flow : Flow) → Gives c old mid m a → Flows c mid new (λ back. f back a) scope flow → Flows c old new (λ back. m >>= f back) scope flow
flows_then f new scope On h k = then_leaves f h k
flows_then f new scope (Returned v) h k = then_returns f h k

-- a block, behind which its own variables are gone
abbrev pub blocked : Scope → (Return → Action Scope) → Return → Action Scope
blocked scope inside back = inside back >>= (λ after. give (outside scope after))

pub flows_block : (c : Context) (old new : Progress) (inside : Statements) (scope ends : Scope) (flow : Flow) → Flows c old new inside ends flow → Flows c old new (blocked scope inside) (outside scope ends) flow
flows_block c old new inside scope ends On h = next_leaves (λ back after. give (outside scope after)) h (left_pure (outside scope ends) h.within)
flows_block c old new inside scope ends (Returned v) h = returns_first (λ back after. give (outside scope after)) h

pub breaks_of : (c : Context) (old new : Progress) (m : Action Scope) (fault : Fault) → Fails c old new m fault → Breaks c old new (λ back. m) fault
breaks_of c old new m (Failed why) h = record { by = λ back next. h.by next }
breaks_of c old new m Memory h = tt

-- a statement, a block and the turns of a loop, as statements
abbrev pub does : plain.Stmt → Site → Scope → Statements
does t site scope = λ back. stmt_means t site back scope

abbrev pub paid_for : plain.Act → Site → Scope → Statements
paid_for what site scope = λ back. spend site >>= (λ u. act_means what site back scope)

abbrev pub block_of : Stmts → Site → Scope → Statements
block_of ss site scope = λ back. stmts_mean ss site back scope

abbrev pub choice_of : Bool → Stmts → Else → Site → Scope → Statements
choice_of b a e site scope = λ back. if b then stmts_mean a site back scope else else_means e site back scope

abbrev pub turns_of : Site → List ℕ → Stmts → List Value → Scope → Statements
turns_of site name body vs scope = λ back. turns site (turn_of site back name body) vs scope

pub does_as : (t : plain.Stmt) (start : ℕ) (what : plain.Act) (site : Site) (scope : Scope) → t ≡ plain.stmt start what → does t site scope ≡ paid_for what site scope
does_as t start what site scope e = ap (λ (u : plain.Stmt). does u site scope) e

-- a choice is the statements that it chooses
pub chooses : (b : Bool) (a : Stmts) (e : Else) (site : Site) (scope : Scope) → choice_of b a e site scope ≡ block_of (chosen b a e) site scope
chooses true a e site scope = refl
chooses false a no_else site scope = refl
chooses false a (or_else ss) site scope = refl

pub chosen_falls : (b : Bool) (a : Stmts) (e : Else) → stmts_size (chosen b a e) ≤ stmts_size a + else_size e
chosen_falls true a e = omega arith
chosen_falls false a no_else = omega arith
chosen_falls false a (or_else ss) = omega arith

throw_is : (v : Value) → (as_text v >>= (λ s. fail {A = Scope} (throw_text s))) ≡ fail (thrown_text v)
throw_is null = refl
throw_is (int z) = refl
throw_is (boolean b) = refl
throw_is (string s) = refl
throw_is (bytes s) = refl
throw_is (array vs) = refl
throw_is (object ms) = refl

pub throws : (c : Context) (p : Progress) (v : Value) (fault : Fault) → Says fault (thrown_text v) → Breaks c p p (λ back. as_text v >>= (λ s. fail (throw_text s))) fault
throws c p v fault h = breaks_of c p p _ fault (fails_by c p fault (thrown_text v) (throw_is v) h)
