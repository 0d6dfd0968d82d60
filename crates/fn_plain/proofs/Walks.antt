-- What a call of the program did: it gave a value, or a fault.
use Rattle.std.proofs.Common.{◌≡◌, ◌∙◌, ℕ, List, refl, sym, ap, subst}
use Rattle.std.specs.Prelude.{Result, Ok, Err, IfOk, IfErr, codes}
use Rattle.cv_values.specs.Trees.{tree}
use Rattle.cv_values.specs.Value.{Value}
use Rattle.cv_values.specs.declared.val.Val.{Val}
use Rattle.fn_ops.specs.Operations.{Given}
use Rattle.fn_ops.specs.declared.fault.OpFault.{OpFault}
use Rattle.fn_ops.specs.declared.fault.OpFault.TheVariants.{Memory as NoMemory}
use Rattle.fn_tree.specs.Actions.{Action, ◌>>=◌, give, fail, type_error, given, op_text, Counts, Scope}
use Rattle.fn_tree.specs.Meaning.{Return}
use Rattle.fn_plain.specs.Operations.{Tells, OperationGives}
use Rattle.fn_plain.specs.Scopes.{Flows}
use Rattle.fn_plain.specs.States.{IsWithin, Gives, EndsBy, Fails, Statements, Leaves, Returns, Breaks}
use Rattle.fn_plain.specs.Texts.{Says, Refuses}
use Rattle.fn_plain.specs.declared.context.Context.{Context}
use Rattle.fn_plain.specs.declared.context.Progress.{Progress}
use Rattle.fn_plain.specs.declared.fault.Fault.{Fault}
use Rattle.fn_plain.specs.declared.fault.Fault.TheVariants.{Failed, Memory}
use Rattle.fn_plain.specs.declared.play.Flow.{Flow}
use Rattle.fn_plain.specs.declared.play.Flow.TheVariants.{On, Returned}
use Rattle.fn_plain.proofs.Steps.{Reaches, Comes, gave_pure, fail_fails, then_gives, then_fails, first_fails, then_leaves, then_returns, then_breaks, fails_first, next_leaves, next_returns, next_breaks, returns_first, breaks_first, reached_gives, reached_fails, came_leaves, came_returns, came_breaks}

pub record Walks {A B : Type 0} (view : B → A) (c : Context) (old new : Progress) (m : Action A) (r : Result B Fault) : Type 0 where
  pub ok : IfOk r (λ b. Gives c old new m (view b))
  pub err : IfErr r (λ f. Fails c old new m f)

pub walk_then : {X A B : Type 0} {view : B → A} {c : Context} {old mid new : Progress} {m : Action X} {x : X} (f : X → Action A) (r : Result B Fault) → Gives c old mid m x → Walks view c mid new (f x) r → Walks view c old new (m >>= f) r
walk_then f (Ok b) h k = record { ok = then_gives f h k.ok; err = tt }
walk_then {new = new} f (Err e) h k = record { ok = tt; err = then_fails f new e h k.err }

-- the first action failed
pub walk_first : {X A B : Type 0} (view : B → A) (c : Context) (old new : Progress) (m : Action X) (f : X → Action A) (e : Fault) → Fails c old new m e → Walks view c old new (m >>= f) (Err e)
walk_first view c old new m f e h = record { ok = tt; err = first_fails c old new m f e h }

pub walk_gave : {A B : Type 0} {c : Context} {old new : Progress} {m : Action A} (view : B → A) (b : B) → Gives c old new m (view b) → Walks view c old new m (Ok b)
walk_gave view b h = record { ok = h; err = tt }

-- memory was wanting
pub walk_memory : {A B : Type 0} (view : B → A) (c : Context) (old new : Progress) (m : Action A) → Walks view c old new m (Err Memory)
walk_memory view c old new m = record { ok = tt; err = tt }

pub walk_failed : {A B : Type 0} (view : B → A) (c : Context) (p : Progress) (e : Fault) (why : List ℕ) → Says e why → Walks view c p p (fail why) (Err e)
walk_failed {A = A} view c p e why h = record { ok = tt; err = fail_fails A c p e why h }

pub walk_as : {A B : Type 0} {view : B → A} {c : Context} {old new : Progress} {m n : Action A} {r : Result B Fault} → m ≡ n → Walks view c old new n r → Walks view c old new m r
walk_as {view = view} {c = c} {old = old} {new = new} {r = r} e h = subst (λ k. Walks view c old new k r) (sym e) h

pub walk_reached : {A B : Type 0} {view : B → A} {c : Context} {old mid new : Progress} {m n : Action A} (r : Result B Fault) → Reaches c old mid m n → Walks view c mid new n r → Walks view c old new m r
walk_reached (Ok b) h k = record { ok = reached_gives h k.ok; err = tt }
walk_reached {new = new} (Err e) h k = record { ok = tt; err = reached_fails new e h k.err }

-- the result of an operation
pub walk_given : (c : Context) (p : Progress) (x : Result Val OpFault) (g : Given) (r : Result Val Fault) → IsWithin 0 c p.counts → OperationGives x g → Tells x r → Walks tree c p p (given g) r
walk_given c p (Ok v) g (Ok w) h k t =
    subst (λ (u : Val). Walks tree c p p (given g) (Ok u)) (sym t) (walk_as (ap given k) (walk_gave tree v (gave_pure (tree v) h)))
walk_given c p (Ok v) g (Err e) h k t = absurd t
walk_given c p (Err NoMemory) g r h k t = subst (λ (u : Result Val Fault). Walks tree c p p (given g) u) (sym t) (walk_memory tree c p p (given g))
walk_given c p (Err e) g (Ok w) h k t = absurd t
walk_given c p (Err e) g (Err f) h k t = walk_as (ap given k) (walk_failed tree c p f (op_text e) t)

-- ---- statements

pub record Steps (c : Context) (old new : Progress) (ss : Statements) (scope : Scope) (r : Result Flow Fault) : Type 0 where
  pub ok : IfOk r (λ flow. Flows c old new ss scope flow)
  pub err : IfErr r (λ f. Breaks c old new ss f)

pub steps_then : {X : Type 0} {c : Context} {old mid : Progress} {m : Action X} {x : X} (f : Return → X → Action Scope) (new : Progress) (scope : Scope) (r : Result Flow Fault) → Gives c old mid m x → Steps c mid new (λ back. f back x) scope r → Steps c old new (λ back. m >>= f back) scope r
steps_then f new scope (Ok On) h k = record { ok = then_leaves f h k.ok; err = tt }
steps_then f new scope (Ok (Returned v)) h k = record { ok = then_returns f h k.ok; err = tt }
steps_then f new scope (Err e) h k = record { ok = tt; err = then_breaks f new e h k.err }

pub steps_failed : {X : Type 0} (c : Context) (old new : Progress) (m : Action X) (f : Return → X → Action Scope) (scope : Scope) (e : Fault) → Fails c old new m e → Steps c old new (λ back. m >>= f back) scope (Err e)
steps_failed c old new m f scope e h = record { ok = tt; err = fails_first c old new m f e h }

pub steps_memory : (c : Context) (old new : Progress) (ss : Statements) (scope : Scope) → Steps c old new ss scope (Err Memory)
steps_memory c old new ss scope = record { ok = tt; err = tt }

-- statements that were done, and what comes behind them
pub steps_next : {c : Context} {old mid : Progress} {ss : Statements} {between : Scope} (f : Return → Scope → Action Scope) (new : Progress) (scope : Scope) (r : Result Flow Fault) → Leaves c old mid ss between → Steps c mid new (λ back. f back between) scope r → Steps c old new (λ back. ss back >>= f back) scope r
steps_next f new scope (Ok On) h k = record { ok = next_leaves f h k.ok; err = tt }
steps_next f new scope (Ok (Returned v)) h k = record { ok = next_returns f h k.ok; err = tt }
steps_next f new scope (Err e) h k = record { ok = tt; err = next_breaks f new e h k.err }

pub steps_came : {c : Context} {old mid : Progress} {m n : Statements} (new : Progress) (scope : Scope) (r : Result Flow Fault) → Comes c old mid m n → Steps c mid new n scope r → Steps c old new m scope r
steps_came new scope (Ok On) h k = record { ok = came_leaves h k.ok; err = tt }
steps_came new scope (Ok (Returned v)) h k = record { ok = came_returns h k.ok; err = tt }
steps_came new scope (Err e) h k = record { ok = tt; err = came_breaks new e h k.err }
