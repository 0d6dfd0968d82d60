-- Steps of a run, one after another.
use Rattle.std.proofs.Common.{◌≡◌, ◌∙◌, ℕ, List, [], ◌∷◌, ◌++◌, map, refl, sym, ap, subst}
use Rattle.std.specs.Prelude.{codes}
use Rattle.std.proofs.lemmas.List.{append-nil}
use Rattle.cv_values.specs.Value.{Value, null}
use Rattle.fn_tree.specs.Actions.{Action, ◌>>=◌, ◌>>◌, give, fail, type_error, Counts, Scope}
use Rattle.fn_tree.specs.Course.{Course}
use Rattle.fn_tree.specs.Meaning.{Return}
use Rattle.fn_plain.specs.States.{IsWithin, Gives, EndsBy, Fails, Statements, Leaves, Returns, BreaksBy, Breaks, End, counts_of, end_of, error_end}
use Rattle.cv_keys.specs.declared.interval.Interval.{Interval}
use Rattle.fn_plain.specs.Texts.{Says, Refuses}
use Rattle.fn_plain.specs.declared.context.Context.{Context}
use Rattle.fn_plain.specs.declared.context.Progress.{Progress}
use Rattle.fn_plain.specs.declared.fault.Fault.{Fault}
use Rattle.fn_plain.specs.declared.fault.Fault.TheVariants.{Failed, Memory}

-- whatever comes next, an action from here ends as another does from there
pub record Reaches {A : Type 0} (c : Context) (old new : Progress) (before after : Action A) : Type 0 where
  pub by : (next : A → Counts → Course) → end_of c old (before (counts_of old.counts) next) ≡ end_of c new (after (counts_of new.counts) next)

-- the same of statements
pub record Comes (c : Context) (old new : Progress) (before after : Statements) : Type 0 where
  pub by : (back : Return) (next : Scope → Counts → Course) → end_of c old (before back (counts_of old.counts) next) ≡ end_of c new (after back (counts_of new.counts) next)

-- ---- actions

pub gave_pure : {A : Type 0} {c : Context} {p : Progress} (a : A) → IsWithin 0 c p.counts → Gives c p p (give a) a
gave_pure a h = record { within = h; by = λ next. refl }

pub fail_ends : {A : Type 0} {c : Context} {p : Progress} (why : List ℕ) → EndsBy {A = A} c p p (fail why) why
fail_ends {p = p} why = record { by = λ next. ap (λ (reads : List Interval). record (error_end p why) { reads = reads }) (append-nil p.reads.items) }

pub fail_fails : (A : Type 0) (c : Context) (p : Progress) (fault : Fault) (why : List ℕ) → Says fault why → Fails {A = A} c p p (fail why) fault
fail_fails A c p (Failed text) why h = subst (λ (w : List ℕ). EndsBy {A = A} c p p (fail why) w) (sym h) (fail_ends why)
fail_fails A c p Memory why h = tt

pub then_gives : {A B : Type 0} {c : Context} {old mid new : Progress} {m : Action A} {a : A} {b : B} (f : A → Action B) → Gives c old mid m a → Gives c mid new (f a) b → Gives c old new (m >>= f) b
then_gives f h k = record { within = k.within; by = λ next. h.by (λ x d. f x d next) ∙ k.by next }

pub then_ends : {A B : Type 0} {c : Context} {old mid new : Progress} {m : Action A} {a : A} {why : List ℕ} (f : A → Action B) → Gives c old mid m a → EndsBy c mid new (f a) why → EndsBy c old new (m >>= f) why
then_ends f h k = record { by = λ next. h.by (λ x d. f x d next) ∙ k.by next }

pub then_fails : {A B : Type 0} {c : Context} {old mid : Progress} {m : Action A} {a : A} (f : A → Action B) (new : Progress) (fault : Fault) → Gives c old mid m a → Fails c mid new (f a) fault → Fails c old new (m >>= f) fault
then_fails f new (Failed why) h k = then_ends f h k
then_fails f new Memory h k = tt

pub first_fails : {A B : Type 0} (c : Context) (old new : Progress) (m : Action A) (f : A → Action B) (fault : Fault) → Fails c old new m fault → Fails c old new (m >>= f) fault
first_fails c old new m f (Failed why) h = record { by = λ next. h.by (λ x d. f x d next) }
first_fails c old new m f Memory h = tt

-- ---- statements after an action

module _ {A : Type 0} {c : Context} {old mid new : Progress} {m : Action A} {a : A} (f : Return → A → Action Scope) (h : Gives c old mid m a) where
  pub then_leaves : {scope : Scope} → Leaves c mid new (λ back. f back a) scope → Leaves c old new (λ back. m >>= f back) scope
  then_leaves k = record { within = k.within; by = λ back next. h.by (λ x d. f back x d next) ∙ k.by back next }

  pub then_returns : {v : Value} → Returns c mid new (λ back. f back a) v → Returns c old new (λ back. m >>= f back) v
  then_returns k = record { within = k.within; by = λ back next. h.by (λ x d. f back x d next) ∙ k.by back next }

pub then_breaks : {A : Type 0} {c : Context} {old mid : Progress} {m : Action A} {a : A} (f : Return → A → Action Scope) (new : Progress) (fault : Fault) → Gives c old mid m a → Breaks c mid new (λ back. f back a) fault → Breaks c old new (λ back. m >>= f back) fault
then_breaks f new (Failed why) h k = record { by = λ back next. h.by (λ x d. f back x d next) ∙ k.by back next }
then_breaks f new Memory h k = tt

pub fails_first : {A : Type 0} (c : Context) (old new : Progress) (m : Action A) (f : Return → A → Action Scope) (fault : Fault) → Fails c old new m fault → Breaks c old new (λ back. m >>= f back) fault
fails_first c old new m f (Failed why) h = record { by = λ back next. h.by (λ x d. f back x d next) }
fails_first c old new m f Memory h = tt

-- ---- statements after statements

module _ {c : Context} {old mid new : Progress} {ss : Statements} {between : Scope} (f : Return → Scope → Action Scope) (h : Leaves c old mid ss between) where
  pub next_leaves : {scope : Scope} → Leaves c mid new (λ back. f back between) scope → Leaves c old new (λ back. ss back >>= f back) scope
  next_leaves k = record { within = k.within; by = λ back next. h.by back (λ x d. f back x d next) ∙ k.by back next }

  pub next_returns : {v : Value} → Returns c mid new (λ back. f back between) v → Returns c old new (λ back. ss back >>= f back) v
  next_returns k = record { within = k.within; by = λ back next. h.by back (λ x d. f back x d next) ∙ k.by back next }

pub next_breaks : {c : Context} {old mid : Progress} {ss : Statements} {between : Scope} (f : Return → Scope → Action Scope) (new : Progress) (fault : Fault) → Leaves c old mid ss between → Breaks c mid new (λ back. f back between) fault → Breaks c old new (λ back. ss back >>= f back) fault
next_breaks f new (Failed why) h k = record { by = λ back next. h.by back (λ x d. f back x d next) ∙ k.by back next }
next_breaks f new Memory h k = tt

pub returns_first : {c : Context} {old new : Progress} {ss : Statements} {v : Value} (f : Return → Scope → Action Scope) → Returns c old new ss v → Returns c old new (λ back. ss back >>= f back) v
returns_first f h = record { within = h.within; by = λ back next. h.by back (λ x d. f back x d next) }

pub breaks_first : (c : Context) (old new : Progress) (ss : Statements) (f : Return → Scope → Action Scope) (fault : Fault) → Breaks c old new ss fault → Breaks c old new (λ back. ss back >>= f back) fault
breaks_first c old new ss f (Failed why) h = record { by = λ back next. h.by back (λ x d. f back x d next) }
breaks_first c old new ss f Memory h = tt

-- ---- what is reached

pub reached_gives : {A : Type 0} {c : Context} {old mid new : Progress} {m n : Action A} {a : A} → Reaches c old mid m n → Gives c mid new n a → Gives c old new m a
reached_gives h k = record { within = k.within; by = λ next. h.by next ∙ k.by next }

pub reached_fails : {A : Type 0} {c : Context} {old mid : Progress} {m n : Action A} (new : Progress) (fault : Fault) → Reaches c old mid m n → Fails c mid new n fault → Fails c old new m fault
reached_fails new (Failed why) h k = record { by = λ next. h.by next ∙ k.by next }
reached_fails new Memory h k = tt

pub came_leaves : {c : Context} {old mid new : Progress} {m n : Statements} {scope : Scope} → Comes c old mid m n → Leaves c mid new n scope → Leaves c old new m scope
came_leaves h k = record { within = k.within; by = λ back next. h.by back next ∙ k.by back next }

pub came_returns : {c : Context} {old mid new : Progress} {m n : Statements} {v : Value} → Comes c old mid m n → Returns c mid new n v → Returns c old new m v
came_returns h k = record { within = k.within; by = λ back next. h.by back next ∙ k.by back next }

pub came_breaks : {c : Context} {old mid : Progress} {m n : Statements} (new : Progress) (fault : Fault) → Comes c old mid m n → Breaks c mid new n fault → Breaks c old new m fault
came_breaks new (Failed why) h k = record { by = λ back next. h.by back next ∙ k.by back next }
came_breaks new Memory h k = tt

-- ---- a `return`, and a function's body

pub returned : {c : Context} {old new : Progress} {m : Action Value} {v : Value} → Gives c old new m v → Returns c old new (λ back d next. m d back) v
returned h = record { within = h.within; by = λ back next. h.by back }

pub return_breaks : (c : Context) (old new : Progress) (m : Action Value) (fault : Fault) → Fails c old new m fault → Breaks c old new (λ back d next. m d back) fault
return_breaks c old new m (Failed why) h = record { by = λ back next. h.by back }
return_breaks c old new m Memory h = tt

-- what statements give whose end gives null
abbrev pub given_by : Statements → Action Value
given_by ss = λ d back. ss back d (λ after e. back null e)

pub left_gives : {c : Context} {old new : Progress} {ss : Statements} {scope : Scope} → Leaves c old new ss scope → Gives c old new (given_by ss) null
left_gives h = record { within = h.within; by = λ next. h.by next (λ after e. next null e) }

pub returned_gives : {c : Context} {old new : Progress} {ss : Statements} {v : Value} → Returns c old new ss v → Gives c old new (given_by ss) v
returned_gives h = record { within = h.within; by = λ next. h.by next (λ after e. next null e) }

pub broken_fails : (c : Context) (old new : Progress) (ss : Statements) (fault : Fault) → Breaks c old new ss fault → Fails c old new (given_by ss) fault
broken_fails c old new ss (Failed why) h = record { by = λ next. h.by next (λ after e. next null e) }
broken_fails c old new ss Memory h = tt

-- ---- an action that is known

pub gives_as : {A : Type 0} {c : Context} {old new : Progress} {m n : Action A} {a : A} → m ≡ n → Gives c old new n a → Gives c old new m a
gives_as {c = c} {old = old} {new = new} {a = a} e h = subst (λ k. Gives c old new k a) (sym e) h

pub fails_as : {A : Type 0} (c : Context) (old new : Progress) (fault : Fault) {m n : Action A} → m ≡ n → Fails c old new n fault → Fails c old new m fault
fails_as c old new fault e h = subst (λ k. Fails c old new k fault) (sym e) h

pub fails_by : {A : Type 0} (c : Context) (p : Progress) (fault : Fault) {m : Action A} (why : List ℕ) → m ≡ fail why → Says fault why → Fails c p p m fault
fails_by {A = A} c p fault why e h = fails_as c p p fault e (fail_fails A c p fault why h)

pub refused : {A : Type 0} (c : Context) (p : Progress) (fault : Fault) {m : Action A} → Refuses m fault → Fails c p p m fault
refused c p fault h = fails_by c p fault (codes "TypeError") h.is h.says

-- an action that gives variables, as a statement
pub action_leaves : {c : Context} {old new : Progress} {m : Action Scope} {scope : Scope} → Gives c old new m scope → Leaves c old new (λ back. m) scope
action_leaves g = record { within = g.within; by = λ back next. g.by next }

pub action_breaks : (c : Context) (old new : Progress) (m : Action Scope) (fault : Fault) → Fails c old new m fault → Breaks c old new (λ back. m) fault
action_breaks c old new m (Failed why) e = record { by = λ back next. e.by next }
action_breaks c old new m Memory e = tt
