-- Loops over expressions, statements and items.
use Rattle.std.proofs.Common.{◌≡◌, ◌∙◌, ◌<◌, ◌≤◌, ℕ, zero, suc, ◌+◌, List, [], ◌∷◌, ◌++◌, map, length, take, drop, get_or, refl, sym, ap, subst, arith, add-one}
use Rattle.std.proofs.Math.Seq.{drop-cons}
use Rattle.std.proofs.Math.Path.{fun_ext}
use Rattle.std.proofs.lemmas.List.{append-nil, append_assoc, length-map, take-map}
use Rattle.fn_tree.specs.Actions.{Action, ◌>>=◌, give, Counts, Scope}
use Rattle.fn_tree.specs.Meaning.{Return}
use Rattle.fn_tree.specs.Names.{outside}
use Rattle.cv_values.specs.Trees.{tree}
use Rattle.cv_values.specs.declared.val.Val.{Val}
use Rattle.fn_plain.specs.Scopes.{pairs_view}
use Rattle.fn_plain.specs.States.{IsWithin, Gives, Fails, Statements, Leaves, Returns, Breaks, counts_of, end_of}
use Rattle.fn_plain.specs.declared.context.Context.{Context}
use Rattle.fn_plain.specs.declared.context.Progress.{Progress}
use Rattle.fn_plain.specs.declared.fault.Fault.{Fault}
use Rattle.fn_plain.specs.declared.fault.Fault.TheVariants.{Failed, Memory}
use Rattle.fn_plain.proofs.Steps.{Reaches, Comes}

-- ---- values that are collected

-- one, and then the rest
abbrev pub and_rest : {X Y : Type 0} → (X → Y) → Action X → Action (List Y) → Action (List Y)
and_rest pair one rest = one >>= (λ v. rest >>= (λ vs. give (pair v ∷ vs)))

-- behind those that there are
abbrev pub behind : {Y : Type 0} → List Y → Action (List Y) → Action (List Y)
behind had rest = rest >>= (λ vs. give (had ++ vs))

pub collect_none : {Y : Type 0} {c : Context} {p : Progress} (m : Action (List Y)) → Reaches c p p m (behind [] m)
collect_none m = record { by = λ next. refl }

pub collect_more : {X Y : Type 0} {c : Context} {old mid new : Progress} {m : Action (List Y)} {one : Action X} {x : X} (rest : Action (List Y)) (pair : X → Y) (had : List Y) → Reaches c old mid m (behind had (and_rest pair one rest)) → Gives c mid new one x → Reaches c old new m (behind (had ++ pair x ∷ []) rest)
collect_more {Y = Y} {c = c} {new = new} {x = x} rest pair had h k = record {
  by = λ next.
      let e : (λ (vs : List Y). had ++ (pair x ∷ vs)) ≡ (λ (vs : List Y). (had ++ pair x ∷ []) ++ vs) = fun_ext (λ vs. sym (append_assoc had (pair x ∷ []) vs)) in
      h.by next ∙ k.by (λ v d. rest d (λ vs d2. next (had ++ (pair v ∷ vs)) d2))
      ∙ ap (λ (g : List Y → List Y). end_of c new (rest (counts_of new.counts) (λ vs d. next (g vs) d))) e;
}

pub collect_end : {Y : Type 0} {c : Context} {old new : Progress} {m : Action (List Y)} (had : List Y) → IsWithin 0 c new.counts → Reaches c old new m (behind had (give [])) → Gives c old new m had
collect_end {Y = Y} {c = c} {new = new} had w h = record { within = w; by = λ next. h.by next ∙ ap (λ (vs : List Y). end_of c new (next vs (counts_of new.counts))) (append-nil had) }

-- ---- statements

pub came_nothing : {c : Context} {p : Progress} (ss : Statements) → Comes c p p ss ss
came_nothing ss = record { by = λ back next. refl }

pub came_then : {X : Type 0} {c : Context} {old mid new : Progress} {m : Statements} {one : Action X} {x : X} (f : Return → X → Action Scope) → Comes c old mid m (λ back. one >>= f back) → Gives c mid new one x → Comes c old new m (λ back. f back x)
came_then f h k = record { by = λ back next. h.by back next ∙ k.by (λ v d. f back v d next) }

pub came_more : {c : Context} {old mid new : Progress} {m ss : Statements} {scope : Scope} (f : Return → Scope → Action Scope) → Comes c old mid m (λ back. ss back >>= f back) → Leaves c mid new ss scope → Comes c old new m (λ back. f back scope)
came_more f h k = record { by = λ back next. h.by back next ∙ k.by back (λ v d. f back v d next) }

pub came_end : {c : Context} {old new : Progress} {m : Statements} {scope : Scope} → IsWithin 0 c new.counts → Comes c old new m (λ back. give scope) → Leaves c old new m scope
came_end w h = record { within = w; by = h.by }

-- ---- lists

-- what is left begins with the next
pub next_left : {X : Type 0} (xs : List X) (i : ℕ) (x : X) → i < length xs → x ≡ get_or xs i x → drop i xs ≡ x ∷ drop (i + 1) xs
next_left xs i x h e = drop-cons xs i x h ∙ ap (λ y. y ∷ drop (suc i) xs) (sym e) ∙ ap (λ k. x ∷ drop k xs) (sym (add-one i))

pub none_left : {X : Type 0} (xs : List X) (i : ℕ) → length xs ≤ i → drop i xs ≡ []
none_left [] zero h = refl
none_left [] (suc i) h = refl
none_left (x ∷ xs) zero h = absurd (omega arith)
none_left (x ∷ xs) (suc i) h = none_left xs i (omega arith)

-- a block's outside
pub cut_back : (ps qs : List (List ℕ × Val)) (n : ℕ) → n ≡ length ps → pairs_view (take n qs) ≡ outside (pairs_view ps) (pairs_view qs)
cut_back ps qs n e =
    sym (take-map (λ (p : List ℕ × Val). (p.0, tree p.1)) n qs)
    ∙ ap (λ k. take k (pairs_view qs)) (e ∙ sym (length-map ps (λ (p : List ℕ × Val). (p.0, tree p.1))))

pub collect_fails : {X Y : Type 0} {c : Context} {old mid : Progress} {m : Action (List Y)} (one : Action X) (rest : Action (List Y)) (pair : X → Y) (had : List Y) (new : Progress) (fault : Fault) → Reaches c old mid m (behind had (and_rest pair one rest)) → Fails c mid new one fault → Fails c old new m fault
collect_fails one rest pair had new (Failed why) h k = record { by = λ next. h.by next ∙ k.by (λ v d. rest d (λ vs d2. next (had ++ (pair v ∷ vs)) d2)) }
collect_fails one rest pair had new Memory h k = tt
