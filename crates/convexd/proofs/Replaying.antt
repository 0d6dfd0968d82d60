-- At most one answer of an input that is replayed.
use Rattle.std.proofs.Common.{◌≡◌, inl, inr, ℕ, ◌+◌, List, length, Option, None, Some, sym, ap, refl, ◌∙◌, arith}
use Rattle.fn_check.specs.Functions.{first_fault}
use Rattle.fn_tree.specs.ModuleLaws.{AtMostOneModule, ModulesHaveNoFault, AtMostOneFault}
use Rattle.fn_tree.specs.ModuleTexts.{IsModuleText}
use Rattle.fn_tree.specs.SyntaxTree.{ModuleTree}
use Rattle.convexd.specs.Answering.{Answers, IsGoodInput, IsPlay, IsRefusedBefore}
use Rattle.convexd.specs.Check.{IsRefused}
use Rattle.cv_stand.specs.Events.{script_of}
use Rattle.convexd.specs.Exits.{IsDoneOrFault, TellsOfInput}
use Rattle.convexd.specs.Lines.{concat}
use Rattle.convexd.specs.declared.exit.Exit.{Exit}
use Rattle.convexd.specs.declared.exit.Exit.TheVariants.{Done, Usage, Module, Script, Read, Write, Memory, TooLarge}
use Rattle.convexd.specs.declared.exit.ModuleFault.{ModuleFault}
use Rattle.convexd.proofs.Checking.{not_refused, same_refusal}

some_pair : {X Y : Type 0} (a c : X) (b d : Y) → ◌≡◌ {A = Option (X × Y)} (Some (a, b)) (Some (c, d)) → (a ≡ c) × (b ≡ d)
some_pair {X} {Y} a c b d e =
    let pair : ◌≡◌ {A = X × Y} (a, b) (c, d) = cc in
    (ap (λ (p : X × Y). p.0) pair, ap (λ (p : X × Y). p.1) pair)

same_stop : (input text other : List ℕ) (stop stop' : Option ℕ) → IsPlay input stop text → IsPlay input stop' other → stop ≡ stop'
same_stop input text other stop stop' v w =
    let same = some_pair v.front w.front v.lines w.lines (sym v.parts ∙ w.parts) in
    v.stops ∙ (λ i. (script_of (length (same.0 i) + 2) (same.1 i)).bad) ∙ sym w.stops

-- the text before the line `%%` isn't refused, where it is that of a module that meets every check
module _ (one : AtMostOneModule) (none : ModulesHaveNoFault) (input : List ℕ) (fault : ModuleFault) where
  accepted : (front lines : List (List ℕ)) (tree : ModuleTree) → IsModuleText (concat front) tree → first_fault tree ≡ None → IsRefused (concat front) fault → ⊥
  accepted front lines tree reads meets refused = not_refused one none (concat front) _ fault (record { tree = tree; reads = reads; meets = meets; same = refl }) refused

  no_play : (stop : Option ℕ) (text : List ℕ) → IsRefusedBefore input fault → IsPlay input stop text → ⊥
  no_play stop text r w =
      let front : r.front ≡ w.front = (some_pair r.front w.front r.lines w.lines (sym r.parts ∙ w.parts)).0 in
      let cause : IsRefused (concat w.front) fault = rw front at r.cause in
      accepted w.front w.lines w.tree w.reads w.meets cause

  no_good : IsRefusedBefore input fault → IsGoodInput input → ⊥
  no_good r g =
      let front : r.front ≡ g.front = (some_pair r.front g.front r.lines g.lines (sym r.parts ∙ g.parts)).0 in
      let cause : IsRefused (concat g.front) fault = rw front at r.cause in
      accepted g.front g.lines g.tree g.reads g.meets cause

-- ---- good inputs

good_stop : (input text : List ℕ) (stop : Option ℕ) → IsGoodInput input → IsPlay input stop text → stop ≡ None
good_stop input text stop g w =
    let same = some_pair w.front g.front w.lines g.lines (sym w.parts ∙ g.parts) in
    w.stops ∙ (λ i. (script_of (length (same.0 i) + 2) (same.1 i)).bad) ∙ g.good

pub good_ends : AtMostOneModule → ModulesHaveNoFault → (input : List ℕ) → IsGoodInput input → (old new : Option (List ℕ)) (exit : Exit) → Answers input old new exit → IsDoneOrFault exit
good_ends one none input g old new Done w = tt
good_ends one none input g old new Usage w = w
good_ends one none input g old new Read w = tt
good_ends one none input g old new Write w = tt
good_ends one none input g old new Memory w = tt
good_ends one none input g old new (Module fault) w = no_good one none input fault w.0 g
good_ends one none input g old new (Script line) (inl w) = let e = sym w.0.0 ∙ g.parts in cc
good_ends one none input g old new (Script line) (inr w) = let e = sym (good_stop input w.0 (Some line) g w.1) in cc
good_ends one none input g old new TooLarge w = omega (arith, w.0, g.limit)

-- ---- two answers

done_script : (input : List ℕ) (old new old' new' : Option (List ℕ)) (line : ℕ) → Answers input old new Done → Answers input old' new' (Script line) → ⊥
done_script input old new old' new' line v (inl w) = let e = sym w.0.0 ∙ v.1.parts in cc
done_script input old new old' new' line v (inr w) = let e = same_stop input v.0 w.0 None (Some line) v.1 w.1 in cc

script_large : (input : List ℕ) (old new old' new' : Option (List ℕ)) (line : ℕ) → Answers input old new (Script line) → Answers input old' new' TooLarge → ⊥
script_large input old new old' new' line (inl v) w = omega (arith, w.0, v.2)
script_large input old new old' new' line (inr v) w = omega (arith, w.0, v.1.limit)

same_some : (m n : ℕ) → Some m ≡ Some n → m ≡ n
same_some m n e = cc

same_line : (input : List ℕ) (old new old' new' : Option (List ℕ)) (m n : ℕ) → Answers input old new (Script m) → Answers input old' new' (Script n) → m ≡ n
same_line input old new old' new' m n (inl v) (inl w) = v.0.1 ∙ sym w.0.1
same_line input old new old' new' m n (inl v) (inr w) = let e = sym v.0.0 ∙ w.1.parts in cc
same_line input old new old' new' m n (inr v) (inl w) = let e = sym w.0.0 ∙ v.1.parts in cc
same_line input old new old' new' m n (inr v) (inr w) = same_some m n (same_stop input v.0 w.0 (Some m) (Some n) v.1 w.1)

module _ (one : AtMostOneModule) (none : ModulesHaveNoFault) (fault : AtMostOneFault) (input : List ℕ) (old new old' new' : Option (List ℕ)) where
  script_module : (line : ℕ) (f : ModuleFault) → Answers input old new (Script line) → IsRefusedBefore input f → ⊥
  script_module line f (inl v) w = let e = sym v.0.0 ∙ w.parts in cc
  script_module line f (inr v) w = no_play one none input f (Some line) v.0 w v.1

  same_module : (f g : ModuleFault) → IsRefusedBefore input f → IsRefusedBefore input g → f ≡ g
  same_module f g v w =
      let front : v.front ≡ w.front = (some_pair v.front w.front v.lines w.lines (sym v.parts ∙ w.parts)).0 in
      let cause : IsRefused (concat w.front) f = rw front at v.cause in
      same_refusal one none fault (concat w.front) f g cause w.cause

pub exclude : AtMostOneModule → ModulesHaveNoFault → AtMostOneFault → (input : List ℕ) (old new again then : Option (List ℕ)) (a b : Exit) → TellsOfInput a → TellsOfInput b → Answers input old new a → Answers input again then b → a ≡ b
exclude one none fault input old new again then Done Done s t v w = refl
exclude one none fault input old new again then Done (Script line) s t v w = absurd (done_script input old new again then line v w)
exclude one none fault input old new again then Done (Module g) s t v w = absurd (no_play one none input g None v.0 w.0 v.1)
exclude one none fault input old new again then Done TooLarge s t v w = absurd (omega (arith, w.0, v.1.limit))
exclude one none fault input old new again then (Script line) Done s t v w = absurd (done_script input again then old new line w v)
exclude one none fault input old new again then (Script m) (Script n) s t v w = ap Script (same_line input old new again then m n v w)
exclude one none fault input old new again then (Script line) (Module g) s t v w = absurd (script_module one none fault input old new again then line g v w.0)
exclude one none fault input old new again then (Script line) TooLarge s t v w = absurd (script_large input old new again then line v w)
exclude one none fault input old new again then (Module f) Done s t v w = absurd (no_play one none input f None w.0 v.0 w.1)
exclude one none fault input old new again then (Module f) (Script line) s t v w = absurd (script_module one none fault input again then old new line f w v.0)
exclude one none fault input old new again then (Module f) (Module g) s t v w = ap Module (same_module one none fault input old new again then f g v.0 w.0)
exclude one none fault input old new again then (Module f) TooLarge s t v w = absurd (omega (arith, w.0, v.2))
exclude one none fault input old new again then TooLarge Done s t v w = absurd (omega (arith, v.0, w.1.limit))
exclude one none fault input old new again then TooLarge (Script line) s t v w = absurd (script_large input again then old new line w v)
exclude one none fault input old new again then TooLarge (Module g) s t v w = absurd (omega (arith, v.0, w.2))
exclude one none fault input old new again then TooLarge TooLarge s t v w = refl
exclude one none fault input old new again then Usage b s t v w = absurd s
exclude one none fault input old new again then Read b s t v w = absurd s
exclude one none fault input old new again then Write b s t v w = absurd s
exclude one none fault input old new again then Memory b s t v w = absurd s
exclude one none fault input old new again then a Usage s t v w = absurd t
exclude one none fault input old new again then a Read s t v w = absurd t
exclude one none fault input old new again then a Write s t v w = absurd t
exclude one none fault input old new again then a Memory s t v w = absurd t
