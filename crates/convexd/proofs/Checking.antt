-- At most one answer of a text that is checked.
use Rattle.std.proofs.Common.{◌≡◌, ◌<◌, ℕ, List, length, Option, None, Some, sym, ap, refl, ◌∙◌, arith}
use Rattle.cv_outside.specs.declared.whole.TheConstants.{INPUT_LIMIT}
use Rattle.fn_check.specs.Functions.{first_fault}
use Rattle.fn_check.specs.declared.fault.CheckFault.{CheckFault}
use Rattle.fn_tree.specs.Canonical.{canonical_text}
use Rattle.fn_tree.specs.ModuleLaws.{AtMostOneModule, ModulesHaveNoFault, AtMostOneFault}
use Rattle.convexd.specs.Check.{IsCanonical, IsRefused, Checks}
use Rattle.convexd.specs.Exits.{IsDoneOrFault, TellsOfInput}
use Rattle.convexd.specs.declared.exit.Exit.{Exit}
use Rattle.convexd.specs.declared.exit.Exit.TheVariants.{Done, Usage, Module, Script, Read, Write, Memory, TooLarge}
use Rattle.convexd.specs.declared.exit.ModuleFault.{ModuleFault}
use Rattle.convexd.specs.declared.exit.ModuleFault.TheVariants.{Syntax, Check}

pub same_text : AtMostOneModule → (input text other : List ℕ) → IsCanonical input text → IsCanonical input other → text ≡ other
same_text one input text other v w =
    let tree = one input v.tree w.tree v.reads w.reads in
    v.same ∙ ap canonical_text tree ∙ sym w.same

pub not_refused : AtMostOneModule → ModulesHaveNoFault → (input text : List ℕ) (fault : ModuleFault) → IsCanonical input text → IsRefused input fault → ⊥
not_refused one none input text (Syntax fault) v w = none input v.tree fault v.reads w
not_refused one none input text (Check fault) v w =
    let e : None ≡ Some fault = sym v.meets ∙ ap first_fault (one input v.tree w.tree v.reads w.reads) ∙ w.first in cc

same_some : {f g : CheckFault} → Some f ≡ Some g → f ≡ g
same_some e = cc

pub same_refusal : AtMostOneModule → ModulesHaveNoFault → AtMostOneFault → (input : List ℕ) (f g : ModuleFault) → IsRefused input f → IsRefused input g → f ≡ g
same_refusal one none fault input (Syntax f) (Syntax g) v w = ap Syntax (fault input f g v w)
same_refusal one none fault input (Syntax f) (Check g) v w = absurd (none input w.tree f w.reads v)
same_refusal one none fault input (Check f) (Syntax g) v w = absurd (none input v.tree g v.reads w)
same_refusal one none fault input (Check f) (Check g) v w = ap Check (same_some (sym v.first ∙ ap first_fault (one input v.tree w.tree v.reads w.reads) ∙ w.first))

-- what is accepted isn't too large
not_large : (input text : List ℕ) → IsCanonical input text → INPUT_LIMIT < length input → ⊥
not_large input text v w = omega (arith, v.reads.short, w)

pub ends : AtMostOneModule → ModulesHaveNoFault → (input text : List ℕ) → IsCanonical input text → (old new : Option (List ℕ)) (exit : Exit) → Checks input old new exit → IsDoneOrFault exit
ends one none input text v old new Done w = tt
ends one none input text v old new Usage w = w
ends one none input text v old new Read w = tt
ends one none input text v old new Write w = tt
ends one none input text v old new Memory w = tt
ends one none input text v old new (Module fault) w = not_refused one none input text fault v w.0
ends one none input text v old new (Script line) w = w
ends one none input text v old new TooLarge w = not_large input text v w.0

pub exclude : AtMostOneModule → ModulesHaveNoFault → AtMostOneFault → (input : List ℕ) (old new again then : Option (List ℕ)) (a b : Exit) → TellsOfInput a → TellsOfInput b → Checks input old new a → Checks input again then b → a ≡ b
exclude one none fault input old new again then Done Done s t v w = refl
exclude one none fault input old new again then Done (Module g) s t v w = absurd (not_refused one none input v.0 g v.1 w.0)
exclude one none fault input old new again then Done TooLarge s t v w = absurd (not_large input v.0 v.1 w.0)
exclude one none fault input old new again then (Module f) Done s t v w = absurd (not_refused one none input w.0 f w.1 v.0)
exclude one none fault input old new again then (Module f) (Module g) s t v w = ap Module (same_refusal one none fault input f g v.0 w.0)
exclude one none fault input old new again then (Module f) TooLarge s t v w = absurd (omega (arith, w.0, v.1))
exclude one none fault input old new again then TooLarge Done s t v w = absurd (not_large input w.0 w.1 v.0)
exclude one none fault input old new again then TooLarge (Module g) s t v w = absurd (omega (arith, v.0, w.1))
exclude one none fault input old new again then TooLarge TooLarge s t v w = refl
exclude one none fault input old new again then (Script line) b s t v w = absurd v
exclude one none fault input old new again then a (Script line) s t v w = absurd w
exclude one none fault input old new again then Usage b s t v w = absurd s
exclude one none fault input old new again then Read b s t v w = absurd s
exclude one none fault input old new again then Write b s t v w = absurd s
exclude one none fault input old new again then Memory b s t v w = absurd s
exclude one none fault input old new again then a Usage s t v w = absurd t
exclude one none fault input old new again then a Read s t v w = absurd t
exclude one none fault input old new again then a Write s t v w = absurd t
exclude one none fault input old new again then a Memory s t v w = absurd t
