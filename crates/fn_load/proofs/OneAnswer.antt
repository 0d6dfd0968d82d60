-- At most one answer of bytes that are loaded.
use Rattle.std.proofs.Common.{◌≡◌, ◌≢◌, ℕ, List, None, Some, sym, ap, refl, ◌∙◌}
use Rattle.fn_check.specs.Functions.{first_fault}
use Rattle.fn_check.specs.declared.fault.CheckFault.{CheckFault}
use Rattle.fn_tree.specs.ModuleLaws.{AtMostOneModule, ModulesHaveNoFault, AtMostOneFault}
use Rattle.fn_tree.specs.SyntaxTree.{ModuleTree}
use Rattle.fn_load.specs.Loading.{IsAccepted, IsUnmet, IsCauseOf}
use Rattle.fn_load.specs.declared.fault.LoadFault.{LoadFault}
use Rattle.fn_load.specs.declared.fault.LoadFault.TheVariants.{Syntax, Check, Memory}

pub one_module : AtMostOneModule → (bytes : List ℕ) (tree other : ModuleTree) → IsAccepted bytes tree → IsAccepted bytes other → tree ≡ other
one_module one bytes tree other v w = one bytes tree other v.reads w.reads

met_and_unmet : AtMostOneModule → (bytes : List ℕ) (tree : ModuleTree) (fault : CheckFault) → IsAccepted bytes tree → IsUnmet bytes fault → ⊥
met_and_unmet one bytes tree fault v w =
    let e : None ≡ Some fault = sym v.meets ∙ ap first_fault (one bytes tree w.tree v.reads w.reads) ∙ w.first in cc

pub no_cause : AtMostOneModule → ModulesHaveNoFault → (bytes : List ℕ) (tree : ModuleTree) (fault : LoadFault) → IsAccepted bytes tree → IsCauseOf bytes fault → fault ≡ Memory
no_cause one none bytes tree (Syntax fault) v w = absurd (none bytes tree fault v.reads w)
no_cause one none bytes tree (Check fault) v w = absurd (met_and_unmet one bytes tree fault v w)
no_cause one none bytes tree Memory v w = refl

same_some : {f g : CheckFault} → Some f ≡ Some g → f ≡ g
same_some e = cc

same_unmet : AtMostOneModule → (bytes : List ℕ) (f g : CheckFault) → IsUnmet bytes f → IsUnmet bytes g → f ≡ g
same_unmet one bytes f g v w = same_some (sym v.first ∙ ap first_fault (one bytes v.tree w.tree v.reads w.reads) ∙ w.first)

pub one_cause : AtMostOneModule → ModulesHaveNoFault → AtMostOneFault → (bytes : List ℕ) (f g : LoadFault) → f ≢ Memory → g ≢ Memory → IsCauseOf bytes f → IsCauseOf bytes g → f ≡ g
one_cause one none fault bytes (Syntax f) (Syntax g) s t v w = ap Syntax (fault bytes f g v w)
one_cause one none fault bytes (Syntax f) (Check g) s t v w = absurd (none bytes w.tree f w.reads v)
one_cause one none fault bytes (Check f) (Syntax g) s t v w = absurd (none bytes v.tree g v.reads w)
one_cause one none fault bytes (Check f) (Check g) s t v w = ap Check (same_unmet one bytes f g v w)
one_cause one none fault bytes Memory g s t v w = absurd (s refl)
one_cause one none fault bytes f Memory s t v w = absurd (t refl)
