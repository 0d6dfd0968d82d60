-- Which bytes are loaded as a program, and why others aren't.
use Rattle.std.specs.Prelude.{◌≡◌, ◌≢◌, ℕ, List, None, Some}
use Rattle.fn_check.specs.Functions.{first_fault}
use Rattle.fn_check.specs.declared.fault.CheckFault.{CheckFault}
use Rattle.fn_tree.specs.ModuleTexts.{IsModuleText, IsFaultOf}
use Rattle.fn_tree.specs.SyntaxTree.{ModuleTree}
use Rattle.fn_load.specs.declared.fault.LoadFault.{LoadFault}
use Rattle.fn_load.specs.declared.fault.LoadFault.TheVariants.{Syntax, Check, Memory}

-- the bytes are the text of this module, which meets every check
pub record IsAccepted (bytes : List ℕ) (tree : ModuleTree) : Type 0 where
  pub reads : IsModuleText bytes tree
  pub meets : first_fault tree ≡ None

-- the bytes are the text of a module whose first fault is this one
pub record IsUnmet (bytes : List ℕ) (fault : CheckFault) : Type 0 where
  pub tree : ModuleTree
  pub reads : IsModuleText bytes tree
  pub first : first_fault tree ≡ Some fault

-- the cause of each fault: the grammar, else a check; want of memory has none
abbrev pub IsCauseOf : List ℕ → LoadFault → Type 0
IsCauseOf bytes (Syntax fault) = IsFaultOf bytes fault
IsCauseOf bytes (Check fault) = IsUnmet bytes fault
IsCauseOf bytes Memory = Unit {0}

-- ---- at most one answer

-- bytes are accepted as at most one module
abbrev pub AtMostOneAccepted : Type 0
AtMostOneAccepted = (bytes : List ℕ) (tree other : ModuleTree) → IsAccepted bytes tree → IsAccepted bytes other → tree ≡ other

-- what is accepted has no fault but want of memory
abbrev pub AcceptedHaveNoCause : Type 0
AcceptedHaveNoCause = (bytes : List ℕ) (tree : ModuleTree) (fault : LoadFault) → IsAccepted bytes tree → IsCauseOf bytes fault → fault ≡ Memory

-- bytes have at most one fault but want of memory
abbrev pub AtMostOneCause : Type 0
AtMostOneCause = (bytes : List ℕ) (fault other : LoadFault) → fault ≢ Memory → other ≢ Memory → IsCauseOf bytes fault → IsCauseOf bytes other → fault ≡ other
