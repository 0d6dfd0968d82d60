-- Laws of module texts and their faults.
use Rattle.std.specs.Prelude.{◌≡◌, ℕ, List}
use Rattle.fn_tree.specs.ModuleTexts.{IsModuleText, IsFaultOf}
use Rattle.fn_tree.specs.SyntaxTree.{ModuleTree}
use Rattle.fn_tree.specs.declared.fault.SyntaxFault.{SyntaxFault}

-- bytes are the text of at most one module
abbrev pub AtMostOneModule : Type 0
AtMostOneModule = (bytes : List ℕ) (m n : ModuleTree) → IsModuleText bytes m → IsModuleText bytes n → m ≡ n

-- the text of a module has no fault
abbrev pub ModulesHaveNoFault : Type 0
ModulesHaveNoFault = (bytes : List ℕ) (m : ModuleTree) (fault : SyntaxFault) → IsModuleText bytes m → IsFaultOf bytes fault → ⊥

-- bytes have at most one fault
abbrev pub AtMostOneFault : Type 0
AtMostOneFault = (bytes : List ℕ) (fault other : SyntaxFault) → IsFaultOf bytes fault → IsFaultOf bytes other → fault ≡ other
