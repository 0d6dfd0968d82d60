-- What a stand means.
use Rattle.std.specs.Prelude.{ℤ, refl}
use Rattle.std.specs.Coded.{Coded, code_by, coded×, coded_ℤ}
use Rattle.fn_tree.specs.History.{History}
use Rattle.fn_tree.specs.SyntaxTree.{ModuleTree}
use Rattle.fn_tree.specs.SyntaxViews.{module_view}
use Rattle.fn_tree.specs.declared.syntax.Module.{Module}
use Rattle.cv_store.specs.Codes.{history_code, module_code}
use Rattle.cv_stand.specs.Plays.{Stage}

-- the module of its program, and where its events came to
pub record Stood : Type 0 where
  pub tree : Module
  pub stage : Stage

abbrev pub stood_code : Coded Stood
stood_code = code_by (Module × (ℤ × History)) (coded× module_code (coded× coded_ℤ history_code))
    (λ s. (s.tree, (s.stage.clock, s.stage.history))) (λ p. record { tree = p.0; stage = record { clock = p.1.0; history = p.1.1 } }) (λ _. refl)

abbrev pub module_of : Stood → ModuleTree
module_of s = module_view s.tree
