-- The variables that the program holds, and how statements end.
use Rattle.std.specs.Prelude.{ℕ, Bool, true, false, List, [], ◌∷◌, ◌++◌, map, codes}
use Rattle.cv_values.specs.Trees.{tree}
use Rattle.cv_values.specs.Value.{Value, string}
use Rattle.cv_values.specs.declared.val.Val.{Val}
use Rattle.fn_tree.specs.Actions.{Action, ◌>>=◌, give, Scope, Site}
use Rattle.fn_tree.specs.Meaning.{Return, throw_text, stmts_mean}
use Rattle.fn_tree.specs.Names.{outside}
use Rattle.fn_tree.specs.SyntaxTree.{Stmts, no_stmts, Else, no_else, or_else}
use Rattle.fn_tree.specs.declared.syntax.CompareOp.{CompareOp}
use Rattle.fn_plain.specs.States.{Statements, Leaves, Returns}
use Rattle.fn_plain.specs.declared.context.Context.{Context}
use Rattle.fn_plain.specs.declared.context.Progress.{Progress}
use Rattle.fn_plain.specs.declared.play.Flow.{Flow}
use Rattle.fn_plain.specs.declared.play.Flow.TheVariants.{On, Returned}

-- names with plain values
abbrev pub pairs_view : List (List ℕ × Val) → List (List ℕ × Value)
pairs_view ps = map (λ p. (p.0, tree p.1)) ps

-- the operators of bounds, with plain values
abbrev pub bounds_view : List (CompareOp × Val) → List (CompareOp × Value)
bounds_view bs = map (λ b. (b.0, tree b.1)) bs

-- one turn of a loop
abbrev pub turn_of : Site → Return → List ℕ → Stmts → Value → Scope → Action Scope
turn_of site back name body w before = do
  after ← stmts_mean body site back (before ++ (name, w) ∷ [])
  give (outside before after)

-- the statements that a truth value chooses
abbrev pub chosen : Bool → Stmts → Else → Stmts
chosen true a b = a
chosen false a no_else = no_stmts
chosen false a (or_else ss) = ss

-- the text of a throw
abbrev pub thrown_text : Value → List ℕ
thrown_text (string s) = throw_text s
thrown_text v = codes "TypeError"

-- how statements ended that were not ended by an error
abbrev pub Flows : Context → Progress → Progress → Statements → Scope → Flow → Type 0
Flows c old new ss scope On = Leaves c old new ss scope
Flows c old new ss scope (Returned v) = Returns c old new ss (tree v)
