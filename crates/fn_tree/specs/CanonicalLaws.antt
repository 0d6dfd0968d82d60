-- The law of canonical text: it reads back as the same tree, up to places.
use Rattle.std.specs.Prelude.{ℕ, ◌≤◌, List, length}
use Rattle.fn_tree.specs.Canonical.{canonical_text}
use Rattle.fn_tree.specs.ModuleTexts.{IsModuleText, longest}
use Rattle.fn_tree.specs.Placeless.{same_but_places}
use Rattle.fn_tree.specs.SyntaxTree.{ModuleTree}

-- the canonical text of the module of a text, where it isn't too long, is a text of that module up to places
abbrev pub CanonicalReadsBack : Type 0
CanonicalReadsBack = (bytes : List ℕ) (m : ModuleTree) → IsModuleText bytes m → length (canonical_text m) ≤ longest → (n : ModuleTree) × IsModuleText (canonical_text m) n × same_but_places n m
