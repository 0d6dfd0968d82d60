-- Documents by number, with spare room.
use Rattle.std.specs.Prelude.{ℕ, List}
use Rattle.cv_values.specs.declared.doc.Doc.{Doc}

-- the documents in the order of their numbers, and how many more fit without memory
pub record Numbered : Type 0 where
  pub docs : List Doc
  pub spare : ℕ
