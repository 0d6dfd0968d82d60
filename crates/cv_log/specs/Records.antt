-- What a log holds.
use Rattle.std.specs.Prelude.{ℕ, List}
use Rattle.cv_reads.specs.declared.mark.Mark.{Mark}
use Rattle.fn_tree.specs.History.{History}

-- the entries in order, the marks that were appended with each, and how many more fit without memory
pub record Log : Type 0 where
  pub entries : History
  pub marks : List (List Mark)
  pub spare : ℕ
