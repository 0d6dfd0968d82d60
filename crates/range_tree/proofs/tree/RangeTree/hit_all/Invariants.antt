use Rattle.range_tree.proofs.tree.RangeTree.hit_all.Given as goal

abbrev pub ghosts-stab_on : goal.ghosts-stab_on
ghosts-stab_on g a = record { name = a.blank.name; parts = a.blank.parts }
