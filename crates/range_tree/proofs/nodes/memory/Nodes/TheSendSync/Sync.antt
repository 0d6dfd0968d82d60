use denote.Struct.Owning.{shape, to}
use denote.Param.Send.{IsSync, struct_sync, sendable}
use Rattle.range_tree.proofs.Crosses.{tree_lent-Common}
use Rattle.range_tree.specs.contracts.nodes.memory.Nodes.{the_row, the_type}

pub sync : IsSync the_row
sync = record { shared = λ d b o κ. ((struct_sync (shape the_type) (search sendable, tt)).shared (to the_type d) b o κ, tree_lent-Common d.tree κ) }
