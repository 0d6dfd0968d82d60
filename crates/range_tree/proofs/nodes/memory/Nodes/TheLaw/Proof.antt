-- A `&` to the nodes reaches each of them. Assumes `Logic`.
use contract.BorrowLft.{⊑_static}
use denote.RawPtr.{RawPtr}
use denote.Param.Shared.{copy_shared}
use denote.Struct.Laws.{field_copy}
use denote.Struct.Lending.{of_Lends}
use Rattle.core.specs.contracts.marker.PhantomData as marker
use Rattle.range_tree.specs.contracts.nodes.memory.Nodes as C
use Rattle.range_tree.proofs.nodes.memory.Nodes.TheLaw.Statement.{statement}
use Rattle.range_tree.proofs.Sharing.{tree_lent_laws, Lends-tree}

pub shares : statement
shares = of_Lends C.struct (C.the_codes (marker.the_row RawPtr).coded) C.the_heap C.the_lent
    (λ d p. tree_lent_laws d.tree) (copy_shared (marker.the_field RawPtr) (field_copy (marker.the_type RawPtr) tt), tt)
    (λ M 𝓤 𝓛 d p. Lends-tree 𝓛 (C.the_row).lives (⊑_static (C.the_row).lives) d.tree)
