use Rattle.std.proofs.Common.{◌≡◌, map, drop}
use Rattle.fn_check.specs.Known.{any_has}
use Rattle.fn_check.proofs.scope.any_has.Given as goal

abbrev pub invariant-loop-block : goal.invariant-loop-block
invariant-loop-block l = any_has (map (λ b. b.keys) (drop l.block-index l.blocks)) l.name ≡ any_has (map (λ b. b.keys) l.blocks) l.name
