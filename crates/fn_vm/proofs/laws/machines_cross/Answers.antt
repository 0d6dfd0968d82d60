use denote.Param.Send.{sendable}
use Rattle.fn_vm.proofs.Crossing.{machine_send}
use Rattle.fn_vm.proofs.laws.machines_cross.Goals as goal

pub crosses-requires-send-T : goal.crosses-requires-send-T
crosses-requires-send-T c κs = search (sendable, machine_send) depth 8
