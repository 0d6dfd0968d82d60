-- Machines may go to another thread, each of their parts after the other.
use denote.Param.Send.{IsSend, sendable, view_send}
use denote.Param.SendFields.{declared_send, variants_send}
use Rattle.std_alloc.proofs.vec.Vec.TheSendSync.{the_send as vec_send}
use Rattle.std_heap.proofs.Global.TheSendSync.{the_send as global_send}
use Rattle.std_heap.proofs.GlobalAllocator.TheSendSync.{the_frees as frees}
use Rattle.cv_values.proofs.Crossing.{val_send, doc_send}
use Rattle.fn_tree.proofs.Crossing.{outcome_send}
use Rattle.fn_vm.proofs.counts.Counts.TheSendSync.{the_send as counts_send}
use Rattle.fn_vm.proofs.run.Terms.TheSendSync.{the_send as terms_send}
use Rattle.fn_vm.specs.contracts.frame.Frame.{the_row as frame_row, the_type as frame_type}
use Rattle.fn_vm.specs.contracts.frame.Items.{the_row as items_row}
use Rattle.fn_vm.specs.contracts.frame.Items.TheInside.{the_row as items_inside, the_type as items_type}
use Rattle.fn_vm.specs.contracts.frame.Loops.{the_row as loops_row}
use Rattle.fn_vm.specs.contracts.frame.Loops.TheInside.{the_row as loops_inside, the_type as loops_type}
use Rattle.fn_vm.specs.contracts.frame.Slots.{the_row as slots_row}
use Rattle.fn_vm.specs.contracts.frame.Slots.TheInside.{the_row as slots_inside, the_type as slots_type}
use Rattle.fn_vm.specs.contracts.frame.Stack.{the_row as stack_row}
use Rattle.fn_vm.specs.contracts.frame.Stack.TheInside.{the_row as stack_inside, the_type as stack_type}
use Rattle.fn_vm.specs.contracts.machine.Machine.{the_row as machine_row, the_type as machine_type}
use Rattle.fn_vm.specs.contracts.machine.Phase.{the_row as phase_row, enum as phase_enum}
use Rattle.fn_vm.specs.contracts.run.Run.{the_row as run_row, the_type as run_type}

stack_send : IsSend stack_row
stack_send =
    let inside : IsSend stack_inside = declared_send stack_type (search (vec_send, val_send, global_send, frees) depth 8, tt) in
    search (view_send, inside) depth 6

slots_send : IsSend slots_row
slots_send =
    let inside : IsSend slots_inside = declared_send slots_type (search (vec_send, val_send, global_send, frees) depth 8, tt) in
    search (view_send, inside) depth 6

items_send : IsSend items_row
items_send =
    let inside : IsSend items_inside = declared_send items_type (search (vec_send, val_send, global_send, frees) depth 8, tt) in
    search (view_send, inside) depth 6

loops_send : IsSend loops_row
loops_send =
    let inside : IsSend loops_inside = declared_send loops_type (search (vec_send, items_send, global_send, frees) depth 8, tt) in
    search (view_send, inside) depth 6

frame_send : IsSend frame_row
frame_send = declared_send frame_type (search sendable, (slots_send, (stack_send, (loops_send, tt))))

run_send : IsSend run_row
run_send = declared_send run_type (global_send, (frame_send, (search (vec_send, frame_send, global_send, frees) depth 8, (counts_send, tt))))

phase_send : IsSend phase_row
phase_send =
    variants_send phase_enum (tt, ((outcome_send, tt), (tt, ((search (vec_send, doc_send, global_send, frees) depth 8, tt), (tt, (tt, tt))))))

pub machine_send : IsSend machine_row
machine_send = declared_send machine_type (run_send, (terms_send, (phase_send, tt)))
