-- Proposals, and what proofs keep of a store and a program, may go to another thread.
use denote.Param.Send.{IsSend, sendable}
use denote.Param.SendFields.{declared_send, owner_send}
use Rattle.cv_keys.proofs.Crossing.{writes_send}
use Rattle.cv_reads.proofs.read_set.ReadSet.TheSendSync.{the_send as read_set_send}
use Rattle.fn_tree.proofs.Crossing.{call_send, reply_send}
use Rattle.cv_store.specs.contracts.proposal.Proposal.{the_row as proposal_row, the_type as proposal_type}
use Rattle.cv_store.specs.contracts.seen.Meant.{the_row as meant_row, the_type as meant_type}
use Rattle.cv_store.specs.contracts.seen.Seen.{the_row as seen_row, the_type as seen_type}

pub proposal_send : IsSend proposal_row
proposal_send = declared_send proposal_type (call_send, (search sendable, (reply_send, (writes_send, (read_set_send, tt)))))

pub seen_send : IsSend seen_row
seen_send = owner_send seen_type tt (λ d. tt) (λ k x w. tt)

pub meant_send : IsSend meant_row
meant_send = owner_send meant_type tt (λ d. tt) (λ k x w. tt)
