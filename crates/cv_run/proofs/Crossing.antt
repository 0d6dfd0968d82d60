-- Jobs may go to another thread, each of their parts after the other.
use denote.Param.Send.{IsSend, sendable}
use denote.Param.SendFields.{declared_send, variants_send}
use Rattle.core.proofs.option.Option.TheSendSync.{the_send as option_send}
use Rattle.fn_tree.proofs.Crossing.{call_send, reply_send}
use Rattle.fn_tree.proofs.stop.Ask.TheSendSync.{the_send as ask_send}
use Rattle.cv_store.proofs.Crossing.{seen_send, meant_send}
use Rattle.cv_store.proofs.proposal.ReadReq.TheSendSync.{the_send as request_send}
use Rattle.cv_tx.proofs.Crossing.{tx_send}
use Rattle.fn_vm.proofs.Crossing.{machine_send}
use Rattle.cv_run.specs.contracts.attempt.Attempt.{the_row as attempt_row, the_type as attempt_type}
use Rattle.cv_run.specs.contracts.pause.Pause.{the_row as pause_row, enum as pause_enum}
use Rattle.cv_run.specs.contracts.run_job.RunJob.{the_row as job_row, the_type as job_type}

pause_send : IsSend pause_row
pause_send = variants_send pause_enum ((ask_send, (request_send, tt)), ((reply_send, (reply_send, tt)), tt))

attempt_send : IsSend attempt_row
attempt_send = declared_send attempt_type (call_send, (search sendable, (machine_send, (tx_send, (pause_send, (seen_send, (meant_send, tt)))))))

pub job_send : IsSend job_row
job_send = declared_send job_type (search (option_send, attempt_send) depth 8, tt)
