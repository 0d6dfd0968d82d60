use denote.Param.Send.{sendable}
use Rattle.cv_run.proofs.Crossing.{job_send}
use Rattle.cv_run.proofs.laws.jobs_cross.Goals as goal

pub crosses-requires-send-T : goal.crosses-requires-send-T
crosses-requires-send-T c κs = search (sendable, job_send) depth 8
