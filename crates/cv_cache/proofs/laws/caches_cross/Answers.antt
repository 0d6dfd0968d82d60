use denote.Param.Send.{sendable}
use Rattle.cv_cache.proofs.Crossing.{cache_send}
use Rattle.cv_cache.proofs.laws.caches_cross.Goals as goal

pub crosses-requires-send-T : goal.crosses-requires-send-T
crosses-requires-send-T c κs = search (sendable, cache_send) depth 8
