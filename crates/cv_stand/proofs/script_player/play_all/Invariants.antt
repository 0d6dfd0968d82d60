use Rattle.std.proofs.Common.{◌≡◌, drop}
use Rattle.cv_stand.specs.ScriptViews.{events_view}
use Rattle.cv_stand.specs.Stands.{module_of}
use Rattle.cv_stand.proofs.Texts.{Playing}
use Rattle.cv_stand.proofs.script_player.play_all.Given as goal

abbrev pub invariant-loop-numbered : goal.invariant-loop-numbered
invariant-loop-numbered g l = record {
  playing : Playing (module_of l.fn.stand) l.fn.stand.stage (events_view l.events) (g.K.Sink.held l.fn.out) (g.K.Sink.held l.out)
      (g.K.Sink.faults l.fn.out) (g.K.Sink.faults l.out) l.stand.stage (drop l.numbered-index (events_view l.events));
  program : module_of l.stand ≡ module_of l.fn.stand;
}
