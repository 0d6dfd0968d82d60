use Rattle.std.proofs.Common.{refl, sym, subst}
use Rattle.cv_core.specs.Cores.{IsPrepared}
use Rattle.cv_core.proofs.the_core.Core.finish.Goals as goal

pub end-requires-clause-new : goal.end-requires-clause-new
end-requires-clause-new c = (subst (IsPrepared c.args.self.now c.args.p) (sym c.in-Fresh.ensures) c.requires.ready).0

pub end-requires-clause-room : goal.end-requires-clause-room
end-requires-clause-room c = (subst (IsPrepared c.args.self.now c.args.p) (sym c.in-Fresh.ensures) c.requires.ready).1

pub returns-in-Known : goal.returns-in-Known
returns-in-Known c = record {
  program = refl;
  ok = (refl, subst (IsPrepared c.args.self.now c.args.p) (sym c.in-Known.ensures) c.requires.ready);
}
