use Rattle.std.proofs.Common.{false, [], ◌∷◌, ap, sym, subst, length, arith, length-append}
use Rattle.cv_cache.proofs.Hits.{down_more}
use Rattle.cv_cache.specs.Flags.{AreDown}
use Rattle.cv_cache.proofs.flags.Flags.reserve.Goals as goal

pub loop-self-preserved : goal.loop-self-preserved
loop-self-preserved c =
    let items = c.in_ok-push.ensures.items in
    let before = c.loop-self.self.up.items in
    record {
      longer = omega (arith, c.loop-self.invariant.longer, ap length items, length-append before (false ∷ []));
      down = λ d. subst AreDown (sym items) (down_more before (c.loop-self.invariant.down d));
      any = c.loop-self.invariant.any;
    }
