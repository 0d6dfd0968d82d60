use Rattle.std.proofs.Common.{[], ◌∷◌, drop, length, ap, ◌∙◌}
use Rattle.cv_core.specs.Cores.{standing}
use Rattle.cv_core.proofs.Stood.{drop_whole}
use Rattle.cv_core.proofs.solo.SoloStore.new.Goals as goal

pub returns : goal.returns
returns c =
    ap (λ n. standing (n ∷ []) (drop n c.args.core.log) c.none.result c.args.core) c.len-start.ensures.len
    ∙ ap (λ h. standing (length c.args.core.log ∷ []) h c.none.result c.args.core) (drop_whole c.args.core.log)
    ∙ ap (λ t. standing (length c.args.core.log ∷ []) [] t c.args.core) c.none.ensures
