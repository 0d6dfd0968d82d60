use Rattle.std.proofs.Common.{◌≤◌, ◌∷◌, [], take, sym, ◌∙◌, subst, arith}
use Rattle.std.specs.List.{AllByRecursion}
use Rattle.cv_core.specs.Versioned.{spare_at}
use Rattle.cv_core.proofs.Drops.{all_append, to_place}
use Rattle.cv_core.proofs.Inserting.{all_stay}
use Rattle.cv_core.proofs.rows.reserve_each.Goals as goal

pub loop-change-preserved : goal.loop-change-preserved
loop-change-preserved c =
    let cs = c.args.changes.now in let at = c.loop-change.change-index in let x = c.change-item.result in
    let new = c.reserve_one.new.tables.items in let each = c.args.each in
    record {
      shapes = c.reserve_one.ensures.shape ∙ c.loop-change.invariant.shapes;
      rows = λ t i. c.reserve_one.ensures.rows t i ∙ c.loop-change.invariant.rows t i;
      spare = λ t i. (let before = c.loop-change.invariant.spare t i in let step = c.reserve_one.ensures.spare t i in omega (arith, before, step));
      room = subst (AllByRecursion (λ y. each ≤ spare_at y.table y.index new)) (sym (to_place cs at x (omega (arith, c.loop-change-test.true)) c.change-item.is))
          (all_append (λ y. each ≤ spare_at y.table y.index new) (take at cs) (x ∷ [])
          (all_stay each c.loop-change.tables.items new c.reserve_one.ensures.spare (take at cs) c.loop-change.invariant.room)
          (c.in_ok-reserve_one.ensures.room, tt));
    }
