use Rattle.std.proofs.Common.{◌≡◌, ◌+◌, ◌<◌, false, true, length, refl, ap, sym, subst, ◌∙◌, arith}
use Rattle.std.proofs.Math.ListN.{length-set}
use Rattle.cv_cache.proofs.Swept.{AreLowered, nothing_touched, none_before_0, none_lowered, still_up, lowered, swept, spared, all_swept, all_lowered}
use Rattle.cv_cache.specs.Flags.{is_up}
use Rattle.cv_cache.proofs.entries.Entries.sweep.Goals as goal
use Rattle.cv_cache.proofs.entries.Entries.sweep.Goals.{then-lower, else-lower}

pub returns-then-not-self-clause-entries : goal.returns-then-not-self-clause-entries
returns-then-not-self-clause-entries c = nothing_touched (is_up c.args.self.now.owners.flags.up.items) c.args.self.now.recent (c.requires.none c.if-not-self.true)

pub loop-number-init : goal.loop-number-init
loop-number-init c =
    let e = c.args.self.now in
    record {
      entries = none_before_0 (is_up e.owners.flags.up.items) e.recent;
      tied = c.requires.tied;
      flags = none_lowered e.owners.flags.up.items;
      size = refl;
      slots = refl;
    }

pub loop-number-preserved : goal.loop-number-preserved
loop-number-preserved c =
    let before = c.args.self.now.owners.flags.up.items in
    let es = c.args.self.now.recent in
    let e = c.loop-number.self in
    let now = e.owners.flags.up.items in
    let k = c.loop-number.number in
    let kept = c.loop-number.invariant in
    let within : k < length now = omega arith in
    let was = sym (still_up before now k kept.flags) ∙ sym c.lower.ensures.was in
    let size = ap length c.lower.ensures.up ∙ length-set now k false ∙ kept.size in
    let down = lowered before now k within kept.flags in
    elim c.if-lower.branch [
      | then-lower w ↦ rw w.self-is (record {
        entries = swept (is_up before) k es e.recent w.forget.new.self.recent kept.entries (was ∙ w.if-lower.true) w.forget.ensures.entries;
        tied = w.forget.ensures.tied;
        flags = subst (λ xs. AreLowered before xs (k + 1)) (sym (ap (λ f. f.up.items) w.forget.ensures.flags ∙ c.lower.ensures.up)) down;
        size = ap (λ f. length f.up.items) w.forget.ensures.flags ∙ size;
        slots = w.forget.ensures.slots ∙ kept.slots;
      })
      | else-lower w ↦ rw w.self-is (record {
        entries = spared (is_up before) k es e.recent kept.entries (was ∙ w.if-lower.false);
        tied = kept.tied;
        flags = subst (λ xs. AreLowered before xs (k + 1)) (sym c.lower.ensures.up) down;
        size = size;
        slots = kept.slots;
      })
    ]
