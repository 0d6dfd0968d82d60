use Rattle.std.proofs.Common.{◌≡◌, ◌+◌, ℕ, Bool, true, false, ap, ◌∙◌, arith}
use Rattle.std.specs.Prelude.{nat_le, codes}
use Rattle.std.proofs.lemmas.Bool.Decides.{nat_tests}
use Rattle.fn_tree.specs.Actions.{Counts, Limits, fail, spend}
use Rattle.fn_tree.specs.Course.{Course}
use Rattle.fn_plain.specs.States.{Fails, end_of, counts_of, site_at}
use Rattle.fn_plain.specs.declared.context.Context.{Context}
use Rattle.fn_plain.specs.declared.context.Progress.{Progress}
use Rattle.fn_plain.specs.declared.fault.Fault.{Fault}
use Rattle.fn_plain.specs.Texts.{Says}
use Rattle.fn_plain.proofs.Steps.{Reaches, fail_fails, reached_fails}
use Rattle.fn_plain.proofs.Sites.{site_limits}
use Rattle.fn_plain.proofs.context.spend.Goals as goal

-- one unit more
abbrev spent : Progress → Progress
spent p = record p { counts = record (p.counts) { cost = p.counts.cost + 1 } }

-- what comes where a unit is left or isn't
abbrev coming : Counts → (Unit {0} → Counts → Course) → Bool → Course
coming d next b = elim b [ true ↦ next tt d | false ↦ fail {A = Unit {0}} (codes "CostLimit") d next ]

left_is : (c : Context) (p : Progress) (n : ℕ) (b : Bool) → nat_le (p.counts.cost + 1) c.limits.cost ≡ b → (next : Unit {0} → Counts → Course) →
    end_of c p (spend (site_at c n) (counts_of p.counts) next) ≡ end_of c (spent p) (coming (counts_of (spent p).counts) next b)
left_is c p n b h next = ap (λ x. end_of c p (coming (counts_of (spent p).counts) next x)) (ap (λ (l : Limits). nat_le (p.counts.cost + 1) l.cost) (site_limits c n) ∙ h)

pub returns-then-left-clause-ok : goal.returns-then-left-clause-ok
returns-then-left-clause-ok c n =
    let h : nat_le (c.args.progress.now.counts.cost + 1) c.args.context.now.limits.cost ≡ true = grind (arith, nat_tests) in
    let w = c.requires.within in
    record {
      within = record { cost = omega arith; rows = w.rows; size = w.size; ranges = w.ranges; writes = w.writes; written = w.written; inserts = w.inserts; cost_room = w.cost_room; rows_room = w.rows_room; size_room = w.size_room; ranges_room = w.ranges_room; writes_room = w.writes_room; written_room = w.written_room; schema = w.schema };
      by = λ next. left_is c.args.context.now c.args.progress.now n true h next;
    }

fails : (c : Context) (p : Progress) (n : ℕ) (fault : Fault) → nat_le (p.counts.cost + 1) c.limits.cost ≡ false → Says fault (codes "CostLimit") → Fails c p (spent p) (spend (site_at c n)) fault
fails c p n fault h s =
    let r : Reaches c p (spent p) (spend (site_at c n)) (fail (codes "CostLimit")) = record { by = left_is c p n false h } in
    reached_fails (spent p) fault r (fail_fails _ c (spent p) fault (codes "CostLimit") s)

pub returns-else-left-clause-err : goal.returns-else-left-clause-err
returns-else-left-clause-err c n = fails c.args.context.now c.args.progress.now n _ (grind (arith, nat_tests)) c.failure.ensures
