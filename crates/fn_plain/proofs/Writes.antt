-- What one write operation does.
use Rattle.std.proofs.Common.{◌≡◌, ◌∙◌, ◌<◌, ◌≤◌, ℕ, ◌+◌, Bool, true, false, List, [], ◌∷◌, ◌++◌, refl, sym, ap, arith}
use Rattle.std.specs.Prelude.{nat_le, nat_lt, codes}
use Rattle.std.proofs.lemmas.Bool.Decides.{nat_tests}
use Rattle.cv_keys.specs.declared.interval.Interval.{Interval}
use Rattle.fn_tree.specs.Actions.{Limits, Counts, Site, fail}
use Rattle.fn_tree.specs.Course.{Course, put}
use Rattle.fn_tree.specs.Run.{played}
use Rattle.fn_tree.specs.Writing.{write}
use Rattle.fn_tree.specs.declared.stop.Put.{Put}
use Rattle.fn_plain.specs.States.{IsWithin, Gives, Fails, after_reads, end_of, counts_of, limits_of, site_at}
use Rattle.fn_plain.specs.Texts.{Says}
use Rattle.fn_plain.specs.declared.context.Context.{Context}
use Rattle.fn_plain.specs.declared.context.Counts.{Counts as HeldCounts}
use Rattle.fn_plain.specs.declared.context.Progress.{Progress}
use Rattle.fn_plain.specs.declared.fault.Fault.{Fault}
use Rattle.fn_plain.proofs.Sites.{site_limits}
use Rattle.fn_plain.proofs.Steps.{Reaches, fail_fails, reached_fails}

-- the counts after a write of a size
abbrev pub written_counts : HeldCounts → ℕ → HeldCounts
written_counts d m = record d { writes = d.writes + 1; written = d.written + m }

-- what comes where there is room for one more write, and for its size, or isn't
abbrev coming : Counts → Counts → Put → (Unit {0} → Counts → Course) → (room fits : Bool) → Course
coming c d p next room fits = elim room [
  | false ↦ fail {A = Unit {0}} (codes "WriteLimit") c next
  | true ↦ elim fits [ false ↦ fail {A = Unit {0}} (codes "WriteSizeLimit") c next | true ↦ put p (next tt d) ]
]

write_is : (c : Context) (d : HeldCounts) (n m : ℕ) (w : Put) (room fits : Bool) → nat_lt d.writes c.limits.writes ≡ room → nat_le (d.written + m) c.limits.written ≡ fits → (next : Unit {0} → Counts → Course) →
    write (site_at c n) m w (counts_of d) next ≡ coming (counts_of d) (counts_of (written_counts d m)) w next room fits
write_is c d n m w room fits e f next =
    ap (λ (l : Limits). coming (counts_of d) (counts_of (written_counts d m)) w next (nat_lt d.writes l.writes) (nat_le (d.written + m) l.written)) (site_limits c n)
    ∙ ap (λ x. coming (counts_of d) (counts_of (written_counts d m)) w next x (nat_le (d.written + m) c.limits.written)) e
    ∙ ap (λ x. coming (counts_of d) (counts_of (written_counts d m)) w next room x) f

pub write_gives : (c : Context) (old new : Progress) (n m : ℕ) (w : Put) → IsWithin 1 c old.counts → old.counts.writes < c.limits.writes → old.counts.written + m ≤ c.limits.written →
    new.puts.items ≡ old.puts.items ++ w ∷ [] → new.reads ≡ old.reads → new.counts ≡ written_counts old.counts m → Gives c old new (write (site_at c n) m w) tt
write_gives c old new n m w h room fits puts reads counts = record {
  within = rw counts (record { cost = h.cost; rows = h.rows; size = h.size; ranges = h.ranges; writes = omega arith; written = fits; inserts = omega (arith, h.inserts); cost_room = h.cost_room; rows_room = h.rows_room; size_room = h.size_room; ranges_room = h.ranges_room; writes_room = h.writes_room; written_room = h.written_room; schema = h.schema });
  by = λ next.
      ap (λ x. end_of c old x) (write_is c old.counts n m w true true (grind (arith, nat_tests)) (grind (arith, nat_tests)) next)
      ∙ sym (rw (puts, reads, counts) refl);
}

pub write_fails : (c : Context) (p : Progress) (n m : ℕ) (w : Put) (fault : Fault) → c.limits.writes ≤ p.counts.writes → Says fault (codes "WriteLimit") → Fails c p p (write (site_at c n) m w) fault
write_fails c p n m w fault full says =
    let r : Reaches c p p (write (site_at c n) m w) (fail (codes "WriteLimit")) = record { by = λ next. ap (λ x. end_of c p x) (write_is c p.counts n m w false _ (grind (arith, nat_tests)) refl next) } in
    reached_fails p fault r (fail_fails _ c p fault (codes "WriteLimit") says)

pub size_fails : (c : Context) (p : Progress) (n m : ℕ) (w : Put) (fault : Fault) → p.counts.writes < c.limits.writes → c.limits.written < p.counts.written + m → Says fault (codes "WriteSizeLimit") → Fails c p p (write (site_at c n) m w) fault
size_fails c p n m w fault room full says =
    let r : Reaches c p p (write (site_at c n) m w) (fail (codes "WriteSizeLimit")) = record { by = λ next. ap (λ x. end_of c p x) (write_is c p.counts n m w true false (grind (arith, nat_tests)) (grind (arith, nat_tests)) next) } in
    reached_fails p fault r (fail_fails _ c p fault (codes "WriteSizeLimit") says)
