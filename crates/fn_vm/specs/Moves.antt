-- Where an instruction leads, as the machine tells it.
use Rattle.std.specs.Prelude.{◌≡◌, ◌<◌, ◌^◌, Option, Some, None, codes}
use Rattle.cv_keys.specs.Intervals.{in_bytes}
use Rattle.cv_keys.specs.KeyOrder.{EndInRange}
use Rattle.cv_keys.specs.Places.{PlaceInterval}
use Rattle.fn_code.specs.States.{State, Next, on, asks, puts, ends, fails}
use Rattle.fn_code.specs.Steps.{Terms, stuck, reads}
use Rattle.fn_tree.specs.Course as course
use Rattle.fn_tree.specs.declared.stop.Ask.{Ask}
use Rattle.fn_tree.specs.declared.stop.Ask.TheVariants.{Get, Scan}
use Rattle.fn_tree.specs.declared.stop.Left.{Left}
use Rattle.fn_vm.specs.Views.{outcome_view}
use Rattle.fn_vm.specs.declared.reads.Target.{Target}
use Rattle.fn_vm.specs.declared.reads.Target.TheVariants.{Missing, Bad, Found}
use Rattle.fn_vm.specs.declared.stop.Stop.{Stop}
use Rattle.fn_vm.specs.declared.stop.Stop.TheVariants as stop

-- a read in bytes stands for one in places; the ends are some that the key order law speaks of, and what is left of the size can be counted
abbrev pub Stands : Ask → course.Ask → Type 0
Stands (Get id left) q = q ≡ course.get_doc id left
Stands (Scan interval desc limit left) q =
    (i : PlaceInterval) × (q ≡ course.scan_rows i desc limit left) × (interval ≡ in_bytes i) × EndInRange i.lo × EndInRange i.hi × (left.size < 2 ^ 32)

-- the run goes on, asks, puts or ends
abbrev pub Moves : Next → Option Stop → State → Type 0
Moves x None s = x ≡ on s
Moves x (Some (stop.Ask a)) s = (q : course.Ask) × (x ≡ asks q s) × Stands a q
Moves x (Some (stop.Put p)) s = x ≡ puts p s
Moves x (Some (stop.Done o)) s = x ≡ ends (outcome_view o)

-- a read that may be made leaves so much, else the run ends
abbrev pub asked : Option Left → (Left → course.Ask) → State → Next
asked None question after = fails after.counts (codes "RangeLimit")
asked (Some left) question after = asks (question left) after

-- the read of an id that was looked for
abbrev pub reads_target : Terms → State → Target → Next
reads_target t s Missing = stuck s
reads_target t s Bad = fails s.counts (codes "BadId")
reads_target t s (Found id) = reads t s (course.get_doc id)
