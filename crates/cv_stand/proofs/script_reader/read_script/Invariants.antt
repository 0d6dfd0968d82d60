use Rattle.std.proofs.Common.{◌≡◌, ◌≤◌, ◌+◌, length}
use Rattle.cv_stand.specs.Events.{script_of}
use Rattle.cv_stand.specs.Lines.{lines_of}
use Rattle.cv_stand.proofs.ScriptEvents.{put_before}
use Rattle.cv_stand.proofs.script_reader.read_script.Given as goal

abbrev pub invariant-loop-line : goal.invariant-loop-line
invariant-loop-line l = record {
  whole : script_of l.first (lines_of l.bytes) ≡ put_before l.events.items (script_of l.number (lines_of l.rest));
  bound : l.number + length l.rest ≤ l.first + length l.bytes;
}

abbrev pub decreases-loop-line : goal.decreases-loop-line
decreases-loop-line l = length l.rest
