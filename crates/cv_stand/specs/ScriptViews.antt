-- The plain script that the program's own types stand for.
use Rattle.std.specs.Prelude.{ℕ, List, map}
use Rattle.cv_stand.specs.Events as plain
use Rattle.cv_stand.specs.Events.{sets_clock, calls, tells_log, nothing, says, refused}
use Rattle.cv_stand.specs.ScriptLine.{Words}
use Rattle.cv_stand.specs.declared.script.Event.{Event}
use Rattle.cv_stand.specs.declared.script.Event.TheVariants.{Clock, Call, Log}
use Rattle.cv_stand.specs.declared.script.Script.{Script}
use Rattle.cv_stand.specs.declared.script_reader.LineWords.{LineWords}
use Rattle.cv_stand.specs.declared.script_reader.Said.{Said}
use Rattle.cv_stand.specs.declared.script_reader.Said.TheVariants.{Nothing, Says, Refused}

abbrev pub event_view : Event → plain.Event
event_view (Clock now) = sets_clock now
event_view (Call session request udf args) = calls (record { session = session; request = request; udf = udf; args = args })
event_view Log = tells_log

-- events, each with the number of its line
abbrev pub events_view : List (ℕ × Event) → List (ℕ × plain.Event)
events_view es = map (λ e. (e.0, event_view e.1)) es

abbrev pub script_view : Script → plain.Script
script_view s = record { events = events_view s.events.items; bad = s.bad }

abbrev pub words_view : LineWords → Words
words_view w = record { session = w.session.now; request = w.request.now; udf = w.udf.now; json = w.json.now }

abbrev pub said_view : Said → plain.Said
said_view Nothing = nothing
said_view (Says e) = says (event_view e)
said_view Refused = refused
