-- What holds of a connection stays when more is seen.
use Rattle.std.proofs.Common.{ℕ, ◌≤◌, ◌++◌, length, Option, Some, None, arith}
use Rattle.std.proofs.lemmas.List.{length-append}
use Rattle.fn_tree.specs.Course.{Reply}
use Rattle.fn_tree.specs.History.{History}
use Rattle.cv_store.proofs.KeptLaws.{kept_stays}
use Rattle.sync_session.specs.Conns.{Conn, Request, Try, Work, rests, mutates, answers, goes_to}
use Rattle.sync_session.specs.Sound.{HasEntry, IsTryOf, IsWorkOf, SoundStays}

pub longer : (h more : History) (n : ℕ) → n ≤ length h → n ≤ length (h ++ more)
longer h more n le = let sum = length-append h more in omega (arith, le, sum)

pub entry_stays : (h more : History) (session : Option ℕ) (request ts : ℕ) (reply : Reply) → HasEntry h session request ts reply → HasEntry (h ++ more) session request ts reply
entry_stays h more None request ts reply e = absurd e
entry_stays h more (Some session) request ts reply e = kept_stays session request h more (ts, reply) e

try_stays : (h more : History) (r : Request) (t : Option Try) → IsTryOf h r t → IsTryOf (h ++ more) r t
try_stays h more r None is = tt
try_stays h more r (Some t) is = (is.0, longer h more t.snapshot is.1)

pub work_stays : (h more : History) (c : Conn) (w : Work) → IsWorkOf h c w → IsWorkOf (h ++ more) c w
work_stays h more c rests is = tt
work_stays h more c (mutates r t) is = (is.0, try_stays h more r t is.1)
work_stays h more c (answers r ts reply) is = entry_stays h more c.session r.request ts reply is
work_stays h more c (goes_to ts) is = is

pub sound_stays : SoundStays
sound_stays h more c is = record {
  within = longer h more c.position is.within;
  shown = is.shown;
  answered = is.answered;
  settled = is.settled;
  work = work_stays h more c c.work is.work;
}
