-- A run that stopped, and the machine that stands there.
use Rattle.std.proofs.Common.{◌≡◌, Some, subst, sym}
use Rattle.fn_code.specs.CodeMeans.{Follows}
use Rattle.fn_code.specs.States.{State, Next}
use Rattle.fn_code.specs.Steps.{Terms}
use Rattle.fn_code.specs.declared.code.Code.{Code}
use Rattle.fn_tree.specs.Course.{Course}
use Rattle.fn_vm.specs.Machines.{Reaches, Stops, Begins, Goes, next_in, phase_behind}
use Rattle.fn_vm.specs.Moves.{Moves}
use Rattle.fn_vm.specs.Views.{state_view, terms_view, outcome_view}
use Rattle.fn_vm.specs.declared.machine.Machine.{Machine}
use Rattle.fn_vm.specs.declared.machine.Phase.{Phase}
use Rattle.fn_vm.specs.declared.stop.Stop.{Stop}
use Rattle.fn_vm.specs.declared.stop.Stop.TheVariants as stop
use Rattle.fn_vm.proofs.Following.{follows_asks, follows_puts, follows_ends}

-- a stop is where the course comes to
pub reaches : (t : Terms) (code : Code) (k : Course) (x : Next) (at : Stop) (s : State) → Follows t code k x → Moves x (Some at) s → Reaches t code k at s
reaches t code k x (stop.Ask a) s f (q, e, stands) = (q, stands, follows_asks t code k q s (subst (λ y. Follows t code k y) e f))
reaches t code k x (stop.Put p) s f e = follows_puts t code k p s (subst (λ y. Follows t code k y) e f)
reaches t code k x (stop.Done o) s f e = follows_ends t code k (outcome_view o) (subst (λ y. Follows t code k y) e f)

pub stops_there : (code : Code) (m : Machine) (k : Course) (at : Stop) → m.phase ≡ phase_behind at → Reaches (terms_view m.terms) code k at (state_view m.run) → Stops code m k at
stops_there code m k (stop.Ask a) e (q, stands, (next, same, follows)) = (q, next, same, stands, record { asked = e; follows = follows })
stops_there code m k (stop.Put p) e (next, same, follows) = (next, same, record { putting = e; follows = follows })
stops_there code m k (stop.Done o) e same = same

-- a machine that begins so goes by each course that is followed from there
pub begins_goes : (code : Code) (k : Course) (t : Terms) (m : Machine) (x : Next) → Begins t m x → Follows t code k x → Goes code m k
begins_goes code k t m x b f = record {
  ready = b.ready;
  follows = subst (λ u. Follows u code k (next_in (terms_view m.terms) code (state_view m.run) m.phase)) (sym b.terms) (subst (λ y. Follows t code k y) (sym (b.begins code)) f);
}

-- what a machine that stands so follows
pub follows_at : (code : Code) (k : Course) (m : Machine) (p : Phase) → m.phase ≡ p → Goes code m k → Follows (terms_view m.terms) code k (next_in (terms_view m.terms) code (state_view m.run) p)
follows_at code k m p e g = subst (λ q. Follows (terms_view m.terms) code k (next_in (terms_view m.terms) code (state_view m.run) q)) e g.follows
