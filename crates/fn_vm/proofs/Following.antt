-- A machine that follows a course goes on with it: the course is told by the machine's next stop.
use Rattle.std.proofs.Common.{◌≡◌, ◌<◌, ℕ, zero, suc, List, sym, ap, subst, arith}
use Rattle.cv_values.specs.declared.doc.Doc.{Doc}
use Rattle.fn_code.specs.CodeMeans.{Follows}
use Rattle.fn_code.specs.States.{State, Next, on, asks, puts, ends}
use Rattle.fn_code.specs.Steps.{Terms, step, answered}
use Rattle.fn_code.specs.declared.code.Code.{Code}
use Rattle.fn_vm.specs.Machines.{AsksNext, PutsNext}
use Rattle.fn_tree.specs.Course.{Ask, Course, Outcome, done, ask, put}
use Rattle.fn_tree.specs.declared.stop.Put.{Put}

abbrev form : Next → ℕ
form (on s) = 0
form (asks q s) = 1
form (puts p s) = 2
form (ends o) = 3

abbrev state_in : State → Next → State
state_in s (on r) = r
state_in s (asks q r) = r
state_in s (puts p r) = r
state_in s (ends o) = s

abbrev ask_in : Ask → Next → Ask
ask_in q (asks r s) = r
ask_in q x = q

abbrev put_in : Put → Next → Put
put_in p (puts r s) = r
put_in p x = p

abbrev outcome_in : Outcome → Next → Outcome
outcome_in o (ends r) = r
outcome_in o x = o

unlike : (x y : Next) → x ≡ y → form x < form y → ⊥
unlike x y e h = let n : form x ≡ form y = ap form e in omega (arith, n, h)

-- one instruction on, the machine follows the same course
pub follows_step : (t : Terms) (code : Code) (k : Course) (s : State) → Follows t code k (on s) → Follows t code k (step t code s)
follows_step t code (done o) s (zero, e) = absurd (unlike (on s) (ends o) e (omega arith))
follows_step t code (done o) s (suc n, e) = (n, e)
follows_step t code (ask q next) s (zero, r, e, f) = absurd (unlike (on s) (asks q r) e (omega arith))
follows_step t code (ask q next) s (suc n, r, e, f) = (n, r, e, f)
follows_step t code (put p next) s (zero, r, e, f) = absurd (unlike (on s) (puts p r) e (omega arith))
follows_step t code (put p next) s (suc n, r, e, f) = (n, r, e, f)

-- where the run ends, so does the course
pub follows_ends : (t : Terms) (code : Code) (k : Course) (o : Outcome) → Follows t code k (ends o) → k ≡ done o
follows_ends t code (done r) o (zero, e) = ap (λ x. done (outcome_in o x)) (sym e)
follows_ends t code (done r) o (suc n, e) = ap (λ x. done (outcome_in o x)) (sym e)
follows_ends t code (ask q next) o (zero, r, e, f) = absurd (unlike (asks q r) (ends o) (sym e) (omega arith))
follows_ends t code (ask q next) o (suc n, r, e, f) = absurd (unlike (asks q r) (ends o) (sym e) (omega arith))
follows_ends t code (put p next) o (zero, r, e, f) = absurd (unlike (puts p r) (ends o) (sym e) (omega arith))
follows_ends t code (put p next) o (suc n, r, e, f) = absurd (unlike (puts p r) (ends o) (sym e) (omega arith))

-- where the run asks, the course asks the same, and the machine waits for the rows
asks_same : (t : Terms) (code : Code) (q r : Ask) (s u : State) (next : List Doc → Course) → asks q s ≡ asks r u → ((ds : List Doc) → Follows t code (next ds) (answered t code u ds)) → AsksNext t code (ask r next) q s
asks_same t code q r s u next e f =
    (next, ap (λ x. ask (ask_in q x) next) (sym e), λ ds. subst (λ v. Follows t code (next ds) (answered t code v ds)) (ap (state_in s) (sym e)) (f ds))

pub follows_asks : (t : Terms) (code : Code) (k : Course) (q : Ask) (s : State) → Follows t code k (asks q s) → AsksNext t code k q s
follows_asks t code (done o) q s (zero, e) = absurd (unlike (asks q s) (ends o) e (omega arith))
follows_asks t code (done o) q s (suc n, e) = absurd (unlike (asks q s) (ends o) e (omega arith))
follows_asks t code (ask r next) q s (zero, u, e, f) = asks_same t code q r s u next e f
follows_asks t code (ask r next) q s (suc n, u, e, f) = asks_same t code q r s u next e f
follows_asks t code (put p next) q s (zero, u, e, f) = absurd (unlike (asks q s) (puts p u) e (omega arith))
follows_asks t code (put p next) q s (suc n, u, e, f) = absurd (unlike (asks q s) (puts p u) e (omega arith))

-- where the run puts, the course puts the same and goes on
puts_same : (t : Terms) (code : Code) (p r : Put) (s u : State) (next : Course) → puts p s ≡ puts r u → Follows t code next (on u) → PutsNext t code (put r next) p s
puts_same t code p r s u next e f =
    (next, ap (λ x. put (put_in p x) next) (sym e), subst (λ v. Follows t code next (on v)) (ap (state_in s) (sym e)) f)

pub follows_puts : (t : Terms) (code : Code) (k : Course) (p : Put) (s : State) → Follows t code k (puts p s) → PutsNext t code k p s
follows_puts t code (done o) p s (zero, e) = absurd (unlike (puts p s) (ends o) e (omega arith))
follows_puts t code (done o) p s (suc n, e) = absurd (unlike (puts p s) (ends o) e (omega arith))
follows_puts t code (ask q next) p s (zero, u, e, f) = absurd (unlike (asks q u) (puts p s) (sym e) (omega arith))
follows_puts t code (ask q next) p s (suc n, u, e, f) = absurd (unlike (asks q u) (puts p s) (sym e) (omega arith))
follows_puts t code (put r next) p s (zero, u, e, f) = puts_same t code p r s u next e f
follows_puts t code (put r next) p s (suc n, u, e, f) = puts_same t code p r s u next e f
