-- The definitions on a script of a few lines: what its lines say, the history that it makes, and what it writes.
use Rattle.std.specs.Prelude.{◌≡◌, ℕ, ℤ, pos, negsuc, List, [], ◌∷◌, Some, None, codes}
use Rattle.cv_values.specs.Value.{string}
use Rattle.fn_tree.specs.Course.{gives, failed}
use Rattle.fn_tree.specs.ExampleModules.{function, example, x}
use Rattle.fn_tree.specs.History.{History}
use Rattle.fn_tree.specs.SyntaxTree.{give_back, ModuleTree}
use Rattle.fn_tree.specs.declared.syntax.Kind.TheVariants.{Query, Mutation}
use Rattle.cv_stand.specs.Events.{Event, sets_clock, calls, tells_log, Request, nothing, says, refused, said, moment_of}
use Rattle.cv_stand.specs.Plays.{opening, play, found}
use Rattle.cv_stand.specs.Texts.{script_text}

-- moments are numbers of 64 bits with a sign, each in one spelling
abbrev pub AreWorkedMoments : Type 0
AreWorkedMoments =
    (moment_of (codes "0") ≡ Some (pos 0))
    × (moment_of (codes "17") ≡ Some (pos 17))
    × (moment_of (codes "-1") ≡ Some (negsuc 0))
    × (moment_of (codes "-0") ≡ None)
    × (moment_of (codes "017") ≡ None)
    × (moment_of (codes "+1") ≡ None)
    × (moment_of (codes "-") ≡ None)
    × (moment_of [] ≡ None)
    × (moment_of (codes "9223372036854775807") ≡ Some (pos 9223372036854775807))
    × (moment_of (codes "9223372036854775808") ≡ None)
    × (moment_of (codes "-9223372036854775808") ≡ Some (negsuc 9223372036854775807))
    × (moment_of (codes "-9223372036854775809") ≡ None)

abbrev pub AreWorkedLines : Type 0
AreWorkedLines =
    (said [] ≡ nothing)
    × (said (codes " ") ≡ refused)
    × (said (codes "log") ≡ says tells_log)
    × (said (codes "log ") ≡ refused)
    × (said (codes "clock 5") ≡ says (sets_clock (pos 5)))
    × (said (codes "clock  5") ≡ refused)
    × (said (codes "clock 5 ") ≡ refused)
    × (said (codes "clock") ≡ refused)
    × (said (codes "open 0") ≡ refused)

-- mutation keep(x) { return x; } and query ask(x) { return x; }
abbrev program : ModuleTree
program = example (function Mutation (codes "keep") (codes "x" ∷ []) (give_back x ∷ []) ∷ function Query (codes "ask") (codes "x" ∷ []) (give_back x ∷ []) ∷ [])

abbrev request : (number : ℕ) → (udf text : List ℕ) → Request
request number udf text = record { session = 1; request = number; udf = udf; args = (codes "x", string text) ∷ [] }

-- the clock, a call, the same request again with another text, the clock, a query as a mutation
abbrev events : List (ℕ × Event)
events =
    (2, calls (request 1 (codes "keep") (codes "a")))
    ∷ (3, sets_clock (pos 5))
    ∷ (4, calls (request 1 (codes "keep") (codes "b")))
    ∷ (5, calls (request 2 (codes "keep") (codes "c")))
    ∷ (6, calls (request 3 (codes "ask") (codes "d"))) ∷ []

-- each entry's request with its moment
abbrev moments : History → List (ℕ × ℤ)
moments [] = []
moments (e ∷ h) = (e.call.request, e.call.now) ∷ moments h

abbrev pub IsWorkedPlay : Type 0
IsWorkedPlay =
    ((play program opening events).last.clock ≡ pos 5)
    × (moments (play program opening events).last.history ≡ (1, pos 0) ∷ (2, pos 5) ∷ (3, pos 5) ∷ [])
    × (found (play program opening events).last.history (1, 1) ≡ Some (1, gives (string (codes "a"))))
    × (found (play program opening events).last.history (1, 3) ≡ Some (3, failed (codes "UnknownFunction")))
    × ((play program opening events).lines ≡
    codes "reply 1 ok \"a\"" ∷ codes "reply 1 ok \"a\"" ∷ codes "reply 2 ok \"c\"" ∷ codes "reply 3 error \"UnknownFunction\"" ∷ [])
    × (script_text program (record { events = (3, sets_clock (pos 1)) ∷ []; bad = None }) ≡ codes "ts 0\n")
    × (script_text program (record { events = (3, calls (request 1 (codes "keep") (codes "a"))) ∷ []; bad = Some 4 }) ≡ codes "reply 1 ok \"a\"\n")
