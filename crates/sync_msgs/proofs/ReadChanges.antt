-- The modifications that were read so far, before what is left.
use Rattle.std.proofs.Common.{◌≡◌, ℕ, ◌+◌, ◌<◌, length, get_or, drop, List, [], ◌∷◌, ◌++◌, refl, sym, ap, ◌∙◌, append_assoc, Result, Ok, Err}
use Rattle.cv_json.proofs.Built.{drop_next}
use Rattle.serde_json.specs.View.{view, items_view}
use Rattle.serde_json.specs.declared.value.Value.{Value as Tree}
use Rattle.sync_msgs.specs.ClientTexts.{and_then, change_of, changes_of}
use Rattle.sync_msgs.specs.Messages.{Change}
use Rattle.sync_msgs.specs.declared.cause.Cause.{Cause}

-- what is read behind some changes
abbrev pub behind : List Change → Result (List Change) Cause → Result (List Change) Cause
behind cs (Ok ds) = Ok (cs ++ ds)
behind cs (Err why) = Err why

more : (cs : List Change) (c : Change) (r : Result (List Change) Cause) → behind cs (and_then r (λ ds. Ok (c ∷ ds))) ≡ behind (cs ++ c ∷ []) r
more cs c (Ok ds) = ap Ok (sym (append_assoc cs (c ∷ []) ds))
more cs c (Err why) = refl

-- the next change, and those after it
after_next : (xs : List Tree) (i : ℕ) (x : Tree) (cs : List Change) (r : Result Change Cause) → i < length xs → x ≡ get_or xs i x → change_of (view x) ≡ r
    → behind cs (changes_of (items_view (drop i xs))) ≡ behind cs (and_then r (λ c. and_then (changes_of (items_view (drop (i + 1) xs))) (λ ds. Ok (c ∷ ds))))
after_next xs i x cs r h at e =
    ap (λ (ys : List Tree). behind cs (changes_of (items_view ys))) (drop_next xs i x h at)
    ∙ ap (λ s. behind cs (and_then s (λ c. and_then (changes_of (items_view (drop (i + 1) xs))) (λ ds. Ok (c ∷ ds))))) e

-- one more change is read
pub change_step : (xs : List Tree) (i : ℕ) (x : Tree) (c : Change) (cs : List Change) → i < length xs → x ≡ get_or xs i x → change_of (view x) ≡ Ok c
    → behind cs (changes_of (items_view (drop i xs))) ≡ behind (cs ++ c ∷ []) (changes_of (items_view (drop (i + 1) xs)))
change_step xs i x c cs h at e = after_next xs i x cs (Ok c) h at e ∙ more cs c _

-- the next change has a fault
pub change_fault : (xs : List Tree) (i : ℕ) (x : Tree) (why : Cause) (cs : List Change) → i < length xs → x ≡ get_or xs i x → change_of (view x) ≡ Err why
    → behind cs (changes_of (items_view (drop i xs))) ≡ Err why
change_fault xs i x why cs h at e = after_next xs i x cs (Err why) h at e
