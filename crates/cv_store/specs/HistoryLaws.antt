-- The first touch and the kept replies of a history that goes on.
use Rattle.std.specs.Prelude.{◌≡◌, ℕ, ◌+◌, ◌≤◌, cond, List, [], ◌∷◌, ◌++◌, length, Option, Some, None}
use Rattle.std.specs.Option.{option_or}
use Rattle.cv_keys.specs.declared.schema.Schema.{Schema}
use Rattle.fn_tree.specs.Course.{Reply}
use Rattle.fn_tree.specs.History.{Entry, History, HasNoPair}
use Rattle.cv_store.specs.FirstTouch.{Test, entry_touch}
use Rattle.cv_store.specs.Kept.{is_of, kept}
use Rattle.cv_store.specs.declared.conflict.Conflict.{Conflict}

abbrev pub Touch : Type 0 → Type 0
Touch R = Schema → List R → History → (s : ℕ) → Option Conflict

-- nothing is touched after the end; one entry more is looked at last; and the touch of a front is that of the whole
pub record TouchesGoOn {R : Type 0} (test : Test R) (touch : Touch R) : Type 0 where
  pub end : (schema : Schema) (reads : List R) (h : History) → touch schema reads h (length h) ≡ None
  pub entry : (schema : Schema) (reads : List R) (h : History) (e : Entry) (s : ℕ) → s ≤ length h
      → touch schema reads (h ++ e ∷ []) s ≡ option_or (touch schema reads h s) (entry_touch schema test reads (length h + 1) e)
  pub front : (schema : Schema) (reads : List R) (h more : History) (s : ℕ) (c : Conflict) → touch schema reads h s ≡ Some c → touch schema reads (h ++ more) s ≡ Some c
  pub none : (schema : Schema) (reads : List R) (h more : History) (s : ℕ) → touch schema reads (h ++ more) s ≡ None → touch schema reads h s ≡ None

-- the kept reply of a front is that of the whole
abbrev pub KeptStays : Type 0
KeptStays = (session request : ℕ) (h more : History) (k : ℕ × Reply) → kept session request h ≡ Some k → kept session request (h ++ more) ≡ Some k

-- one entry more is looked at last
abbrev pub KeptWithEntry : Type 0
KeptWithEntry = (session request : ℕ) (h : History) (e : Entry)
    → kept session request (h ++ e ∷ []) ≡ option_or (kept session request h) (cond (is_of session request e) (Some (length h + 1, e.reply)) None)

-- where no reply is kept, no entry has the pair
abbrev pub NotKeptIsNew : Type 0
NotKeptIsNew = (session request : ℕ) (h : History) → kept session request h ≡ None → HasNoPair (session, request) h
