-- Calls of a store, one after another.
use Rattle.std.proofs.Common.{◌≡◌, ◌∙◌, ℕ, ◌+◌, ◌≤◌, [], ◌++◌, append_assoc, append-nil, length, Result, Ok, Err, inl, inr, refl, sym, ap, subst, arith}
use Rattle.std.proofs.lemmas.List.{length-append}
use Rattle.cv_run.proofs.SnapshotLaws.{snapshots_stay}
use Rattle.std.specs.Prelude.{OnErr}
use Rattle.std.specs.Result.{IsErr}
use Rattle.cv_store.specs.Stores.{Standing, GoesOn, Extends, Reads}
use Rattle.cv_store.specs.Turns.{AtMostOneTurn, OneTurn, OnlyAnswers, after_read, after_look, after_keep}
use Rattle.cv_store.specs.declared.turns.Turns.{Turns}
use Rattle.fn_tree.specs.History.{History, docs_at}

pub goes_on_then : (h k l : History) → GoesOn h k → GoesOn k l → GoesOn h l
goes_on_then h k l (more, e) (rest, f) = (more ++ rest, f ∙ ap (λ (x : History). x ++ rest) e ∙ append_assoc h more rest)

pub longer : (h k : History) (ts : ℕ) → GoesOn h k → ts ≤ length h → ts ≤ length k
longer h k ts (more, e) le =
    let all : length k ≡ length (h ++ more) = ap length e in
    let parts : length (h ++ more) ≡ length h + length more = length-append h more in
    omega (arith, le, all, parts)

-- the documents of a timestamp stay as they are
pub docs_stay : (h k : History) (ts : ℕ) → GoesOn h k → ts ≤ length h → docs_at k ts ≡ docs_at h ts
docs_stay h k ts (more, e) le = ap (λ (x : History). docs_at x ts) e ∙ snapshots_stay h more ts le

-- a call that appends nothing, and then one more
pub extends_then : (s t u : Standing) (own : History) → Extends s t [] → Extends t u own → Extends s u own
extends_then s t u own a b = record {
  program = b.program ∙ a.program;
  name = b.name ∙ a.name;
  seen = goes_on_then s.seen t.seen u.seen a.seen b.seen;
  legal = b.legal;
  in_range = b.in_range;
  mine = b.mine ∙ ap (λ (x : History). x ++ own) (a.mine ∙ append-nil s.mine);
  stands = b.stands;
}

pub reads_then : (s t u : Standing) → Reads s t → Reads t u → Reads s u
reads_then s t u a b = record { extends = extends_then s t u [] a.extends b.extends; cache = b.cache ∙ a.cache }

-- ---- counts of steps

-- a call of one step that was made, whatever came of it then
pub one_made : {A E : Type 0} (r : Result A E) (after : Turns → Turns) (s t : Turns) → t ≡ after s → OneTurn after s t r
one_made (Ok x) after s t e = e
one_made (Err x) after s t e = inl e

-- one for which there was no memory
pub one_failed : {A E : Type 0} (r : Result A E) (after : Turns → Turns) (s t : Turns) → IsErr r → AtMostOneTurn after s t → OneTurn after s t r
one_failed (Ok x) after s t e p = cc
one_failed (Err x) after s t e p = p

pub only_none : (s : Turns) → OnlyAnswers s s
only_none s = record { begins = refl; commits = refl; tails = refl }

pub only_then : (s t u : Turns) → OnlyAnswers s t → OnlyAnswers t u → OnlyAnswers s u
only_then s t u a b = record { begins = b.begins ∙ a.begins; commits = b.commits ∙ a.commits; tails = b.tails ∙ a.tails }

at_most : (after : Turns → Turns) (s t : Turns) → OnlyAnswers s (after s) → AtMostOneTurn after s t → OnlyAnswers s t
at_most after s t only (inl e) = subst (λ (x : Turns). OnlyAnswers s x) (sym e) only
at_most after s t only (inr e) = subst (λ (x : Turns). OnlyAnswers s x) (sym e) (only_none s)

one_turn : {A E : Type 0} (r : Result A E) (after : Turns → Turns) (s t : Turns) → OnlyAnswers s (after s) → OneTurn after s t r → OnlyAnswers s t
one_turn (Ok x) after s t only e = at_most after s t only (inl e)
one_turn (Err x) after s t only p = at_most after s t only p

pub reads_only : {A E : Type 0} (r : Result A E) (s t : Turns) → OneTurn after_read s t r → OnlyAnswers s t
reads_only r s t p = one_turn r after_read s t (record { begins = refl; commits = refl; tails = refl }) p

pub looks_only : {A E : Type 0} (r : Result A E) (s t : Turns) → OneTurn after_look s t r → OnlyAnswers s t
looks_only r s t p = one_turn r after_look s t (record { begins = refl; commits = refl; tails = refl }) p

pub keeps_only : {A E : Type 0} (r : Result A E) (s t : Turns) → OneTurn after_keep s t r → OnlyAnswers s t
keeps_only r s t p = one_turn r after_keep s t (record { begins = refl; commits = refl; tails = refl }) p

pub err_known : {T E P : Type 0} (r : Result T E) → P → OnErr r P
err_known (Ok x) p = tt
err_known (Err e) p = p
