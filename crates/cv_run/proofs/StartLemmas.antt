-- How a run starts.
use Rattle.std.proofs.Common.{◌≡◌, ◌∙◌, ℕ, ◌+◌, ◌-◌, ◌^◌, ◌<◌, min, Bool, true, false, [], length, refl, sym, subst, arith, ltb-true, ltb-false, le_of_eq}
use Rattle.std.proofs.Math.Nat.{min-eq_left, min-eq_right}
use Rattle.std.specs.Prelude.{nat_lt, if◌then◌else◌, Result, Ok, Err, OnOk}
use Rattle.cv_run.proofs.RestLemmas.{whole_rest}
use Rattle.cv_run.proofs.SnapshotLaws.{ids_are_distinct}
use Rattle.cv_run.specs.Paused.{IsPaused}
use Rattle.cv_run.specs.Pauses.{Runs, Pauses}
use Rattle.cv_run.specs.declared.pause.Pause.{Pause}
use Rattle.cv_store.specs.Turns.{one_more}
use Rattle.cv_tx.specs.Pending.{Under}
use Rattle.fn_code.specs.Coding.{code_of}
use Rattle.fn_code.specs.declared.code.Code.{Code}
use Rattle.fn_tree.specs.Documents.{Docs}
use Rattle.fn_tree.specs.Functions.{Start, course_of}
use Rattle.fn_tree.specs.History.{History, IsLegal, start_of, docs_at}
use Rattle.fn_tree.specs.PutLaws.{IsFresh}
use Rattle.fn_tree.specs.SyntaxTree.{ModuleTree}
use Rattle.fn_tree.specs.declared.entry.Call.{Call}
use Rattle.fn_vm.specs.Machines.{Goes}
use Rattle.fn_vm.specs.declared.machine.Machine.{Machine}

-- one run more is counted, as far as it can be
pub counted : (n : ℕ) → n < 2 ^ 64 → min (n + 1) (2 ^ 64 - 1) ≡ one_more n
counted n small = go (nat_lt n (2 ^ 64 - 1)) refl
  where
    go : (b : Bool) → nat_lt n (2 ^ 64 - 1) ≡ b → min (n + 1) (2 ^ 64 - 1) ≡ (if b then n + 1 else n)
    go true e =
        let below = ltb-true n (2 ^ 64 - 1) e in
        min-eq_left (omega (arith, below))
    go false e =
        let above = ltb-false n (2 ^ 64 - 1) e in
        let cut : min (n + 1) (2 ^ 64 - 1) ≡ 2 ^ 64 - 1 = min-eq_right (omega (arith, above)) in
        let is : 2 ^ 64 - 1 ≡ n = omega (arith, above, small) in
        cut ∙ is

pub counted_ok : {T E : Type 0} (r : Result T E) (n k : ℕ) → n < 2 ^ 64 → OnOk r (k ≡ min (n + 1) (2 ^ 64 - 1)) → OnOk r (k ≡ one_more n)
counted_ok (Ok x) n k small e = e ∙ counted n small
counted_ok (Err e) n k small p = tt

-- a run that has started goes on by its whole course
pub starts : (code : Code) (m : ModuleTree) (s : Start) (ds : Docs) (machine : Machine) (tx : Under) (ts : ℕ) → tx ≡ record { snapshot = ts; pending = []; reads = [] }
    → IsFresh s.origin 0 ds → Goes code machine (course_of m s) → Runs code m s ds machine tx
starts code m s ds machine tx ts new fresh goes =
    subst (λ (x : Under). Runs code m s ds machine x) (sym new) (record {
      course = course_of m s;
      goes = goes;
      rest = whole_rest m s ds fresh;
    })

-- the first pause of a call's run, as its copy has it
pub first_paused : (n o m : ModuleTree) (code : Code) (h k : History) (call copied : Call) (s : Start) (ts : ℕ) (machine : Machine) (tx : Under) (pause : Pause)
    → IsLegal m h → ts ≡ length h → tx.snapshot ≡ ts → code ≡ code_of n → o ≡ n → k ≡ h → copied ≡ call → s ≡ start_of call
    → Pauses code n s (docs_at h ts) machine tx pause → ∥ IsPaused o k copied ts machine tx pause ∥₁
first_paused n o m code h k call copied s ts machine tx pause legal all snapshot compiled tree seen same start p =
    let is : IsPaused n h call ts machine tx pause = record {
      snapshot = snapshot;
      within = le_of_eq all;
      distinct = ids_are_distinct m h legal ts;
      pauses = subst (λ (x : Start). Pauses (code_of n) n x (docs_at h ts) machine tx pause) start (subst (λ (c : Code). Pauses c n s (docs_at h ts) machine tx pause) compiled p);
    } in
    let of_tree : IsPaused o h call ts machine tx pause = subst (λ (x : ModuleTree). IsPaused x h call ts machine tx pause) (sym tree) is in
    let of_seen : IsPaused o k call ts machine tx pause = subst (λ (x : History). IsPaused o x call ts machine tx pause) (sym seen) of_tree in
    ∣ subst (λ (x : Call). IsPaused o k x ts machine tx pause) (sym same) of_seen ∣₁
