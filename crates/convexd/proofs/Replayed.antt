-- How an input is replayed.
use Rattle.std.proofs.Common.{◌≡◌, ◌≤◌, ℕ, ◌+◌, List, length, Option, Some, ap, inl, subst}
use Rattle.cv_outside.specs.declared.whole.TheConstants.{INPUT_LIMIT}
use Rattle.fn_load.specs.Loading.{IsAccepted, IsCauseOf}
use Rattle.fn_load.specs.declared.fault.LoadFault.{LoadFault}
use Rattle.fn_load.specs.declared.fault.LoadFault.TheVariants as load
use Rattle.fn_tree.specs.ModuleTexts.{IsModuleText}
use Rattle.fn_tree.specs.SyntaxTree.{ModuleTree}
use Rattle.convexd.specs.Answering.{Answers, IsPlay, refusal_of}
use Rattle.cv_stand.specs.Events.{Script, script_of}
use Rattle.cv_stand.specs.Lines.{lines_of}
use Rattle.convexd.specs.Lines.{halves, concat}
use Rattle.cv_stand.specs.Texts.{script_text}
use Rattle.cv_stand.specs.Plays.{IsOneLog}
use Rattle.convexd.proofs.Writes.{Appends-none}

-- an input with the line `%%`
module _ (input text : List ℕ) (front lines : List (List ℕ)) (parts : halves (lines_of input) ≡ Some (front, lines)) (whole : text ≡ concat front) where
  -- its module is accepted
  pub is_play : (line : ℕ) (tree : ModuleTree) (script : Script) → IsOneLog tree script.events → line ≡ length front + 2 → IsAccepted text tree → script ≡ script_of line lines → length input ≤ INPUT_LIMIT → IsPlay input script.bad (script_text tree script)
  is_play line tree script one_log at accepted reads limit =
      let from_front : script ≡ script_of (length front + 2) lines = rw at at reads in
      let a : IsAccepted (concat front) tree = rw whole at accepted in
      record {
        front = front;
        lines = lines;
        tree = tree;
        parts = parts;
        reads = a.reads;
        meets = a.meets;
        stops = ap (λ (s : Script). s.bad) from_front;
        writes = ap (λ (s : Script). script_text tree s) from_front;
        log = subst (λ (s : Script). IsOneLog tree s.events) from_front one_log;
        limit = limit;
      }

  -- its module isn't loaded
  pub is_refused : (h : Option (List ℕ)) (fault : LoadFault) → IsCauseOf text fault → length input ≤ INPUT_LIMIT → Answers input h h (refusal_of fault)
  is_refused h (load.Syntax fault) f limit = (record { front = front; lines = lines; parts = parts; cause = rw whole at f }, Appends-none h, limit)
  is_refused h (load.Check fault) u limit =
      let reads : IsModuleText (concat front) u.tree = rw whole at u.reads in
      (record { front = front; lines = lines; parts = parts; cause = record { tree = u.tree; reads = reads; first = u.first } }, Appends-none h, limit)
  is_refused h load.Memory u limit = inl (Appends-none h)
