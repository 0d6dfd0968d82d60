-- What a call's event makes of a stand's stage, and what it tells.
use Rattle.std.proofs.Common.{◌≡◌, ℕ, List, [], ◌∷◌, Some, Option, sym, ap, ◌∙◌}
use Rattle.std.specs.Option.{option_map_or}
use Rattle.fn_tree.specs.Course.{Reply}
use Rattle.fn_tree.specs.History.{History}
use Rattle.fn_tree.specs.SyntaxTree.{ModuleTree}
use Rattle.fn_tree.specs.declared.entry.Call.{Call}
use Rattle.cv_store.specs.Kept.{kept}
use Rattle.cv_stand.specs.EntryLines.{reply_line}
use Rattle.cv_stand.specs.Events.{Event, calls, Request}
use Rattle.cv_stand.specs.Plays.{Stage, after, after_call, call_at, output, request_of, told}
use Rattle.cv_stand.specs.Texts.{with_feeds}

-- an event that calls
module _ (m : ModuleTree) (s : Stage) (e : Event) (r : Request) (call : Call) (is : e ≡ calls r) (made : call ≡ call_at s.clock r) where
  pub call_plays : (t : Stage) → t.clock ≡ s.clock → t.history ≡ after_call m s.history call → t ≡ after m s e
  call_plays t clock history =
      let grown : t.history ≡ after_call m s.history (call_at s.clock r) = history ∙ ap (after_call m s.history) made in
      let here : t ≡ after m s (calls r) = λ i. record { clock = clock i; history = grown i } in
      here ∙ ap (after m s) (sym is)

  pub call_tells : with_feeds (told (after_call m s.history call) (request_of call)) ≡ with_feeds (output m s e)
  call_tells =
      ap (λ (c : Call). with_feeds (told (after_call m s.history c) (request_of c))) made ∙ ap (λ (x : Event). with_feeds (output m s x)) (sym is)

-- the line that tells the reply of a call's entry
pub tells_reply : (h : History) (call : Call) (ts : ℕ) (reply : Reply) (line : List ℕ) → kept call.session call.request h ≡ Some (ts, reply) → line ≡ reply_line ts reply → line ∷ [] ≡ told h (request_of call)
tells_reply h call ts reply line found is =
    ap (λ (l : List ℕ). l ∷ []) is ∙ sym (ap (λ (o : Option (ℕ × Reply)). option_map_or (λ f. reply_line f.0 f.1 ∷ []) o []) found)
