-- Frames of callers, of which the nearest is at the end.
use Rattle.std.proofs.Common.{◌≡◌, List, [], ◌∷◌, ◌++◌, map, reverse, ap, ◌∙◌}
use Rattle.std.proofs.lemmas.List.{reverse-append, map-append}
use Rattle.fn_vm.specs.Views.{frame_view}
use Rattle.fn_vm.specs.declared.frame.Frame.{Frame}

-- the one put at the end comes first
pub pushed : (before after : List Frame) (f : Frame) → after ≡ before ++ f ∷ [] → reverse (map frame_view after) ≡ frame_view f ∷ reverse (map frame_view before)
pushed before after f e =
    ap (λ fs. reverse (map frame_view fs)) e ∙ ap (λ fs. reverse fs) (map-append frame_view before (f ∷ [])) ∙ reverse-append (map frame_view before) (frame_view f ∷ [])
