-- What stands under a number after a change, and the queries that marks leave.
use Rattle.std.specs.Prelude.{◌≡◌, ℕ, ◌==◌, cond, List, Option, Some, None, option_map}
use Rattle.cv_reads.specs.declared.mark.Mark.{Mark}
use Rattle.cv_subs.specs.Subs.{Sub, Subs, sub_at, with_sub, without_sub, changed, advanced, after_marks}

abbrev pub AtWith : Type 0
AtWith = (id other : ℕ) (s : Sub) (subs : Subs) → sub_at other (with_sub id s subs) ≡ cond (id == other) (Some s) (sub_at other subs)

abbrev pub AtWithout : Type 0
AtWithout = (id other : ℕ) (subs : Subs) → sub_at other (without_sub id subs) ≡ cond (id == other) None (sub_at other subs)

abbrev pub AtChanged : Type 0
AtChanged = (id other : ℕ) (f : Sub → Sub) (subs : Subs) → sub_at other (changed id f subs) ≡ option_map (λ s. cond (other == id) (f s) s) (sub_at other subs)

abbrev pub AtAdvanced : Type 0
AtAdvanced = (marks : List Mark) (other : ℕ) (subs : Subs) → sub_at other (after_marks marks subs) ≡ option_map (advanced marks) (sub_at other subs)
