-- Bytes are the text of one module, or have one fault.
use Rattle.std.proofs.Common.{◌≡◌, ℕ, ◌<◌, ◌≤◌, ◌⊎◌, inl, inr, List, refl, sym, ◌∙◌, ap, arith}
use Rattle.fn_tree.specs.Fronts.{Ends, before, same}
use Rattle.fn_tree.specs.Lexemes.{lexemes_of}
use Rattle.fn_tree.specs.ModuleLaws.{AtMostOneModule, ModulesHaveNoFault, AtMostOneFault}
use Rattle.fn_tree.specs.ModuleTexts.{IsModuleText, IsFront, WrongAt, HasFault, IsFirstFault, rank}
use Rattle.fn_tree.specs.ParseTrees.{module_of}
use Rattle.fn_tree.specs.SyntaxTree.{ModuleTree}
use Rattle.fn_tree.specs.declared.fault.SyntaxFault.{SyntaxFault}
use Rattle.fn_tree.specs.declared.fault.Why.{Why}
use Rattle.fn_tree.specs.declared.fault.Why.TheVariants.{TooLong, NotUtf8, BadToken, TooDeep, WrongToken, EarlyEnd}
use Rattle.fn_tree.specs.declared.lexeme.Lexeme.{Lexeme}
use Rattle.fn_tree.proofs.Frames.{ends_nil}
use Rattle.fn_tree.proofs.Fronts.{ends_trans, takes_reads, reads_close}
use Rattle.fn_tree.proofs.Language.{one_parse}

pub at_most_one_module : AtMostOneModule
at_most_one_module bytes m n x y =
    sym x.tree ∙ ap (module_of bytes) (one_parse x.parses y.parses) ∙ y.tree

-- a front that goes further than a wrong token
pub goes_past : {text : List ℕ} {at : ℕ} {m : List Lexeme} (w : WrongAt text at) → IsFront (lexemes_of text).lexemes m → Ends m w.rest → ⊥
goes_past w f e = w.wrong (reads_close f e (ends_trans (before same) w.within))

no_fault : (text : List ℕ) (m : ModuleTree) (why : Why) (at : ℕ) → IsModuleText text m → HasFault text why at → ⊥
no_fault text m TooLong at x h = h
no_fault text m NotUtf8 at x h = h
no_fault text m BadToken at x h = let e = sym x.readable ∙ h in cc
no_fault text m TooDeep at x h = let e = sym x.shallow ∙ h.first in cc
no_fault text m WrongToken at x h = goes_past h (takes_reads x.parses) (ends_nil h.rest)
no_fault text m EarlyEnd at x h = h.none x.parse x.parses

pub modules_have_no_fault : ModulesHaveNoFault
modules_have_no_fault bytes m fault x (inl h) = let s = x.short in omega (arith, h.0)
modules_have_no_fault bytes m fault x (inr (inl h)) = let s = x.utf8 in omega (arith, h.1)
modules_have_no_fault bytes m fault x (inr (inr h)) = no_fault bytes m fault.why fault.at x h.2.fault

-- ---- one fault

same_rank : (a b : Why) → rank a ≡ rank b → a ≡ b
same_rank TooLong TooLong e = refl
same_rank NotUtf8 NotUtf8 e = refl
same_rank BadToken BadToken e = refl
same_rank TooDeep TooDeep e = refl
same_rank WrongToken WrongToken e = refl
same_rank EarlyEnd EarlyEnd e = refl
same_rank _ _ e = absurd (omega arith)

abbrev fault_at : ℕ → Why → SyntaxFault
fault_at at why = record { at = at; why = why }

same_fault : (fault other : SyntaxFault) → fault.at ≡ other.at → fault.why ≡ other.why → fault ≡ other
same_fault fault other e f = ap (λ (at : ℕ). fault_at at fault.why) e ∙ ap (fault_at other.at) f

earlier : (a b : ℕ) (x y : Why) → (a < b) ⊎ ((a ≡ b) × (rank x ≤ rank y)) → (b < a) ⊎ ((b ≡ a) × (rank y ≤ rank x)) → (a ≡ b) × (rank x ≡ rank y)
earlier a b x y (inl h) (inl k) = absurd (omega arith)
earlier a b x y (inl h) (inr k) = absurd (omega (arith, k.0))
earlier a b x y (inr h) (inl k) = absurd (omega (arith, h.0))
earlier a b x y (inr h) (inr k) = (h.0, omega (arith, h.1, k.1))

one_first : (text : List ℕ) (fault other : SyntaxFault) → IsFirstFault text fault.why fault.at → IsFirstFault text other.why other.at → fault ≡ other
one_first text fault other x y =
    let e = earlier fault.at other.at fault.why other.why (x.first other.why other.at y.fault) (y.first fault.why fault.at x.fault) in
    same_fault fault other e.0 (same_rank fault.why other.why e.1)

pub at_most_one_fault : AtMostOneFault
at_most_one_fault bytes fault other (inl h) (inl k) = same_fault fault other (h.2 ∙ sym k.2) (h.1 ∙ sym k.1)
at_most_one_fault bytes fault other (inl h) (inr (inl k)) = absurd (omega (arith, h.0, k.0))
at_most_one_fault bytes fault other (inl h) (inr (inr k)) = absurd (omega (arith, h.0, k.0))
at_most_one_fault bytes fault other (inr (inl h)) (inl k) = absurd (omega (arith, h.0, k.0))
at_most_one_fault bytes fault other (inr (inl h)) (inr (inl k)) = same_fault fault other (h.3 ∙ sym k.3) (h.2 ∙ sym k.2)
at_most_one_fault bytes fault other (inr (inl h)) (inr (inr k)) = absurd (omega (arith, h.1, k.1))
at_most_one_fault bytes fault other (inr (inr h)) (inl k) = absurd (omega (arith, h.0, k.0))
at_most_one_fault bytes fault other (inr (inr h)) (inr (inl k)) = absurd (omega (arith, h.1, k.1))
at_most_one_fault bytes fault other (inr (inr h)) (inr (inr k)) = one_first bytes fault other h.2 k.2
