-- The first fault of a text, from where the descent over its tokens stops.
use Rattle.std.proofs.Common.{◌≡◌, ℕ, ◌+◌, ◌<◌, ◌≤◌, ◌⊎◌, inl, inr, List, [], ◌∷◌, ◌++◌, length, drop, refl, sym, ◌∙◌, ap, subst, arith}
use Rattle.std.specs.Prelude.{Option, Some, None}
use Rattle.std.proofs.Math.Seq.{drop-append_seam}
use Rattle.std.proofs.lemmas.List.{append-nil}
use Rattle.fn_tree.specs.Fronts.{Ends, same, before}
use Rattle.fn_tree.specs.Grammar.{Parse}
use Rattle.fn_tree.specs.LexemeLaws.{StandApart}
use Rattle.fn_tree.specs.Lexemes.{lexemes_of}
use Rattle.fn_tree.specs.ModuleTexts.{IsFront, IsParse, DeepAt, WrongAt, HasFault, IsFirstFault, rank}
use Rattle.fn_tree.specs.Nesting.{first_too_deep}
use Rattle.fn_tree.specs.declared.fault.SyntaxFault.{SyntaxFault}
use Rattle.fn_tree.specs.declared.fault.Why.{Why}
use Rattle.fn_tree.specs.declared.fault.Why.TheVariants.{TooLong, NotUtf8, BadToken, TooDeep, WrongToken, EarlyEnd}
use Rattle.fn_tree.specs.declared.lexeme.Lexeme.{Lexeme}
use Rattle.fn_tree.proofs.Frames.{ends_nil, ends_append, ends_after, reads_on, reads_alone}
use Rattle.fn_tree.proofs.Fronts.{compare}
use Rattle.fn_tree.proofs.ModuleTexts.{goes_past}
use Rattle.fn_tree.proofs.Places.{tokens_stand_apart, bad_comes_after}
use Rattle.fn_syntax.specs.Descents.{StopsAt}
use Rattle.fn_syntax.specs.FirstFaults.{IsCut, fault_after, fault_at}

-- ---- places

apart_within : (from to : ℕ) (xs : List Lexeme) → StandApart from to xs → from ≤ to
apart_within from to [] a = a
apart_within from to (x ∷ xs) a = let h = apart_within (x.at + x.len) to xs a.2 in omega (arith, a.0)

stands_within : {y : Lexeme} {r xs : List Lexeme} (from to : ℕ) → StandApart from to xs → Ends (y ∷ r) xs → (from ≤ y.at) × (y.at < to)
stands_within {y = y} {r = r} from to a same = let h = apart_within (y.at + y.len) to r a.2 in (a.0, omega (arith, a.1))
stands_within from to a (before {c = c} e) = let h = stands_within (c.at + c.len) to a.2 e in (omega (arith, a.0, h.0), h.1)

stands_later : {x y : Lexeme} {l r xs : List Lexeme} (from to : ℕ) → StandApart from to xs → Ends (x ∷ l) xs → Ends (y ∷ r) l → x.at < y.at
stands_later {x = x} from to a same e = let h = stands_within (x.at + x.len) to a.2 e in omega (arith, a.1, h.0)
stands_later from to a (before {c = c} d) e = stands_later (c.at + c.len) to a.2 d e

in_text : {y : Lexeme} {r : List Lexeme} (text : List ℕ) → Ends (y ∷ r) (lexemes_of text).lexemes → y.at < length text
in_text text e = (stands_within 0 (length text) (tokens_stand_apart text) e).1

before_bad : {y : Lexeme} {r : List Lexeme} (text : List ℕ) (bad : ℕ) → (lexemes_of text).bad ≡ Some bad → Ends (y ∷ r) (lexemes_of text).lexemes → y.at < bad
before_bad text bad h e = (stands_within 0 bad (bad_comes_after text bad h).0 e).1

later : {x y : Lexeme} {l r : List Lexeme} (text : List ℕ) → Ends (x ∷ l) (lexemes_of text).lexemes → Ends (y ∷ r) l → x.at < y.at
later text d e = stands_later 0 (length text) (tokens_stand_apart text) d e

-- ---- a wrong token is none of those that a front goes past

places_of : {x y : Lexeme} {l r : List Lexeme} → (Ends (y ∷ r) l → x.at < y.at) → (Ends (x ∷ l) r → ⊥) → Ends (x ∷ l) (y ∷ r) ⊎ Ends (y ∷ r) (x ∷ l) → (x.at < y.at) ⊎ (x.at ≡ y.at)
places_of h k (inl same) = inr refl
places_of h k (inl (before e)) = absurd (k e)
places_of h k (inr same) = inr refl
places_of h k (inr (before e)) = inl (h e)

wrong_after : {x : Lexeme} {l : List Lexeme} (text : List ℕ) (there : ℕ) → Ends (x ∷ l) (lexemes_of text).lexemes → IsFront (lexemes_of text).lexemes (x ∷ l) → WrongAt text there → (x.at < there) ⊎ (x.at ≡ there)
wrong_after {x = x} text there e f w =
    subst (λ (n : ℕ). (x.at < n) ⊎ (x.at ≡ n)) w.place (places_of (λ d. later text e d) (λ d. goes_past w f d) (compare e w.within))

-- ---- the order in which faults are told

abbrev Told : Why → ℕ → Why → ℕ → Type 0
Told why at other there = (at < there) ⊎ ((at ≡ there) × (rank why ≤ rank other))

some_is : {A : Type 0} (a b : A) → Some a ≡ Some b → a ≡ b
some_is a b e = cc

head_is : (a b : Lexeme) (r s : List Lexeme) → a ∷ r ≡ b ∷ s → a ≡ b
head_is a b r s e = cc

-- ---- the token that is too deep, after tokens that begin a module

module _ (text : List ℕ) (ts : List Lexeme) (x : Lexeme) (c : IsCut (lexemes_of text).lexemes ts (Some x)) where
  deep_end : Ends (x ∷ c.0) (lexemes_of text).lexemes
  deep_end = subst (λ (l : List Lexeme). Ends (x ∷ c.0) l) (sym c.1) (ends_after ts (x ∷ c.0))

  deep_rest : drop (length ts) (lexemes_of text).lexemes ≡ x ∷ c.0
  deep_rest = ap (λ (l : List Lexeme). drop (length ts) l) c.1 ∙ drop-append_seam ts (x ∷ c.0)

  deep_here : DeepAt text x.at
  deep_here = record { before = length ts; first = c.2; token = x; rest = c.0; here = deep_rest; place = refl }

  deep_only : (there : ℕ) → DeepAt text there → x.at ≡ there
  deep_only there d =
      let n : length ts ≡ d.before = some_is (length ts) d.before (sym c.2 ∙ d.first) in
      let h : x ∷ c.0 ≡ d.token ∷ d.rest = sym deep_rest ∙ ap (λ (k : ℕ). drop k (lexemes_of text).lexemes) n ∙ d.here in
      ap (λ (l : Lexeme). l.at) (head_is x d.token c.0 d.rest h) ∙ d.place

  deep_front : IsFront ts [] → IsFront (lexemes_of text).lexemes (x ∷ c.0)
  deep_front f = subst (λ (l : List Lexeme). IsFront l (x ∷ c.0)) (sym c.1) (reads_on (x ∷ c.0) f)

  deep_told : IsFront ts [] → (other : Why) (there : ℕ) → HasFault text other there → Told TooDeep x.at other there
  deep_told f TooLong there h = absurd h
  deep_told f NotUtf8 there h = absurd h
  deep_told f BadToken there h = inl (before_bad text there h deep_end)
  deep_told f TooDeep there h = inr (deep_only there h, omega arith)
  deep_told f WrongToken there h = elim (wrong_after text there deep_end (deep_front f) h) [ inl p ↦ inl p | inr p ↦ inr (p, omega arith) ]
  deep_told f EarlyEnd there h = let p = in_text text deep_end in let q = h.place in inl (omega arith)

  deep_first : IsFront ts [] → IsFirstFault text TooDeep x.at
  deep_first f = record { fault = deep_here; first = λ other there h. deep_told f other there h }

-- ---- where no token is too deep

module _ (text : List ℕ) (shallow : first_too_deep (lexemes_of text).lexemes ≡ None) where
  not_deep : (there : ℕ) → DeepAt text there → ⊥
  not_deep there d = let e = sym shallow ∙ d.first in cc

  bad_told : (bad : ℕ) → (lexemes_of text).bad ≡ Some bad → IsFront (lexemes_of text).lexemes [] → (other : Why) (there : ℕ) → HasFault text other there → Told BadToken bad other there
  bad_told bad e f TooLong there h = absurd h
  bad_told bad e f NotUtf8 there h = absurd h
  bad_told bad e f BadToken there h = inr (some_is bad there (sym e ∙ h), omega arith)
  bad_told bad e f TooDeep there h = absurd (not_deep there h)
  bad_told bad e f WrongToken there h = absurd (goes_past h f (ends_nil h.rest))
  bad_told bad e f EarlyEnd there h = let k = sym e ∙ h.readable in absurd (cc)

  bad_first : (bad : ℕ) → (lexemes_of text).bad ≡ Some bad → IsFront (lexemes_of text).lexemes [] → IsFirstFault text BadToken bad
  bad_first bad e f = record { fault = e; first = λ other there h. bad_told bad e f other there h }

  early_told : (lexemes_of text).bad ≡ None → IsFront (lexemes_of text).lexemes [] → (other : Why) (there : ℕ) → HasFault text other there → Told EarlyEnd (length text) other there
  early_told e f TooLong there h = absurd h
  early_told e f NotUtf8 there h = absurd h
  early_told e f BadToken there h = let k = sym e ∙ h in absurd (cc)
  early_told e f TooDeep there h = absurd (not_deep there h)
  early_told e f WrongToken there h = absurd (goes_past h f (ends_nil h.rest))
  early_told e f EarlyEnd there h = inr (h.place, omega arith)

  early_first : (lexemes_of text).bad ≡ None → IsFront (lexemes_of text).lexemes [] → ((a : Parse) → IsParse (lexemes_of text).lexemes a → ⊥) → IsFirstFault text EarlyEnd (length text)
  early_first e f n = record { fault = record { readable = e; front = f; none = n; place = refl }; first = λ other there h. early_told e f other there h }

-- ---- the token at which they go wrong

-- what is too deep stands after a place
abbrev Deeper : List ℕ → ℕ → Type 0
Deeper text at = (there : ℕ) → DeepAt text there → at < there

module _ (text : List ℕ) (ts us l : List Lexeme) (w : Lexeme) (e : (lexemes_of text).lexemes ≡ ts ++ us) (s : StopsAt ts (w ∷ l)) where
  wrong_end : Ends (w ∷ l ++ us) (lexemes_of text).lexemes
  wrong_end = subst (λ (k : List Lexeme). Ends (w ∷ l ++ us) k) (sym e) (ends_append us s.within)

  wrong_front : IsFront (lexemes_of text).lexemes (w ∷ l ++ us)
  wrong_front = subst (λ (k : List Lexeme). IsFront k (w ∷ l ++ us)) (sym e) (reads_on us s.front)

  wrong_here : WrongAt text w.at
  wrong_here = record {
    token = w;
    rest = l ++ us;
    within = wrong_end;
    front = wrong_front;
    wrong = λ f. s.wrong w l refl (reads_alone ts l us (subst (λ (k : List Lexeme). IsFront k (l ++ us)) e f));
    place = refl;
  }

  wrong_told : Deeper text w.at → (other : Why) (there : ℕ) → HasFault text other there → Told WrongToken w.at other there
  wrong_told d TooLong there h = absurd h
  wrong_told d NotUtf8 there h = absurd h
  wrong_told d BadToken there h = inl (before_bad text there h wrong_end)
  wrong_told d TooDeep there h = inl (d there h)
  wrong_told d WrongToken there h = elim (wrong_after text there wrong_end wrong_front h) [ inl p ↦ inl p | inr p ↦ inr (p, omega arith) ]
  wrong_told d EarlyEnd there h = let p = in_text text wrong_end in let q = h.place in inl (omega arith)

  wrong_first : Deeper text w.at → IsFirstFault text WrongToken w.at
  wrong_first d = record { fault = wrong_here; first = λ other there h. wrong_told d other there h }

wrong_cut : (text : List ℕ) (ts l : List Lexeme) (w : Lexeme) (deep : Option Lexeme) → IsCut (lexemes_of text).lexemes ts deep → StopsAt ts (w ∷ l) → IsFirstFault text WrongToken w.at
wrong_cut text ts l w (Some x) c s =
    wrong_first text ts (x ∷ c.0) l w c.1 s (λ there d.
    let p = later text (wrong_end text ts (x ∷ c.0) l w c.1 s) (ends_after l (x ∷ c.0)) in let q = deep_only text ts x c there d in omega arith)
wrong_cut text ts l w None c s =
    let e : ts ++ [] ≡ ts = append-nil ts in
    wrong_first text ts [] l w (c.0 ∙ sym e) s (λ there d. absurd (not_deep text c.1 there d))

-- ---- the fault that is told

pub after_first : (text : List ℕ) (ts : List Lexeme) (deep : Option Lexeme) (bad : Option ℕ) (fault : SyntaxFault)
    → IsCut (lexemes_of text).lexemes ts deep → (lexemes_of text).bad ≡ bad → IsFront ts [] → fault_after deep bad ≡ Some fault → IsFirstFault text fault.why fault.at
after_first text ts (Some x) bad fault c b f e =
    subst (λ (y : SyntaxFault). IsFirstFault text y.why y.at) (some_is _ fault e) (deep_first text ts x c f)
after_first text ts None (Some at) fault c b f e =
    subst (λ (y : SyntaxFault). IsFirstFault text y.why y.at) (some_is _ fault e) (bad_first text c.1 at b (subst (λ (k : List Lexeme). IsFront k []) (sym c.0) f))
after_first text ts None None fault c b f e = absurd (cc)

stops_early : (text : List ℕ) (ts : List Lexeme) (deep : Option Lexeme) (bad : Option ℕ)
    → IsCut (lexemes_of text).lexemes ts deep → (lexemes_of text).bad ≡ bad → StopsAt ts [] → (after : Option SyntaxFault) → fault_after deep bad ≡ after → IsFirstFault text (fault_at text [] after).why (fault_at text [] after).at
stops_early text ts deep bad c b s (Some fault) e = after_first text ts deep bad fault c b s.front e
stops_early text ts (Some x) bad c b s None e = absurd (cc)
stops_early text ts None (Some at) c b s None e = absurd (cc)
stops_early text ts None None c b s None e =
    early_first text c.1 b (subst (λ (k : List Lexeme). IsFront k []) (sym c.0) s.front) (λ a p. s.none a (subst (λ (k : List Lexeme). IsParse k a) c.0 p))

pub stop_first : (text : List ℕ) (ts rest : List Lexeme) (deep : Option Lexeme) (bad : Option ℕ)
    → IsCut (lexemes_of text).lexemes ts deep → (lexemes_of text).bad ≡ bad → StopsAt ts rest → IsFirstFault text (fault_at text rest (fault_after deep bad)).why (fault_at text rest (fault_after deep bad)).at
stop_first text ts (w ∷ l) deep bad c b s = wrong_cut text ts l w deep c s
stop_first text ts [] deep bad c b s = stops_early text ts deep bad c b s (fault_after deep bad) refl

-- nothing comes after the tokens of a module
pub nothing_after : (ts front : List Lexeme) (deep : Option Lexeme) (bad : Option ℕ) → IsCut ts front deep → fault_after deep bad ≡ None → (ts ≡ front) × (first_too_deep ts ≡ None) × (bad ≡ None)
nothing_after ts front (Some x) bad c e = absurd (cc)
nothing_after ts front None (Some at) c e = absurd (cc)
nothing_after ts front None None c e = (c.0, c.1, refl)
