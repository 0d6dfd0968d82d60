-- The tokens of a module's canonical text are those of each of its texts, and parsed alike.
use Rattle.std.proofs.Common.{◌≡◌, ℕ, zero, suc, ◌≤◌, Bool, true, false, arith, List, [], ◌∷◌, take, drop, length, refl, sym, ◌∙◌, subst}
use Rattle.std.specs.Prelude.{All, None, if◌then◌else◌}
use Rattle.std.specs.Str.{IsUtf8, is_utf8}
use Rattle.std.specs.Str.Lossy.{utf8_valid_len, valid_len_up_to}
use Rattle.std.proofs.lemmas.List.Elements.{All-head, All-tail}
use Rattle.std.proofs.lemmas.List.{take_all}
use Rattle.std.proofs.lemmas.Str.{utf8_valid_len-IsUtf8, IsUtf8-nil, IsUtf8-from_is_utf8}
use Rattle.fn_tree.specs.Canonical.{canonical_text}
use Rattle.fn_tree.specs.Lexemes.{begins, lexemes_of}
use Rattle.fn_tree.specs.LexemeValues.{slice_of, text_of, string_value}
use Rattle.fn_tree.specs.Language.{grammar}
use Rattle.fn_tree.specs.Grammar.{rule}
use Rattle.fn_tree.specs.ModuleTexts.{IsModuleText}
use Rattle.fn_tree.specs.Nesting.{first_too_deep}
use Rattle.fn_tree.specs.Rules.{whole_module}
use Rattle.fn_tree.specs.SyntaxTree.{ModuleTree}
use Rattle.fn_tree.specs.declared.begin.Begin.TheVariants.{Token}
use Rattle.fn_tree.specs.declared.lexeme.Lexeme.{Lexeme}
use Rattle.fn_tree.proofs.Alike.{AllSame, Read, read_alike, nest_alike}
use Rattle.fn_tree.proofs.CanonicalUtf8.{AllUtf8, token_spelled_utf8, laid_utf8}
use Rattle.fn_tree.proofs.DeclarationTexts.{AllParts}
use Rattle.fn_tree.proofs.ModuleLaid.{AllWritten, module_laid}
use Rattle.fn_tree.proofs.Relexed.{AllGood, LaidOut, is_good, relexed}
use Rattle.fn_tree.proofs.TokenFacts.{is_written, is_a_part}
use Rattle.fn_tree.proofs.TokenTexts.{tokens_are_texts}
use Rattle.fn_tree.proofs.TokensRead.{tokens_are_read}

-- ---- UTF-8

at_most : (bs : List ℕ) (n : ℕ) → valid_len_up_to bs n ≤ n
at_most bs zero = omega arith
at_most bs (suc n) = step (is_utf8 (take (suc n) bs)) (valid_len_up_to bs n) n (at_most bs n)
  where
    step : (test : Bool) (k n : ℕ) → k ≤ n → (if test then suc n else k) ≤ suc n
    step true k n h = omega arith
    step false k n h = omega arith

up_to_whole : (bs : List ℕ) (n : ℕ) → valid_len_up_to bs n ≡ n → IsUtf8 (take n bs)
up_to_whole bs zero e = IsUtf8-nil
up_to_whole bs (suc n) e = IsUtf8-from_is_utf8 (take (suc n) bs) (step (is_utf8 (take (suc n) bs)) (valid_len_up_to bs n) n (at_most bs n) e)
  where
    step : (test : Bool) (k n : ℕ) → k ≤ n → (if test then suc n else k) ≡ suc n → test ≡ true
    step true k n h e = refl
    step false k n h e = absurd (omega arith)

-- bytes whose longest front of UTF-8 is the whole
utf8_whole : (bs : List ℕ) → utf8_valid_len bs ≡ length bs → IsUtf8 bs
unfolding utf8_valid_len
utf8_whole bs e = subst IsUtf8 (take_all (length bs) bs (omega arith)) (up_to_whole bs (length bs) e)

-- ---- tokens

abbrev IsRead : List ℕ → Lexeme → Type 0
IsRead s c = begins (drop c.at s) ≡ Token c.terminal c.len

abbrev IsText : List ℕ → Lexeme → Type 0
IsText s c = (text_of (slice_of s c) ≡ slice_of s c) × (text_of (string_value (slice_of s c)) ≡ string_value (slice_of s c))

all_good : (s : List ℕ) (cs : List Lexeme) → All (IsRead s) cs → All (IsText s) cs → AllGood s cs × AllWritten s cs × AllParts s cs
all_good s [] r t = (tt, tt, tt)
all_good s (c ∷ cs) r t =
    let read : IsRead s c = All-head (IsRead s) c cs r in
    let text : IsText s c = All-head (IsText s) c cs t in
    let rest = all_good s cs (All-tail (IsRead s) c cs r) (All-tail (IsText s) c cs t) in
    ((is_good s c read text.1, rest.0), (is_written s c read text.0, rest.1), (is_a_part s c read text.0, rest.2))

all_utf8 : (s : List ℕ) (cs : List Lexeme) → IsUtf8 s → All (IsRead s) cs → AllUtf8 s cs
all_utf8 s [] u r = tt
all_utf8 s (c ∷ cs) u r = (token_spelled_utf8 s c u (All-head (IsRead s) c cs r), all_utf8 s cs u (All-tail (IsRead s) c cs r))

-- the tokens of a text's module are laid out in its canonical text
laid_out : (s : List ℕ) (m : ModuleTree) → IsModuleText s m → LaidOut s (lexemes_of s).lexemes (canonical_text m)
laid_out s m is =
    let good = all_good s (lexemes_of s).lexemes (tokens_are_read s) (tokens_are_texts s (utf8_whole s is.utf8)) in
    subst (λ (n : ModuleTree). LaidOut s (lexemes_of s).lexemes (canonical_text n)) is.tree (module_laid s is.parses good.2 good.1)

-- it is UTF-8
pub canonical_utf8 : (s : List ℕ) (m : ModuleTree) → IsModuleText s m → utf8_valid_len (canonical_text m) ≡ length (canonical_text m)
canonical_utf8 s m is = utf8_valid_len-IsUtf8 (canonical_text m) (laid_utf8 (laid_out s m is) (all_utf8 s (lexemes_of s).lexemes (utf8_whole s is.utf8) (tokens_are_read s)))

-- a text's module has a canonical text of the same tokens
pub same_tokens : (s : List ℕ) (m : ModuleTree) → IsModuleText s m
    → AllSame s (canonical_text m) (lexemes_of s).lexemes (lexemes_of (canonical_text m)).lexemes × ((lexemes_of (canonical_text m)).bad ≡ None)
unfolding lexemes_of
same_tokens s m is =
    let good = all_good s (lexemes_of s).lexemes (tokens_are_read s) (tokens_are_texts s (utf8_whole s is.utf8)) in
    relexed (canonical_text m) 0 (laid_out s m is) good.0 refl

-- it nests as that text does, and is parsed alike
pub nests : (s : List ℕ) (m : ModuleTree) → IsModuleText s m → first_too_deep (lexemes_of (canonical_text m)).lexemes ≡ None
nests s m is = sym (nest_alike (same_tokens s m is).0) ∙ is.shallow

pub reads : (s : List ℕ) (m : ModuleTree) → (is : IsModuleText s m) → Read s (canonical_text m) grammar (rule whole_module) is.parse [] (lexemes_of (canonical_text m)).lexemes
reads s m is = read_alike is.parses (same_tokens s m is).0
