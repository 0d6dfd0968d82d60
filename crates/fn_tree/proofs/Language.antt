-- The language is told apart by one token, but for assignments and evaluations, which two tokens tell apart.
use Rattle.std.proofs.Common.{List, ◌∷◌, ◌≡◌, refl, subst, ◌⊎◌, inl, inr, Bool, true, false}
use Rattle.fn_tree.specs.Grammar.{Prod, Parse, Takes, Reads, token, rule}
use Rattle.fn_tree.specs.Grammar.Takes.{one, nothing, both, left, right, stop, call}
use Rattle.fn_tree.specs.Grammar.Reads.{none_yet, the_token, in_first, in_next, in_call}
use Rattle.fn_tree.specs.Fronts.{Ends, same, before, NoClash}
use Rattle.fn_tree.specs.Language.{grammar, mark}
use Rattle.fn_tree.specs.Rules.{Rule, whole_module, table, index, function, path, parameters, block, statement, let_statement, if_statement, for_statement, return_statement, throw_statement, assignment, evaluation, expression, conjunction, comparison, sum, term, unary, postfix, suffix, primary, named, builtin_call, array, object, entry, group, scan, bound, count, lookup, moment, insertion, change}
use Rattle.fn_tree.specs.Terminals.{is}
use Rattle.fn_tree.specs.declared.lexeme.Lexeme.{Lexeme}
use Rattle.fn_tree.specs.declared.lexeme.Terminal.{Terminal}
use Rattle.fn_tree.specs.declared.lexeme.Terminal.TheVariants.{Name, Mark as Punctuation}
use Rattle.fn_tree.specs.declared.lexeme.Mark.TheVariants.{Assign, Semicolon}
use Rattle.fn_tree.proofs.Fronts.{ends_trans, ends_full, takes_ends}
use Rattle.fn_tree.proofs.Tokens.{and, no, no_false, at_each, true_or_false}
use Rattle.fn_tree.proofs.Tables.{at_head, follows}
use Rattle.fn_tree.proofs.LanguageTables.{tables, sound, after_in, all_single, goes_on_expression}
use Rattle.fn_tree.proofs.Follows.{Named as Covered, Decided, Good, Cross, Meets, level, short, long, Apart, decided, good, texts_meet, front_meets, no_clash, one_tree, takes_same}

-- the productions of expressions
abbrev in_expressions : Covered
in_expressions expression = true
in_expressions conjunction = true
in_expressions comparison = true
in_expressions sum = true
in_expressions term = true
in_expressions unary = true
in_expressions postfix = true
in_expressions suffix = true
in_expressions primary = true
in_expressions named = true
in_expressions builtin_call = true
in_expressions array = true
in_expressions object = true
in_expressions entry = true
in_expressions group = true
in_expressions scan = true
in_expressions bound = true
in_expressions count = true
in_expressions lookup = true
in_expressions moment = true
in_expressions insertion = true
in_expressions change = true
in_expressions i = false

expressions_good : (i : Rule) → in_expressions i ≡ true → Good grammar tables in_expressions (grammar i)
expressions_good whole_module h = absurd (cc)
expressions_good table h = absurd (cc)
expressions_good index h = absurd (cc)
expressions_good function h = absurd (cc)
expressions_good path h = absurd (cc)
expressions_good parameters h = absurd (cc)
expressions_good block h = absurd (cc)
expressions_good statement h = absurd (cc)
expressions_good let_statement h = absurd (cc)
expressions_good if_statement h = absurd (cc)
expressions_good for_statement h = absurd (cc)
expressions_good return_statement h = absurd (cc)
expressions_good throw_statement h = absurd (cc)
expressions_good assignment h = absurd (cc)
expressions_good evaluation h = absurd (cc)
expressions_good expression h = good grammar tables in_expressions (grammar expression) refl
expressions_good conjunction h = good grammar tables in_expressions (grammar conjunction) refl
expressions_good comparison h = good grammar tables in_expressions (grammar comparison) refl
expressions_good sum h = good grammar tables in_expressions (grammar sum) refl
expressions_good term h = good grammar tables in_expressions (grammar term) refl
expressions_good unary h = good grammar tables in_expressions (grammar unary) refl
expressions_good postfix h = good grammar tables in_expressions (grammar postfix) refl
expressions_good suffix h = good grammar tables in_expressions (grammar suffix) refl
expressions_good primary h = good grammar tables in_expressions (grammar primary) refl
expressions_good named h = good grammar tables in_expressions (grammar named) refl
expressions_good builtin_call h = good grammar tables in_expressions (grammar builtin_call) refl
expressions_good array h = good grammar tables in_expressions (grammar array) refl
expressions_good object h = good grammar tables in_expressions (grammar object) refl
expressions_good entry h = good grammar tables in_expressions (grammar entry) refl
expressions_good group h = good grammar tables in_expressions (grammar group) refl
expressions_good scan h = good grammar tables in_expressions (grammar scan) refl
expressions_good bound h = good grammar tables in_expressions (grammar bound) refl
expressions_good count h = good grammar tables in_expressions (grammar count) refl
expressions_good lookup h = good grammar tables in_expressions (grammar lookup) refl
expressions_good moment h = good grammar tables in_expressions (grammar moment) refl
expressions_good insertion h = good grammar tables in_expressions (grammar insertion) refl
expressions_good change h = good grammar tables in_expressions (grammar change) refl

expressions : Decided grammar tables in_expressions
expressions = record { sound = sound; after = after_in; decided = expressions_good }

-- a name is an expression
name_text : {c : Lexeme} {ts : List Lexeme} → is Name c.terminal ≡ true → (a : Parse) × Takes grammar (rule expression) a (c ∷ ts) ts
name_text h = (_, call (both (call (both (call (both (call (both (call (both (call (both stop (call (both (call (right (left (call (both (one h) (right nothing)))))) stop)))) stop)) stop)) (right nothing))) stop)) stop))

head_is : {f : Terminal → Bool} {a : Parse} {c : Lexeme} {ts r : List Lexeme} → Takes grammar (token f) a (c ∷ ts) r → f c.terminal ≡ true
head_is (one h) = h

head_reads : {f : Terminal → Bool} {c : Lexeme} {ts r : List Lexeme} → Reads grammar (token f) (c ∷ ts) r → (f c.terminal ≡ true → ⊥) → Ends (c ∷ ts) r
head_reads none_yet h = same
head_reads (the_token e) h = absurd (h e)

not_both : (t : Terminal) → is (Punctuation Assign) t ≡ true → is (Punctuation Semicolon) t ≡ true → ⊥
not_both t h k = no_false _ _ (at_each (λ t. no (and (is (Punctuation Assign) t) (is (Punctuation Semicolon) t))) refl t) h k

not_on : (t : Terminal) → is (Punctuation Assign) t ≡ true → goes_on_expression t ≡ true → ⊥
not_on t h k = no_false _ _ (at_each (λ t. no (and (is (Punctuation Assign) t) (goes_on_expression t))) refl t) h k

-- before `=` a name is all of the expression
only_name : {a : Parse} {c e : Lexeme} {ts m : List Lexeme} → is Name c.terminal ≡ true → is (Punctuation Assign) e.terminal ≡ true → Takes grammar (rule expression) a (c ∷ e ∷ ts) m → m ≡ e ∷ ts
only_name {c = c} {e = e} {ts = ts} {m = m} h k t = go k t (takes_ends t) (texts_meet expressions refl (name_text h).1 t)
  where
    up : {a : Parse} {c e : Lexeme} {ts m : List Lexeme} → Takes grammar (rule expression) a (c ∷ e ∷ ts) m → Ends (e ∷ ts) m → Ends m (c ∷ e ∷ ts) → m ≡ e ∷ ts
    up t x same = absurd (true_or_false _ (takes_same sound t same) refl)
    up t x (before y) = ends_full y x

    go : {a : Parse} {c e : Lexeme} {ts m : List Lexeme} → is (Punctuation Assign) e.terminal ≡ true → Takes grammar (rule expression) a (c ∷ e ∷ ts) m → Ends m (c ∷ e ∷ ts) → Meets (follows tables (rule expression)) (e ∷ ts) m → m ≡ e ∷ ts
    go k t y level = refl
    go {e = e} k t y (short x z) = absurd (not_on e.terminal k z)
    go k t y (long x z) = up t x y

pub reads_evaluation : {c e : Lexeme} {ts l : List Lexeme} → is Name c.terminal ≡ true → is (Punctuation Assign) e.terminal ≡ true → Reads grammar (rule evaluation) (c ∷ e ∷ ts) l → Ends (e ∷ ts) l
reads_evaluation h k none_yet = before same
reads_evaluation h k (in_call none_yet) = before same
reads_evaluation {e = e} {ts = ts} {l = l} h k (in_call (in_first x)) = go (front_meets expressions refl (name_text h).1 x)
  where
    go : Ends (e ∷ ts) l ⊎ at_head (follows tables (rule expression)) (e ∷ ts) → Ends (e ∷ ts) l
    go (inl y) = y
    go (inr y) = absurd (not_on e.terminal k y)
reads_evaluation {e = e} {ts = ts} {l = l} h k (in_call (in_next t u)) =
    head_reads (subst (λ (z : List Lexeme). Reads grammar (mark Semicolon) z l) (only_name h k t) u) (λ x. not_both e.terminal k x)

pub no_evaluation : {a : Parse} {c e : Lexeme} {ts r : List Lexeme} → is Name c.terminal ≡ true → is (Punctuation Assign) e.terminal ≡ true → Takes grammar (rule evaluation) a (c ∷ e ∷ ts) r → ⊥
no_evaluation {e = e} {r = r} h k (call (both {b = b} t u)) =
    not_both e.terminal k (head_is (subst (λ (z : List Lexeme). Takes grammar (mark Semicolon) b z r) (only_name h k t) u))

-- an evaluation goes past its first token
evaluation_goes : {a : Parse} {c : Lexeme} {ts r : List Lexeme} → Takes grammar (rule evaluation) a (c ∷ ts) r → Ends r ts
evaluation_goes t = go t (takes_ends t)
  where
    go : {a : Parse} {c : Lexeme} {ts r : List Lexeme} → Takes grammar (rule evaluation) a (c ∷ ts) r → Ends r (c ∷ ts) → Ends r ts
    go t same = absurd (true_or_false _ (takes_same sound t same) refl)
    go t (before e) = e

assigns_never : {a b : Parse} {ts r k : List Lexeme} → Takes grammar (rule assignment) a ts r → Takes grammar (rule evaluation) b ts k → ⊥
assigns_never (call (both (one h) (both (one k) t))) u = no_evaluation h k u

ahead : {a : Parse} {ts r l : List Lexeme} → Takes grammar (rule assignment) a ts r → Reads grammar (rule evaluation) ts l → Ends r l
ahead (call (both (one h) (both (one {c = c} k) t))) u = ends_trans (before {c = c} (takes_ends t)) (reads_evaluation h k u)

back : {b : Parse} {ts r l : List Lexeme} → Takes grammar (rule evaluation) b ts r → Reads grammar (rule assignment) ts l → Ends r l
back t none_yet = takes_ends t
back t (in_call none_yet) = takes_ends t
back t (in_call (in_first none_yet)) = takes_ends t
back t (in_call (in_first (the_token h))) = evaluation_goes t
back t (in_call (in_next (one h) none_yet)) = evaluation_goes t
back t (in_call (in_next (one h) (in_first none_yet))) = evaluation_goes t
back t (in_call (in_next (one h) (in_first (the_token k)))) = absurd (no_evaluation h k t)
back t (in_call (in_next (one h) (in_next (one k) u))) = absurd (no_evaluation h k t)

crosses : Cross grammar tables (rule assignment) (rule evaluation)
crosses = record {
  texts = λ a b ts r k t u. absurd (assigns_never t u);
  ahead = λ a ts r l t u. inl (ahead t u);
  back = λ b ts r l t u. inl (back t u);
  one = λ a b ts r t u. assigns_never t u;
}

abbrev pub everything : Covered
everything i = true

all_good : (i : Rule) → everything i ≡ true → Good grammar tables everything (grammar i)
all_good whole_module h = good grammar tables everything (grammar whole_module) refl
all_good table h = good grammar tables everything (grammar table) refl
all_good index h = good grammar tables everything (grammar index) refl
all_good function h = good grammar tables everything (grammar function) refl
all_good path h = good grammar tables everything (grammar path) refl
all_good parameters h = good grammar tables everything (grammar parameters) refl
all_good block h = good grammar tables everything (grammar block) refl
all_good statement h = (refl, (refl, (refl, (refl, (refl, (refl, refl, inr crosses), inl refl), inl refl), inl refl), inl refl), inl refl)
all_good let_statement h = good grammar tables everything (grammar let_statement) refl
all_good if_statement h = good grammar tables everything (grammar if_statement) refl
all_good for_statement h = good grammar tables everything (grammar for_statement) refl
all_good return_statement h = good grammar tables everything (grammar return_statement) refl
all_good throw_statement h = good grammar tables everything (grammar throw_statement) refl
all_good assignment h = good grammar tables everything (grammar assignment) refl
all_good evaluation h = good grammar tables everything (grammar evaluation) refl
all_good expression h = good grammar tables everything (grammar expression) refl
all_good conjunction h = good grammar tables everything (grammar conjunction) refl
all_good comparison h = good grammar tables everything (grammar comparison) refl
all_good sum h = good grammar tables everything (grammar sum) refl
all_good term h = good grammar tables everything (grammar term) refl
all_good unary h = good grammar tables everything (grammar unary) refl
all_good postfix h = good grammar tables everything (grammar postfix) refl
all_good suffix h = good grammar tables everything (grammar suffix) refl
all_good primary h = good grammar tables everything (grammar primary) refl
all_good named h = good grammar tables everything (grammar named) refl
all_good builtin_call h = good grammar tables everything (grammar builtin_call) refl
all_good array h = good grammar tables everything (grammar array) refl
all_good object h = good grammar tables everything (grammar object) refl
all_good entry h = good grammar tables everything (grammar entry) refl
all_good group h = good grammar tables everything (grammar group) refl
all_good scan h = good grammar tables everything (grammar scan) refl
all_good bound h = good grammar tables everything (grammar bound) refl
all_good count h = good grammar tables everything (grammar count) refl
all_good lookup h = good grammar tables everything (grammar lookup) refl
all_good moment h = good grammar tables everything (grammar moment) refl
all_good insertion h = good grammar tables everything (grammar insertion) refl
all_good change h = good grammar tables everything (grammar change) refl

-- the whole language
pub language : Decided grammar tables everything
language = record { sound = sound; after = after_in; decided = all_good }

-- parts that one token tells apart don't clash
pub clear : (p q : Prod) → decided tables everything p ≡ true → Apart tables p q → NoClash grammar p q
clear p q h d = no_clash language (good grammar tables everything p h) d

-- a text of the language has one tree
pub one_parse : {i : Rule} {a b : Parse} {ts r : List Lexeme} → Takes grammar (rule i) a ts r → Takes grammar (rule i) b ts r → a ≡ b
one_parse t u = one_tree language all_single refl refl t u
