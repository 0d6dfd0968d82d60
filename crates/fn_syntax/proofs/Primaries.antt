-- Which alternative of a primary expression the next token begins.
use Rattle.std.proofs.Common.{ℕ, List, [], ◌∷◌, ◌≡◌, refl, subst, Bool, true, false, Option, Some, None, nat_eq, is_none}
use Rattle.std.proofs.lemmas.Bool.{eq-eqb}
use Rattle.fn_tree.specs.Fronts.{Fails}
use Rattle.fn_tree.specs.Grammar.{Prod, token, alt, rule, in_left, in_right}
use Rattle.fn_tree.specs.Language.{grammar}
use Rattle.fn_tree.specs.Rules.{primary, named, builtin_call, array, object, group, scan, count, lookup, moment, insertion, change}
use Rattle.fn_tree.specs.Terminals.{is_literal}
use Rattle.fn_tree.specs.declared.lexeme.Lexeme.{Lexeme}
use Rattle.fn_tree.specs.declared.lexeme.Terminal.{Terminal}
use Rattle.fn_tree.proofs.LanguageTables.{tables, begins_primary}
use Rattle.fn_tree.proofs.Tables.{starts}
use Rattle.fn_tree.proofs.Tokens.{or, no, each, at_each, implied, not_true}
use Rattle.fn_syntax.specs.Primaries.{primary_of, next_primary}
use Rattle.fn_syntax.specs.declared.parser.primary.PrimaryKind.{PrimaryKind}
use Rattle.fn_syntax.specs.declared.parser.primary.PrimaryKind.TheVariants.{Literal, Named, Builtin, Array, Object, Group, Scan, Count, Lookup, Moment, Insertion, Change}
use Rattle.fn_syntax.proofs.Descent.{Makes, makes_on, makes_call, makes_left, makes_right, shut, shut_end}

abbrev kind_number : PrimaryKind → ℕ
kind_number Literal = 0
kind_number Named = 1
kind_number Builtin = 2
kind_number Array = 3
kind_number Object = 4
kind_number Group = 5
kind_number Scan = 6
kind_number Count = 7
kind_number Lookup = 8
kind_number Moment = 9
kind_number Insertion = 10
kind_number Change = 11

abbrev is_kind : PrimaryKind → Option PrimaryKind → Bool
is_kind k None = false
is_kind k (Some j) = nat_eq (kind_number k) (kind_number j)

is_itself : (k : PrimaryKind) (o : Option PrimaryKind) → Some k ≡ o → is_kind k o ≡ true
is_itself k o e = subst (λ (x : Option PrimaryKind). is_kind k x ≡ true) e (eq-eqb (kind_number k) (kind_number k) refl)

-- a token of one kind begins no production of another
told : (k : PrimaryKind) (p : Prod) → each (λ t. or (no (is_kind k (primary_of t))) (no (starts tables p t))) ≡ true → (t : Terminal) → Some k ≡ primary_of t → starts tables p t ≡ false
told k p h t e = not_true (starts tables p t) (implied (is_kind k (primary_of t)) (no (starts tables p t)) (at_each (λ t. or (no (is_kind k (primary_of t))) (no (starts tables p t))) h t) (is_itself k (primary_of t) e))

none_here : (t : Terminal) → None ≡ primary_of t → begins_primary t ≡ false
none_here t e = not_true (begins_primary t) (implied (is_none (primary_of t)) (no (begins_primary t)) (at_each (λ t. or (no (is_none (primary_of t))) (no (begins_primary t))) refl t) (subst (λ (x : Option PrimaryKind). is_none x ≡ true) e refl))

-- no primary expression begins here
pub no_primary : (ts : List Lexeme) → None ≡ next_primary ts → Fails grammar (rule primary) ts ts
no_primary [] e = shut_end refl
no_primary (c ∷ ts) e = shut (none_here c.terminal e) refl

pub makes_Literal : (ts : List Lexeme) → Some Literal ≡ next_primary ts → Makes (rule primary) (λ a. in_left a) ts (token is_literal) ts
makes_Literal [] e = absurd (cc)
makes_Literal (c ∷ ts) e = makes_on (makes_call primary) (makes_left (told Literal (alt (rule named) (alt (rule builtin_call) (alt (rule array) (alt (rule object) (alt (rule group) (alt (rule scan) (alt (rule count) (alt (rule lookup) (alt (rule moment) (alt (rule insertion) (rule change))))))))))) refl c.terminal e) refl)

pub makes_Named : (ts : List Lexeme) → Some Named ≡ next_primary ts → Makes (rule primary) (λ a. in_right (in_left a)) ts (rule named) ts
makes_Named [] e = absurd (cc)
makes_Named (c ∷ ts) e = makes_on (makes_call primary) (makes_on (makes_right (told Named (token is_literal) refl c.terminal e) refl) (makes_left (told Named (alt (rule builtin_call) (alt (rule array) (alt (rule object) (alt (rule group) (alt (rule scan) (alt (rule count) (alt (rule lookup) (alt (rule moment) (alt (rule insertion) (rule change)))))))))) refl c.terminal e) refl))

pub makes_Builtin : (ts : List Lexeme) → Some Builtin ≡ next_primary ts → Makes (rule primary) (λ a. in_right (in_right (in_left a))) ts (rule builtin_call) ts
makes_Builtin [] e = absurd (cc)
makes_Builtin (c ∷ ts) e = makes_on (makes_call primary) (makes_on (makes_right (told Builtin (token is_literal) refl c.terminal e) refl) (makes_on (makes_right (told Builtin (rule named) refl c.terminal e) refl) (makes_left (told Builtin (alt (rule array) (alt (rule object) (alt (rule group) (alt (rule scan) (alt (rule count) (alt (rule lookup) (alt (rule moment) (alt (rule insertion) (rule change))))))))) refl c.terminal e) refl)))

pub makes_Array : (ts : List Lexeme) → Some Array ≡ next_primary ts → Makes (rule primary) (λ a. in_right (in_right (in_right (in_left a)))) ts (rule array) ts
makes_Array [] e = absurd (cc)
makes_Array (c ∷ ts) e = makes_on (makes_call primary) (makes_on (makes_right (told Array (token is_literal) refl c.terminal e) refl) (makes_on (makes_right (told Array (rule named) refl c.terminal e) refl) (makes_on (makes_right (told Array (rule builtin_call) refl c.terminal e) refl) (makes_left (told Array (alt (rule object) (alt (rule group) (alt (rule scan) (alt (rule count) (alt (rule lookup) (alt (rule moment) (alt (rule insertion) (rule change)))))))) refl c.terminal e) refl))))

pub makes_Object : (ts : List Lexeme) → Some Object ≡ next_primary ts → Makes (rule primary) (λ a. in_right (in_right (in_right (in_right (in_left a))))) ts (rule object) ts
makes_Object [] e = absurd (cc)
makes_Object (c ∷ ts) e = makes_on (makes_call primary) (makes_on (makes_right (told Object (token is_literal) refl c.terminal e) refl) (makes_on (makes_right (told Object (rule named) refl c.terminal e) refl) (makes_on (makes_right (told Object (rule builtin_call) refl c.terminal e) refl) (makes_on (makes_right (told Object (rule array) refl c.terminal e) refl) (makes_left (told Object (alt (rule group) (alt (rule scan) (alt (rule count) (alt (rule lookup) (alt (rule moment) (alt (rule insertion) (rule change))))))) refl c.terminal e) refl)))))

pub makes_Group : (ts : List Lexeme) → Some Group ≡ next_primary ts → Makes (rule primary) (λ a. in_right (in_right (in_right (in_right (in_right (in_left a)))))) ts (rule group) ts
makes_Group [] e = absurd (cc)
makes_Group (c ∷ ts) e = makes_on (makes_call primary) (makes_on (makes_right (told Group (token is_literal) refl c.terminal e) refl) (makes_on (makes_right (told Group (rule named) refl c.terminal e) refl) (makes_on (makes_right (told Group (rule builtin_call) refl c.terminal e) refl) (makes_on (makes_right (told Group (rule array) refl c.terminal e) refl) (makes_on (makes_right (told Group (rule object) refl c.terminal e) refl) (makes_left (told Group (alt (rule scan) (alt (rule count) (alt (rule lookup) (alt (rule moment) (alt (rule insertion) (rule change)))))) refl c.terminal e) refl))))))

pub makes_Scan : (ts : List Lexeme) → Some Scan ≡ next_primary ts → Makes (rule primary) (λ a. in_right (in_right (in_right (in_right (in_right (in_right (in_left a))))))) ts (rule scan) ts
makes_Scan [] e = absurd (cc)
makes_Scan (c ∷ ts) e = makes_on (makes_call primary) (makes_on (makes_right (told Scan (token is_literal) refl c.terminal e) refl) (makes_on (makes_right (told Scan (rule named) refl c.terminal e) refl) (makes_on (makes_right (told Scan (rule builtin_call) refl c.terminal e) refl) (makes_on (makes_right (told Scan (rule array) refl c.terminal e) refl) (makes_on (makes_right (told Scan (rule object) refl c.terminal e) refl) (makes_on (makes_right (told Scan (rule group) refl c.terminal e) refl) (makes_left (told Scan (alt (rule count) (alt (rule lookup) (alt (rule moment) (alt (rule insertion) (rule change))))) refl c.terminal e) refl)))))))

pub makes_Count : (ts : List Lexeme) → Some Count ≡ next_primary ts → Makes (rule primary) (λ a. in_right (in_right (in_right (in_right (in_right (in_right (in_right (in_left a)))))))) ts (rule count) ts
makes_Count [] e = absurd (cc)
makes_Count (c ∷ ts) e = makes_on (makes_call primary) (makes_on (makes_right (told Count (token is_literal) refl c.terminal e) refl) (makes_on (makes_right (told Count (rule named) refl c.terminal e) refl) (makes_on (makes_right (told Count (rule builtin_call) refl c.terminal e) refl) (makes_on (makes_right (told Count (rule array) refl c.terminal e) refl) (makes_on (makes_right (told Count (rule object) refl c.terminal e) refl) (makes_on (makes_right (told Count (rule group) refl c.terminal e) refl) (makes_on (makes_right (told Count (rule scan) refl c.terminal e) refl) (makes_left (told Count (alt (rule lookup) (alt (rule moment) (alt (rule insertion) (rule change)))) refl c.terminal e) refl))))))))

pub makes_Lookup : (ts : List Lexeme) → Some Lookup ≡ next_primary ts → Makes (rule primary) (λ a. in_right (in_right (in_right (in_right (in_right (in_right (in_right (in_right (in_left a))))))))) ts (rule lookup) ts
makes_Lookup [] e = absurd (cc)
makes_Lookup (c ∷ ts) e = makes_on (makes_call primary) (makes_on (makes_right (told Lookup (token is_literal) refl c.terminal e) refl) (makes_on (makes_right (told Lookup (rule named) refl c.terminal e) refl) (makes_on (makes_right (told Lookup (rule builtin_call) refl c.terminal e) refl) (makes_on (makes_right (told Lookup (rule array) refl c.terminal e) refl) (makes_on (makes_right (told Lookup (rule object) refl c.terminal e) refl) (makes_on (makes_right (told Lookup (rule group) refl c.terminal e) refl) (makes_on (makes_right (told Lookup (rule scan) refl c.terminal e) refl) (makes_on (makes_right (told Lookup (rule count) refl c.terminal e) refl) (makes_left (told Lookup (alt (rule moment) (alt (rule insertion) (rule change))) refl c.terminal e) refl)))))))))

pub makes_Moment : (ts : List Lexeme) → Some Moment ≡ next_primary ts → Makes (rule primary) (λ a. in_right (in_right (in_right (in_right (in_right (in_right (in_right (in_right (in_right (in_left a)))))))))) ts (rule moment) ts
makes_Moment [] e = absurd (cc)
makes_Moment (c ∷ ts) e = makes_on (makes_call primary) (makes_on (makes_right (told Moment (token is_literal) refl c.terminal e) refl) (makes_on (makes_right (told Moment (rule named) refl c.terminal e) refl) (makes_on (makes_right (told Moment (rule builtin_call) refl c.terminal e) refl) (makes_on (makes_right (told Moment (rule array) refl c.terminal e) refl) (makes_on (makes_right (told Moment (rule object) refl c.terminal e) refl) (makes_on (makes_right (told Moment (rule group) refl c.terminal e) refl) (makes_on (makes_right (told Moment (rule scan) refl c.terminal e) refl) (makes_on (makes_right (told Moment (rule count) refl c.terminal e) refl) (makes_on (makes_right (told Moment (rule lookup) refl c.terminal e) refl) (makes_left (told Moment (alt (rule insertion) (rule change)) refl c.terminal e) refl))))))))))

pub makes_Insertion : (ts : List Lexeme) → Some Insertion ≡ next_primary ts → Makes (rule primary) (λ a. in_right (in_right (in_right (in_right (in_right (in_right (in_right (in_right (in_right (in_right (in_left a))))))))))) ts (rule insertion) ts
makes_Insertion [] e = absurd (cc)
makes_Insertion (c ∷ ts) e = makes_on (makes_call primary) (makes_on (makes_right (told Insertion (token is_literal) refl c.terminal e) refl) (makes_on (makes_right (told Insertion (rule named) refl c.terminal e) refl) (makes_on (makes_right (told Insertion (rule builtin_call) refl c.terminal e) refl) (makes_on (makes_right (told Insertion (rule array) refl c.terminal e) refl) (makes_on (makes_right (told Insertion (rule object) refl c.terminal e) refl) (makes_on (makes_right (told Insertion (rule group) refl c.terminal e) refl) (makes_on (makes_right (told Insertion (rule scan) refl c.terminal e) refl) (makes_on (makes_right (told Insertion (rule count) refl c.terminal e) refl) (makes_on (makes_right (told Insertion (rule lookup) refl c.terminal e) refl) (makes_on (makes_right (told Insertion (rule moment) refl c.terminal e) refl) (makes_left (told Insertion (rule change) refl c.terminal e) refl)))))))))))

pub makes_Change : (ts : List Lexeme) → Some Change ≡ next_primary ts → Makes (rule primary) (λ a. in_right (in_right (in_right (in_right (in_right (in_right (in_right (in_right (in_right (in_right (in_right a))))))))))) ts (rule change) ts
makes_Change [] e = absurd (cc)
makes_Change (c ∷ ts) e = makes_on (makes_call primary) (makes_on (makes_right (told Change (token is_literal) refl c.terminal e) refl) (makes_on (makes_right (told Change (rule named) refl c.terminal e) refl) (makes_on (makes_right (told Change (rule builtin_call) refl c.terminal e) refl) (makes_on (makes_right (told Change (rule array) refl c.terminal e) refl) (makes_on (makes_right (told Change (rule object) refl c.terminal e) refl) (makes_on (makes_right (told Change (rule group) refl c.terminal e) refl) (makes_on (makes_right (told Change (rule scan) refl c.terminal e) refl) (makes_on (makes_right (told Change (rule count) refl c.terminal e) refl) (makes_on (makes_right (told Change (rule lookup) refl c.terminal e) refl) (makes_on (makes_right (told Change (rule moment) refl c.terminal e) refl) (makes_right (told Change (rule insertion) refl c.terminal e) refl)))))))))))
