-- The tables of the language: what may be nothing, what begins each production, and what goes on a text of it.
use Rattle.std.proofs.Common.{◌≡◌, Bool, true, false, refl}
use Rattle.fn_tree.specs.Language.{grammar}
use Rattle.fn_tree.specs.Rules.{Rule, whole_module, table, index, function, path, parameters, block, statement, let_statement, if_statement, for_statement, return_statement, throw_statement, assignment, evaluation, expression, conjunction, comparison, sum, term, unary, postfix, suffix, primary, named, builtin_call, array, object, entry, group, scan, bound, count, lookup, moment, insertion, change}
use Rattle.fn_tree.specs.Terminals.{is, is_field_name, is_part, is_entry, is_comparison, is_or, is_and, is_additive, is_multiplicative, is_sign, is_suffix, is_builtin, is_lookup, is_change}
use Rattle.fn_tree.specs.declared.lexeme.Terminal.{Terminal}
use Rattle.fn_tree.specs.declared.lexeme.Terminal.TheVariants.{Name, Integer, Str, Word as ReservedWord, Mark as Punctuation}
use Rattle.fn_tree.specs.declared.lexeme.Word.TheVariants.{Table, Index, Query, Mutation, Helper, Let, If, Else, For, In, Return, Throw, Scan, Desc, Take, Count, Insert, Now}
use Rattle.fn_tree.specs.declared.lexeme.Mark.TheVariants.{OpenBrace, OpenParen, OpenBracket}
use Rattle.fn_tree.proofs.Tokens.{or, no, at_each, implied}
use Rattle.fn_tree.proofs.Tables.{Tables, Sound, nil, starts, follows}
use Rattle.fn_tree.proofs.Follows.{single}

-- what begins a primary expression
abbrev pub begins_primary : Terminal → Bool
begins_primary Name = true
begins_primary Integer = true
begins_primary Str = true
begins_primary (ReservedWord Table) = false
begins_primary (ReservedWord Index) = false
begins_primary (ReservedWord Query) = false
begins_primary (ReservedWord Mutation) = false
begins_primary (ReservedWord Helper) = false
begins_primary (ReservedWord Let) = false
begins_primary (ReservedWord If) = false
begins_primary (ReservedWord Else) = false
begins_primary (ReservedWord For) = false
begins_primary (ReservedWord In) = false
begins_primary (ReservedWord Return) = false
begins_primary (ReservedWord Throw) = false
begins_primary (ReservedWord Desc) = false
begins_primary (ReservedWord Take) = false
begins_primary (ReservedWord w) = true
begins_primary (Punctuation OpenBrace) = true
begins_primary (Punctuation OpenParen) = true
begins_primary (Punctuation OpenBracket) = true
begins_primary (Punctuation m) = false

abbrev pub begins_expression : Terminal → Bool
begins_expression k = or (is_sign k) (begins_primary k)

abbrev pub begins_function : Terminal → Bool
begins_function k = or (is_entry k) (is (ReservedWord Helper) k)

abbrev pub begins_statement : Terminal → Bool
begins_statement (ReservedWord Let) = true
begins_statement (ReservedWord If) = true
begins_statement (ReservedWord For) = true
begins_statement (ReservedWord Return) = true
begins_statement (ReservedWord Throw) = true
begins_statement k = begins_expression k

-- what goes on a primary expression: the arguments of a name, the ends of a scan
abbrev pub goes_on_primary : Terminal → Bool
goes_on_primary (Punctuation OpenParen) = true
goes_on_primary (ReservedWord Desc) = true
goes_on_primary (ReservedWord Take) = true
goes_on_primary k = false

abbrev pub goes_on_unary : Terminal → Bool
goes_on_unary k = or (is_suffix k) (goes_on_primary k)

abbrev pub goes_on_term : Terminal → Bool
goes_on_term k = or (is_multiplicative k) (goes_on_unary k)

abbrev pub goes_on_sum : Terminal → Bool
goes_on_sum k = or (is_additive k) (goes_on_term k)

abbrev pub goes_on_comparison : Terminal → Bool
goes_on_comparison k = or (is_comparison k) (goes_on_sum k)

abbrev pub goes_on_conjunction : Terminal → Bool
goes_on_conjunction k = or (is_and k) (goes_on_comparison k)

abbrev pub goes_on_expression : Terminal → Bool
goes_on_expression k = or (is_or k) (goes_on_conjunction k)

abbrev pub never : Terminal → Bool
never k = false

abbrev pub nils : Rule → Bool
nils whole_module = true
nils i = false

abbrev pub firsts : Rule → Terminal → Bool
firsts whole_module k = or (is (ReservedWord Table) k) (begins_function k)
firsts table k = is (ReservedWord Table) k
firsts index k = is (ReservedWord Index) k
firsts function k = begins_function k
firsts path k = is_part k
firsts parameters k = is (Punctuation OpenParen) k
firsts block k = is (Punctuation OpenBrace) k
firsts statement k = begins_statement k
firsts let_statement k = is (ReservedWord Let) k
firsts if_statement k = is (ReservedWord If) k
firsts for_statement k = is (ReservedWord For) k
firsts return_statement k = is (ReservedWord Return) k
firsts throw_statement k = is (ReservedWord Throw) k
firsts assignment k = is Name k
firsts evaluation k = begins_expression k
firsts expression k = begins_expression k
firsts conjunction k = begins_expression k
firsts comparison k = begins_expression k
firsts sum k = begins_expression k
firsts term k = begins_expression k
firsts unary k = begins_expression k
firsts postfix k = begins_primary k
firsts suffix k = is_suffix k
firsts primary k = begins_primary k
firsts named k = is Name k
firsts builtin_call k = is_builtin k
firsts array k = is (Punctuation OpenBracket) k
firsts object k = is (Punctuation OpenBrace) k
firsts entry k = is_field_name k
firsts group k = is (Punctuation OpenParen) k
firsts scan k = is (ReservedWord Scan) k
firsts bound k = is_field_name k
firsts count k = is (ReservedWord Count) k
firsts lookup k = is_lookup k
firsts moment k = is (ReservedWord Now) k
firsts insertion k = is (ReservedWord Insert) k
firsts change k = is_change k

abbrev pub afters : Rule → Terminal → Bool
afters whole_module k = or (is (ReservedWord Table) k) (begins_function k)
afters statement k = is (ReservedWord Else) k
afters if_statement k = is (ReservedWord Else) k
afters expression k = goes_on_expression k
afters conjunction k = goes_on_conjunction k
afters comparison k = goes_on_comparison k
afters sum k = goes_on_sum k
afters term k = goes_on_term k
afters unary k = goes_on_unary k
afters postfix k = goes_on_unary k
afters primary k = goes_on_primary k
afters named k = is (Punctuation OpenParen) k
afters scan k = goes_on_primary k
afters entry k = goes_on_expression k
afters bound k = goes_on_expression k
afters i k = false

abbrev pub tables : Tables
tables = record { nil = nils; first = firsts; after = afters }

sound_nil : (i : Rule) → nil tables (grammar i) ≡ true → nils i ≡ true
sound_nil whole_module h = h
sound_nil table h = h
sound_nil index h = h
sound_nil function h = h
sound_nil path h = h
sound_nil parameters h = h
sound_nil block h = h
sound_nil statement h = h
sound_nil let_statement h = h
sound_nil if_statement h = h
sound_nil for_statement h = h
sound_nil return_statement h = h
sound_nil throw_statement h = h
sound_nil assignment h = h
sound_nil evaluation h = h
sound_nil expression h = h
sound_nil conjunction h = h
sound_nil comparison h = h
sound_nil sum h = h
sound_nil term h = h
sound_nil unary h = h
sound_nil postfix h = h
sound_nil suffix h = h
sound_nil primary h = h
sound_nil named h = h
sound_nil builtin_call h = h
sound_nil array h = h
sound_nil object h = h
sound_nil entry h = h
sound_nil group h = h
sound_nil scan h = h
sound_nil bound h = h
sound_nil count h = h
sound_nil lookup h = h
sound_nil moment h = h
sound_nil insertion h = h
sound_nil change h = h

sound_first : (i : Rule) (k : Terminal) → starts tables (grammar i) k ≡ true → firsts i k ≡ true
sound_first whole_module k = implied (starts tables (grammar whole_module) k) (firsts whole_module k) (at_each (λ k. or (no (starts tables (grammar whole_module) k)) (firsts whole_module k)) refl k)
sound_first table k = implied (starts tables (grammar table) k) (firsts table k) (at_each (λ k. or (no (starts tables (grammar table) k)) (firsts table k)) refl k)
sound_first index k = implied (starts tables (grammar index) k) (firsts index k) (at_each (λ k. or (no (starts tables (grammar index) k)) (firsts index k)) refl k)
sound_first function k = implied (starts tables (grammar function) k) (firsts function k) (at_each (λ k. or (no (starts tables (grammar function) k)) (firsts function k)) refl k)
sound_first path k = implied (starts tables (grammar path) k) (firsts path k) (at_each (λ k. or (no (starts tables (grammar path) k)) (firsts path k)) refl k)
sound_first parameters k = implied (starts tables (grammar parameters) k) (firsts parameters k) (at_each (λ k. or (no (starts tables (grammar parameters) k)) (firsts parameters k)) refl k)
sound_first block k = implied (starts tables (grammar block) k) (firsts block k) (at_each (λ k. or (no (starts tables (grammar block) k)) (firsts block k)) refl k)
sound_first statement k = implied (starts tables (grammar statement) k) (firsts statement k) (at_each (λ k. or (no (starts tables (grammar statement) k)) (firsts statement k)) refl k)
sound_first let_statement k = implied (starts tables (grammar let_statement) k) (firsts let_statement k) (at_each (λ k. or (no (starts tables (grammar let_statement) k)) (firsts let_statement k)) refl k)
sound_first if_statement k = implied (starts tables (grammar if_statement) k) (firsts if_statement k) (at_each (λ k. or (no (starts tables (grammar if_statement) k)) (firsts if_statement k)) refl k)
sound_first for_statement k = implied (starts tables (grammar for_statement) k) (firsts for_statement k) (at_each (λ k. or (no (starts tables (grammar for_statement) k)) (firsts for_statement k)) refl k)
sound_first return_statement k = implied (starts tables (grammar return_statement) k) (firsts return_statement k) (at_each (λ k. or (no (starts tables (grammar return_statement) k)) (firsts return_statement k)) refl k)
sound_first throw_statement k = implied (starts tables (grammar throw_statement) k) (firsts throw_statement k) (at_each (λ k. or (no (starts tables (grammar throw_statement) k)) (firsts throw_statement k)) refl k)
sound_first assignment k = implied (starts tables (grammar assignment) k) (firsts assignment k) (at_each (λ k. or (no (starts tables (grammar assignment) k)) (firsts assignment k)) refl k)
sound_first evaluation k = implied (starts tables (grammar evaluation) k) (firsts evaluation k) (at_each (λ k. or (no (starts tables (grammar evaluation) k)) (firsts evaluation k)) refl k)
sound_first expression k = implied (starts tables (grammar expression) k) (firsts expression k) (at_each (λ k. or (no (starts tables (grammar expression) k)) (firsts expression k)) refl k)
sound_first conjunction k = implied (starts tables (grammar conjunction) k) (firsts conjunction k) (at_each (λ k. or (no (starts tables (grammar conjunction) k)) (firsts conjunction k)) refl k)
sound_first comparison k = implied (starts tables (grammar comparison) k) (firsts comparison k) (at_each (λ k. or (no (starts tables (grammar comparison) k)) (firsts comparison k)) refl k)
sound_first sum k = implied (starts tables (grammar sum) k) (firsts sum k) (at_each (λ k. or (no (starts tables (grammar sum) k)) (firsts sum k)) refl k)
sound_first term k = implied (starts tables (grammar term) k) (firsts term k) (at_each (λ k. or (no (starts tables (grammar term) k)) (firsts term k)) refl k)
sound_first unary k = implied (starts tables (grammar unary) k) (firsts unary k) (at_each (λ k. or (no (starts tables (grammar unary) k)) (firsts unary k)) refl k)
sound_first postfix k = implied (starts tables (grammar postfix) k) (firsts postfix k) (at_each (λ k. or (no (starts tables (grammar postfix) k)) (firsts postfix k)) refl k)
sound_first suffix k = implied (starts tables (grammar suffix) k) (firsts suffix k) (at_each (λ k. or (no (starts tables (grammar suffix) k)) (firsts suffix k)) refl k)
sound_first primary k = implied (starts tables (grammar primary) k) (firsts primary k) (at_each (λ k. or (no (starts tables (grammar primary) k)) (firsts primary k)) refl k)
sound_first named k = implied (starts tables (grammar named) k) (firsts named k) (at_each (λ k. or (no (starts tables (grammar named) k)) (firsts named k)) refl k)
sound_first builtin_call k = implied (starts tables (grammar builtin_call) k) (firsts builtin_call k) (at_each (λ k. or (no (starts tables (grammar builtin_call) k)) (firsts builtin_call k)) refl k)
sound_first array k = implied (starts tables (grammar array) k) (firsts array k) (at_each (λ k. or (no (starts tables (grammar array) k)) (firsts array k)) refl k)
sound_first object k = implied (starts tables (grammar object) k) (firsts object k) (at_each (λ k. or (no (starts tables (grammar object) k)) (firsts object k)) refl k)
sound_first entry k = implied (starts tables (grammar entry) k) (firsts entry k) (at_each (λ k. or (no (starts tables (grammar entry) k)) (firsts entry k)) refl k)
sound_first group k = implied (starts tables (grammar group) k) (firsts group k) (at_each (λ k. or (no (starts tables (grammar group) k)) (firsts group k)) refl k)
sound_first scan k = implied (starts tables (grammar scan) k) (firsts scan k) (at_each (λ k. or (no (starts tables (grammar scan) k)) (firsts scan k)) refl k)
sound_first bound k = implied (starts tables (grammar bound) k) (firsts bound k) (at_each (λ k. or (no (starts tables (grammar bound) k)) (firsts bound k)) refl k)
sound_first count k = implied (starts tables (grammar count) k) (firsts count k) (at_each (λ k. or (no (starts tables (grammar count) k)) (firsts count k)) refl k)
sound_first lookup k = implied (starts tables (grammar lookup) k) (firsts lookup k) (at_each (λ k. or (no (starts tables (grammar lookup) k)) (firsts lookup k)) refl k)
sound_first moment k = implied (starts tables (grammar moment) k) (firsts moment k) (at_each (λ k. or (no (starts tables (grammar moment) k)) (firsts moment k)) refl k)
sound_first insertion k = implied (starts tables (grammar insertion) k) (firsts insertion k) (at_each (λ k. or (no (starts tables (grammar insertion) k)) (firsts insertion k)) refl k)
sound_first change k = implied (starts tables (grammar change) k) (firsts change k) (at_each (λ k. or (no (starts tables (grammar change) k)) (firsts change k)) refl k)

pub sound : Sound grammar tables
sound = record { nil = sound_nil; first = sound_first }

pub after_in : (i : Rule) (k : Terminal) → follows tables (grammar i) k ≡ true → afters i k ≡ true
after_in whole_module k = implied (follows tables (grammar whole_module) k) (afters whole_module k) (at_each (λ k. or (no (follows tables (grammar whole_module) k)) (afters whole_module k)) refl k)
after_in table k = implied (follows tables (grammar table) k) (afters table k) (at_each (λ k. or (no (follows tables (grammar table) k)) (afters table k)) refl k)
after_in index k = implied (follows tables (grammar index) k) (afters index k) (at_each (λ k. or (no (follows tables (grammar index) k)) (afters index k)) refl k)
after_in function k = implied (follows tables (grammar function) k) (afters function k) (at_each (λ k. or (no (follows tables (grammar function) k)) (afters function k)) refl k)
after_in path k = implied (follows tables (grammar path) k) (afters path k) (at_each (λ k. or (no (follows tables (grammar path) k)) (afters path k)) refl k)
after_in parameters k = implied (follows tables (grammar parameters) k) (afters parameters k) (at_each (λ k. or (no (follows tables (grammar parameters) k)) (afters parameters k)) refl k)
after_in block k = implied (follows tables (grammar block) k) (afters block k) (at_each (λ k. or (no (follows tables (grammar block) k)) (afters block k)) refl k)
after_in statement k = implied (follows tables (grammar statement) k) (afters statement k) (at_each (λ k. or (no (follows tables (grammar statement) k)) (afters statement k)) refl k)
after_in let_statement k = implied (follows tables (grammar let_statement) k) (afters let_statement k) (at_each (λ k. or (no (follows tables (grammar let_statement) k)) (afters let_statement k)) refl k)
after_in if_statement k = implied (follows tables (grammar if_statement) k) (afters if_statement k) (at_each (λ k. or (no (follows tables (grammar if_statement) k)) (afters if_statement k)) refl k)
after_in for_statement k = implied (follows tables (grammar for_statement) k) (afters for_statement k) (at_each (λ k. or (no (follows tables (grammar for_statement) k)) (afters for_statement k)) refl k)
after_in return_statement k = implied (follows tables (grammar return_statement) k) (afters return_statement k) (at_each (λ k. or (no (follows tables (grammar return_statement) k)) (afters return_statement k)) refl k)
after_in throw_statement k = implied (follows tables (grammar throw_statement) k) (afters throw_statement k) (at_each (λ k. or (no (follows tables (grammar throw_statement) k)) (afters throw_statement k)) refl k)
after_in assignment k = implied (follows tables (grammar assignment) k) (afters assignment k) (at_each (λ k. or (no (follows tables (grammar assignment) k)) (afters assignment k)) refl k)
after_in evaluation k = implied (follows tables (grammar evaluation) k) (afters evaluation k) (at_each (λ k. or (no (follows tables (grammar evaluation) k)) (afters evaluation k)) refl k)
after_in expression k = implied (follows tables (grammar expression) k) (afters expression k) (at_each (λ k. or (no (follows tables (grammar expression) k)) (afters expression k)) refl k)
after_in conjunction k = implied (follows tables (grammar conjunction) k) (afters conjunction k) (at_each (λ k. or (no (follows tables (grammar conjunction) k)) (afters conjunction k)) refl k)
after_in comparison k = implied (follows tables (grammar comparison) k) (afters comparison k) (at_each (λ k. or (no (follows tables (grammar comparison) k)) (afters comparison k)) refl k)
after_in sum k = implied (follows tables (grammar sum) k) (afters sum k) (at_each (λ k. or (no (follows tables (grammar sum) k)) (afters sum k)) refl k)
after_in term k = implied (follows tables (grammar term) k) (afters term k) (at_each (λ k. or (no (follows tables (grammar term) k)) (afters term k)) refl k)
after_in unary k = implied (follows tables (grammar unary) k) (afters unary k) (at_each (λ k. or (no (follows tables (grammar unary) k)) (afters unary k)) refl k)
after_in postfix k = implied (follows tables (grammar postfix) k) (afters postfix k) (at_each (λ k. or (no (follows tables (grammar postfix) k)) (afters postfix k)) refl k)
after_in suffix k = implied (follows tables (grammar suffix) k) (afters suffix k) (at_each (λ k. or (no (follows tables (grammar suffix) k)) (afters suffix k)) refl k)
after_in primary k = implied (follows tables (grammar primary) k) (afters primary k) (at_each (λ k. or (no (follows tables (grammar primary) k)) (afters primary k)) refl k)
after_in named k = implied (follows tables (grammar named) k) (afters named k) (at_each (λ k. or (no (follows tables (grammar named) k)) (afters named k)) refl k)
after_in builtin_call k = implied (follows tables (grammar builtin_call) k) (afters builtin_call k) (at_each (λ k. or (no (follows tables (grammar builtin_call) k)) (afters builtin_call k)) refl k)
after_in array k = implied (follows tables (grammar array) k) (afters array k) (at_each (λ k. or (no (follows tables (grammar array) k)) (afters array k)) refl k)
after_in object k = implied (follows tables (grammar object) k) (afters object k) (at_each (λ k. or (no (follows tables (grammar object) k)) (afters object k)) refl k)
after_in entry k = implied (follows tables (grammar entry) k) (afters entry k) (at_each (λ k. or (no (follows tables (grammar entry) k)) (afters entry k)) refl k)
after_in group k = implied (follows tables (grammar group) k) (afters group k) (at_each (λ k. or (no (follows tables (grammar group) k)) (afters group k)) refl k)
after_in scan k = implied (follows tables (grammar scan) k) (afters scan k) (at_each (λ k. or (no (follows tables (grammar scan) k)) (afters scan k)) refl k)
after_in bound k = implied (follows tables (grammar bound) k) (afters bound k) (at_each (λ k. or (no (follows tables (grammar bound) k)) (afters bound k)) refl k)
after_in count k = implied (follows tables (grammar count) k) (afters count k) (at_each (λ k. or (no (follows tables (grammar count) k)) (afters count k)) refl k)
after_in lookup k = implied (follows tables (grammar lookup) k) (afters lookup k) (at_each (λ k. or (no (follows tables (grammar lookup) k)) (afters lookup k)) refl k)
after_in moment k = implied (follows tables (grammar moment) k) (afters moment k) (at_each (λ k. or (no (follows tables (grammar moment) k)) (afters moment k)) refl k)
after_in insertion k = implied (follows tables (grammar insertion) k) (afters insertion k) (at_each (λ k. or (no (follows tables (grammar insertion) k)) (afters insertion k)) refl k)
after_in change k = implied (follows tables (grammar change) k) (afters change k) (at_each (λ k. or (no (follows tables (grammar change) k)) (afters change k)) refl k)

-- no two alternatives may both be nothing
pub all_single : (i : Rule) → single tables (grammar i) ≡ true
all_single whole_module = refl
all_single table = refl
all_single index = refl
all_single function = refl
all_single path = refl
all_single parameters = refl
all_single block = refl
all_single statement = refl
all_single let_statement = refl
all_single if_statement = refl
all_single for_statement = refl
all_single return_statement = refl
all_single throw_statement = refl
all_single assignment = refl
all_single evaluation = refl
all_single expression = refl
all_single conjunction = refl
all_single comparison = refl
all_single sum = refl
all_single term = refl
all_single unary = refl
all_single postfix = refl
all_single suffix = refl
all_single primary = refl
all_single named = refl
all_single builtin_call = refl
all_single array = refl
all_single object = refl
all_single entry = refl
all_single group = refl
all_single scan = refl
all_single bound = refl
all_single count = refl
all_single lookup = refl
all_single moment = refl
all_single insertion = refl
all_single change = refl
