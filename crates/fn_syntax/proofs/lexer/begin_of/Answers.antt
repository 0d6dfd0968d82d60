-- By the tests of the first byte, in order.
use Rattle.std.proofs.Common.{eq-eqb, sym, ◌∙◌}
use Rattle.fn_syntax.proofs.Lexing.{name_first, integer_first, string_first, blank_first, comment_first, mark_first, nothing_first, other_byte}
use Rattle.fn_syntax.proofs.lexer.begin_of.Goals as goal

pub returns-in_default : goal.returns-in_default
returns-in_default c = nothing_first c.args.bytes.now c.in_default.ensures.cases

pub returns-then-begins_name : goal.returns-then-begins_name
returns-then-begins_name c =
    c.name.ensures ∙ name_first c.args.bytes.now c.in-Some.first.now c.in-Some.rest.now c.in-Some.ensures.cases.0 (sym c.begins_name.ensures ∙ c.if-begins_name.true)

pub returns-then-is_ascii_digit : goal.returns-then-is_ascii_digit
returns-then-is_ascii_digit c =
    c.integer.ensures ∙ integer_first c.args.bytes.now c.in-Some.first.now c.in-Some.rest.now c.in-Some.ensures.cases.0 (sym c.begins_name.ensures ∙ c.if-begins_name.false)
    (sym c.is_ascii_digit.ensures.value ∙ c.if-is_ascii_digit.true)

pub returns-then-first-eq34 : goal.returns-then-first-eq34
returns-then-first-eq34 c =
    c.string.ensures ∙ string_first c.args.bytes.now c.in-Some.first.now c.in-Some.rest.now c.in-Some.ensures.cases.0 (sym c.begins_name.ensures ∙ c.if-begins_name.false)
    (sym c.is_ascii_digit.ensures.value ∙ c.if-is_ascii_digit.false) (eq-eqb c.in-Some.first.now 34 c.if-first-eq34.true)

pub returns-then-is_blank : goal.returns-then-is_blank
returns-then-is_blank c =
    blank_first c.args.bytes.now c.in-Some.first.now c.in-Some.rest.now c.in-Some.ensures.cases.0 (sym c.begins_name.ensures ∙ c.if-begins_name.false)
    (sym c.is_ascii_digit.ensures.value ∙ c.if-is_ascii_digit.false) (other_byte c.in-Some.first.now 34 c.if-first-eq34.false)
    (sym c.is_blank.ensures ∙ c.if-is_blank.true)

pub returns-then-starts_with : goal.returns-then-starts_with
returns-then-starts_with c =
    c.comment.ensures ∙ comment_first c.args.bytes.now c.in-Some.first.now c.in-Some.rest.now c.in-Some.ensures.cases.0 (sym c.begins_name.ensures ∙ c.if-begins_name.false)
    (sym c.is_ascii_digit.ensures.value ∙ c.if-is_ascii_digit.false) (other_byte c.in-Some.first.now 34 c.if-first-eq34.false)
    (sym c.is_blank.ensures ∙ c.if-is_blank.false) (sym c.starts_with.ensures.value ∙ c.if-starts_with.true)

pub returns-else-starts_with : goal.returns-else-starts_with
returns-else-starts_with c =
    c.mark.ensures ∙ mark_first c.args.bytes.now c.in-Some.first.now c.in-Some.rest.now c.in-Some.ensures.cases.0 (sym c.begins_name.ensures ∙ c.if-begins_name.false)
    (sym c.is_ascii_digit.ensures.value ∙ c.if-is_ascii_digit.false) (other_byte c.in-Some.first.now 34 c.if-first-eq34.false)
    (sym c.is_blank.ensures ∙ c.if-is_blank.false) (sym c.starts_with.ensures.value ∙ c.if-starts_with.false)
