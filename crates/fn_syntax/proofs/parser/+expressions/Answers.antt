use Rattle.std.proofs.Common.{rules, ◌≡◌, refl, sym, ap, ◌∙◌}
use Rattle.fn_tree.specs.Grammar.{pair, leaf, none, in_left, in_right}
use Rattle.fn_tree.specs.Grammar.Reads.{in_first}
use Rattle.fn_tree.specs.Rules as rule
use Rattle.fn_tree.specs.ParseTrees.{at_of}
use Rattle.fn_tree.specs.SyntaxTree as plain
use Rattle.fn_tree.specs.SyntaxViews.{expr_view}
use Rattle.fn_tree.specs.declared.lexeme.Mark.TheVariants.{Dot, CloseBrace}
use Rattle.fn_tree.specs.declared.lexeme.Terminal.TheVariants.{Mark as Punctuation}
use Rattle.fn_syntax.specs.declared.parser.class.Class.TheVariants.{Suffix}
use Rattle.fn_syntax.proofs.Says.{at_token, at_expr, variable_said, call_said, builtin_said, lookup_said, change_said, insert_said, scan_said, field_said, item_said, bound_said}
use Rattle.fn_tree.proofs.FormViews.{form-Group, form-Array, form-Object, form-Unary, view_at}
use Rattle.fn_tree.proofs.Fronts.{takes_reads, seq_fails}
use Rattle.fn_tree.proofs.Language.{clear}
use Rattle.fn_syntax.proofs.Answering.{missed, the_token, descent_by}
use Rattle.fn_syntax.proofs.Chains.{chain_begins, chain_ends, chain_first_misses, chain_goes_by, chain_misses_by, chain_stops_by, suffix_begins, suffix_goes, suffix_stops, suffix_ends, suffix_misses}
use Rattle.fn_syntax.proofs.Closings.{closing_first, list_first, closing_shut}
use Rattle.fn_syntax.proofs.Descent.{makes_call, makes_same, makes_on, makes_in, makes_left_before, makes_right_after, then, misses, left_out, there, shut_by, opt_then_fails, not_shorter}
use Rattle.fn_syntax.proofs.Items.{exprs_begin_at, exprs_go_at, exprs_miss, exprs_end_at, entries_begin_at, entries_go_at, entries_miss, entries_end_at, bounds_begin_at, bounds_go_at, bounds_miss, bounds_end_at}
use Rattle.fn_syntax.proofs.Nexts.{shut_next, suffix_begins_here}
use Rattle.fn_syntax.proofs.Primaries.{no_primary, makes_Literal, makes_Named, makes_Builtin, makes_Array, makes_Object, makes_Group, makes_Scan, makes_Count, makes_Lookup, makes_Moment, makes_Insertion, makes_Change}
use Rattle.fn_syntax.proofs.Signs.{sign_found, sign_misses, makes_unsigned}
use Rattle.fn_syntax.proofs.parser.+expressions.Goals as goal

pub read::lookup-returns-in_err-word-clause-is : goal.read::lookup-returns-in_err-word-clause-is
read::lookup-returns-in_err-word-clause-is t c =
    missed _ c.from_residual.result _ c.from_residual.ensures.1 c.in_err-word.ensures.is (λ r f. misses (makes_call rule.lookup) (clear _ _ refl refl) f)

pub read::lookup-returns-in_err-rest-clause-is : goal.read::lookup-returns-in_err-rest-clause-is
read::lookup-returns-in_err-rest-clause-is t c =
    missed _ c.from_residual-in_err-rest.result _ c.from_residual-in_err-rest.ensures.1 c.in_err-rest.ensures.is (λ r f. misses (then (makes_call rule.lookup) (clear _ _ refl refl) c.in_ok-word.ensures.is.finds) (clear _ _ refl refl) f)

pub read::lookup-returns-in_err-id-clause-is : goal.read::lookup-returns-in_err-id-clause-is
read::lookup-returns-in_err-id-clause-is t c =
    missed _ c.from_residual-in_err-id.result _ c.from_residual-in_err-id.ensures.1 c.in_err-id.ensures.is (λ r f. (then (then (makes_call rule.lookup) (clear _ _ refl refl) c.in_ok-word.ensures.is.finds) (clear _ _ refl refl) c.in_ok-rest.ensures.is.finds).fails r f)

pub read::lookup-returns-clause-is : goal.read::lookup-returns-clause-is
read::lookup-returns-clause-is t c =
    let w = the_token c.in_ok-word.ensures.is in
    record {
      parse = pair c.in_ok-word.ensures.is.parse (pair c.in_ok-rest.ensures.is.parse c.in_ok-id.ensures.is.parse);
      finds = (then (then (makes_call rule.lookup) (clear _ _ refl refl) c.in_ok-word.ensures.is.finds) (clear _ _ refl refl) c.in_ok-rest.ensures.is.finds).found _ _ c.in_ok-id.ensures.is.finds;
      says = at_token c.in_ok-word.ensures.is.parse c.in_ok-new.ensures w (lookup_said c.in_ok-word.ensures.is.parse c.lookup_as-form.ensures w c.in_ok-id.ensures.is.says);
    }

pub read::change-returns-in_err-word-clause-is : goal.read::change-returns-in_err-word-clause-is
read::change-returns-in_err-word-clause-is t c =
    missed _ c.from_residual.result _ c.from_residual.ensures.1 c.in_err-word.ensures.is (λ r f. misses (makes_call rule.change) (clear _ _ refl refl) f)

pub read::change-returns-in_err-rest-clause-is : goal.read::change-returns-in_err-rest-clause-is
read::change-returns-in_err-rest-clause-is t c =
    missed _ c.from_residual-in_err-rest.result _ c.from_residual-in_err-rest.ensures.1 c.in_err-rest.ensures.is (λ r f. misses (then (makes_call rule.change) (clear _ _ refl refl) c.in_ok-word.ensures.is.finds) (clear _ _ refl refl) f)

pub read::change-returns-in_err-id-clause-is : goal.read::change-returns-in_err-id-clause-is
read::change-returns-in_err-id-clause-is t c =
    missed _ c.from_residual-in_err-id.result _ c.from_residual-in_err-id.ensures.1 c.in_err-id.ensures.is (λ r f. misses (then (then (makes_call rule.change) (clear _ _ refl refl) c.in_ok-word.ensures.is.finds) (clear _ _ refl refl) c.in_ok-rest.ensures.is.finds) (clear _ _ refl refl) f)

pub read::change-returns-in_err-fields-clause-is : goal.read::change-returns-in_err-fields-clause-is
read::change-returns-in_err-fields-clause-is t c =
    missed _ c.from_residual-in_err-fields.result _ c.from_residual-in_err-fields.ensures.1 c.in_err-fields.ensures.is (λ r f. (then (then (then (makes_call rule.change) (clear _ _ refl refl) c.in_ok-word.ensures.is.finds) (clear _ _ refl refl) c.in_ok-rest.ensures.is.finds) (clear _ _ refl refl) c.in_ok-id.ensures.is.finds).fails r f)

pub read::change-returns-clause-is : goal.read::change-returns-clause-is
read::change-returns-clause-is t c =
    let w = the_token c.in_ok-word.ensures.is in
    record {
      parse = pair c.in_ok-word.ensures.is.parse (pair c.in_ok-rest.ensures.is.parse (pair c.in_ok-id.ensures.is.parse c.in_ok-fields.ensures.is.parse));
      finds = (then (then (then (makes_call rule.change) (clear _ _ refl refl) c.in_ok-word.ensures.is.finds) (clear _ _ refl refl) c.in_ok-rest.ensures.is.finds) (clear _ _ refl refl) c.in_ok-id.ensures.is.finds).found _ _ c.in_ok-fields.ensures.is.finds;
      says = at_token c.in_ok-word.ensures.is.parse c.in_ok-new.ensures w (change_said c.in_ok-word.ensures.is.parse c.change_as-form.ensures w c.in_ok-id.ensures.is.says c.in_ok-fields.ensures.is.says);
    }

pub read::insertion-returns-in_err-word-clause-is : goal.read::insertion-returns-in_err-word-clause-is
read::insertion-returns-in_err-word-clause-is t c =
    missed _ c.from_residual.result _ c.from_residual.ensures.1 c.in_err-word.ensures.is (λ r f. misses (makes_call rule.insertion) (clear _ _ refl refl) f)

pub read::insertion-returns-in_err-rest-clause-is : goal.read::insertion-returns-in_err-rest-clause-is
read::insertion-returns-in_err-rest-clause-is t c =
    missed _ c.from_residual-in_err-rest.result _ c.from_residual-in_err-rest.ensures.1 c.in_err-rest.ensures.is (λ r f. misses (then (makes_call rule.insertion) (clear _ _ refl refl) c.in_ok-word.ensures.is.finds) (clear _ _ refl refl) f)

pub read::insertion-returns-in_err-table-clause-is : goal.read::insertion-returns-in_err-table-clause-is
read::insertion-returns-in_err-table-clause-is t c =
    missed _ c.from_residual-in_err-table.result _ c.from_residual-in_err-table.ensures.1 c.in_err-table.ensures.is (λ r f. misses (then (then (makes_call rule.insertion) (clear _ _ refl refl) c.in_ok-word.ensures.is.finds) (clear _ _ refl refl) c.in_ok-rest.ensures.is.finds) (clear _ _ refl refl) f)

pub read::insertion-returns-in_err-rest-2-clause-is : goal.read::insertion-returns-in_err-rest-2-clause-is
read::insertion-returns-in_err-rest-2-clause-is t c =
    missed _ c.from_residual-in_err-rest-2.result _ c.from_residual-in_err-rest-2.ensures.1 c.in_err-rest-2.ensures.is (λ r f. misses (then (then (then (makes_call rule.insertion) (clear _ _ refl refl) c.in_ok-word.ensures.is.finds) (clear _ _ refl refl) c.in_ok-rest.ensures.is.finds) (clear _ _ refl refl) c.in_ok-table.ensures.is.finds) (clear _ _ refl refl) f)

pub read::insertion-returns-in_err-fields-clause-is : goal.read::insertion-returns-in_err-fields-clause-is
read::insertion-returns-in_err-fields-clause-is t c =
    missed _ c.from_residual-in_err-fields.result _ c.from_residual-in_err-fields.ensures.1 c.in_err-fields.ensures.is (λ r f. (then (then (then (then (makes_call rule.insertion) (clear _ _ refl refl) c.in_ok-word.ensures.is.finds) (clear _ _ refl refl) c.in_ok-rest.ensures.is.finds) (clear _ _ refl refl) c.in_ok-table.ensures.is.finds) (clear _ _ refl refl) c.in_ok-rest-2.ensures.is.finds).fails r f)

pub read::insertion-returns-clause-is : goal.read::insertion-returns-clause-is
read::insertion-returns-clause-is t c =
    let w = the_token c.in_ok-word.ensures.is in
    record {
      parse = pair c.in_ok-word.ensures.is.parse (pair c.in_ok-rest.ensures.is.parse (pair c.in_ok-table.ensures.is.parse (pair c.in_ok-rest-2.ensures.is.parse c.in_ok-fields.ensures.is.parse)));
      finds = (then (then (then (then (makes_call rule.insertion) (clear _ _ refl refl) c.in_ok-word.ensures.is.finds) (clear _ _ refl refl) c.in_ok-rest.ensures.is.finds) (clear _ _ refl refl) c.in_ok-table.ensures.is.finds) (clear _ _ refl refl) c.in_ok-rest-2.ensures.is.finds).found _ _ c.in_ok-fields.ensures.is.finds;
      says = at_token c.in_ok-word.ensures.is.parse c.in_ok-new.ensures w (insert_said c.in_ok-fields.fields c.in_ok-table.ensures.is.says c.in_ok-fields.ensures.is.says);
    }

pub read::bound-returns-in_err-field-clause-is : goal.read::bound-returns-in_err-field-clause-is
read::bound-returns-in_err-field-clause-is t c =
    missed _ c.from_residual.result _ c.from_residual.ensures.1 c.in_err-field.ensures.is (λ r f. misses (makes_call rule.bound) (clear _ _ refl refl) f)

pub read::bound-returns-in_err-operator-clause-is : goal.read::bound-returns-in_err-operator-clause-is
read::bound-returns-in_err-operator-clause-is t c =
    missed _ c.from_residual-in_err-operator.result _ c.from_residual-in_err-operator.ensures.1 c.in_err-operator.ensures.is (λ r f. misses (then (makes_call rule.bound) (clear _ _ refl refl) c.in_ok-field.ensures.is.finds) (clear _ _ refl refl) f)

pub read::bound-returns-in_err-value-clause-is : goal.read::bound-returns-in_err-value-clause-is
read::bound-returns-in_err-value-clause-is t c =
    missed _ c.from_residual-in_err-value.result _ c.from_residual-in_err-value.ensures.1 c.in_err-value.ensures.is (λ r f. (then (then (makes_call rule.bound) (clear _ _ refl refl) c.in_ok-field.ensures.is.finds) (clear _ _ refl refl) c.in_ok-operator.ensures.is.finds).fails r f)

pub read::bound-returns-clause-is : goal.read::bound-returns-clause-is
read::bound-returns-clause-is t c =
    record {
      parse = pair c.in_ok-field.ensures.is.parse (pair c.in_ok-operator.ensures.is.parse c.in_ok-value.ensures.is.parse);
      finds = (then (then (makes_call rule.bound) (clear _ _ refl refl) c.in_ok-field.ensures.is.finds) (clear _ _ refl refl) c.in_ok-operator.ensures.is.finds).found _ _ c.in_ok-value.ensures.is.finds;
      says = bound_said c.in_ok-operator.ensures.is.parse c.new.ensures c.in_ok-field.ensures.is.says c.compare_of-op.ensures (the_token c.in_ok-operator.ensures.is) c.in_ok-value.ensures.is.says;
    }

pub read::scan-returns-in_err-word-clause-is : goal.read::scan-returns-in_err-word-clause-is
read::scan-returns-in_err-word-clause-is t c =
    missed _ c.from_residual.result _ c.from_residual.ensures.1 c.in_err-word.ensures.is (λ r f. misses (makes_call rule.scan) (clear _ _ refl refl) f)

pub read::scan-returns-in_err-rest-clause-is : goal.read::scan-returns-in_err-rest-clause-is
read::scan-returns-in_err-rest-clause-is t c =
    missed _ c.from_residual-in_err-rest.result _ c.from_residual-in_err-rest.ensures.1 c.in_err-rest.ensures.is (λ r f. misses (then (makes_call rule.scan) (clear _ _ refl refl) c.in_ok-word.ensures.is.finds) (clear _ _ refl refl) f)

pub read::scan-returns-in_err-table-clause-is : goal.read::scan-returns-in_err-table-clause-is
read::scan-returns-in_err-table-clause-is t c =
    missed _ c.from_residual-in_err-table.result _ c.from_residual-in_err-table.ensures.1 c.in_err-table.ensures.is (λ r f. misses (then (then (makes_call rule.scan) (clear _ _ refl refl) c.in_ok-word.ensures.is.finds) (clear _ _ refl refl) c.in_ok-rest.ensures.is.finds) (clear _ _ refl refl) f)

pub read::scan-returns-in_err-rest-2-clause-is : goal.read::scan-returns-in_err-rest-2-clause-is
read::scan-returns-in_err-rest-2-clause-is t c =
    missed _ c.from_residual-in_err-rest-2.result _ c.from_residual-in_err-rest-2.ensures.1 c.in_err-rest-2.ensures.is (λ r f. misses (then (then (then (makes_call rule.scan) (clear _ _ refl refl) c.in_ok-word.ensures.is.finds) (clear _ _ refl refl) c.in_ok-rest.ensures.is.finds) (clear _ _ refl refl) c.in_ok-table.ensures.is.finds) (clear _ _ refl refl) f)

pub read::scan-returns-in_err-index-clause-is : goal.read::scan-returns-in_err-index-clause-is
read::scan-returns-in_err-index-clause-is t c =
    missed _ c.from_residual-in_err-index.result _ c.from_residual-in_err-index.ensures.1 c.in_err-index.ensures.is (λ r f. misses (then (then (then (then (makes_call rule.scan) (clear _ _ refl refl) c.in_ok-word.ensures.is.finds) (clear _ _ refl refl) c.in_ok-rest.ensures.is.finds) (clear _ _ refl refl) c.in_ok-table.ensures.is.finds) (clear _ _ refl refl) c.in_ok-rest-2.ensures.is.finds) (clear _ _ refl refl) f)

pub read::scan-returns-in_err-bounds-clause-is : goal.read::scan-returns-in_err-bounds-clause-is
read::scan-returns-in_err-bounds-clause-is t c =
    missed _ c.from_residual-in_err-bounds.result _ c.from_residual-in_err-bounds.ensures.1 c.in_err-bounds.ensures.is (λ r f. misses (then (then (then (then (then (makes_call rule.scan) (clear _ _ refl refl) c.in_ok-word.ensures.is.finds) (clear _ _ refl refl) c.in_ok-rest.ensures.is.finds) (clear _ _ refl refl) c.in_ok-table.ensures.is.finds) (clear _ _ refl refl) c.in_ok-rest-2.ensures.is.finds) (clear _ _ refl refl) c.in_ok-index.ensures.is.finds) (clear _ _ refl refl) f)

pub read::scan-returns-in_err-rest-3-clause-is : goal.read::scan-returns-in_err-rest-3-clause-is
read::scan-returns-in_err-rest-3-clause-is t c =
    missed _ c.from_residual-in_err-rest-3.result _ c.from_residual-in_err-rest-3.ensures.1 c.in_err-rest-3.ensures.is (λ r f. misses (then (then (then (then (then (then (makes_call rule.scan) (clear _ _ refl refl) c.in_ok-word.ensures.is.finds) (clear _ _ refl refl) c.in_ok-rest.ensures.is.finds) (clear _ _ refl refl) c.in_ok-table.ensures.is.finds) (clear _ _ refl refl) c.in_ok-rest-2.ensures.is.finds) (clear _ _ refl refl) c.in_ok-index.ensures.is.finds) (clear _ _ refl refl) c.in_ok-bounds.ensures.is.finds) (clear _ _ refl refl) f)

pub read::scan-returns-in_err-take-clause-is : goal.read::scan-returns-in_err-take-clause-is
read::scan-returns-in_err-take-clause-is t c =
    missed _ c.from_residual-in_err-take.result _ c.from_residual-in_err-take.ensures.1 c.in_err-take.ensures.is (λ r f. (then (then (then (then (then (then (then (then (makes_call rule.scan) (clear _ _ refl refl) c.in_ok-word.ensures.is.finds) (clear _ _ refl refl) c.in_ok-rest.ensures.is.finds) (clear _ _ refl refl) c.in_ok-table.ensures.is.finds) (clear _ _ refl refl) c.in_ok-rest-2.ensures.is.finds) (clear _ _ refl refl) c.in_ok-index.ensures.is.finds) (clear _ _ refl refl) c.in_ok-bounds.ensures.is.finds) (clear _ _ refl refl) c.in_ok-rest-3.ensures.is.finds) (clear _ _ refl refl) c.descending-desc.ensures.is.finds).fails r f)

pub read::scan-returns-clause-is : goal.read::scan-returns-clause-is
read::scan-returns-clause-is t c =
    let w = the_token c.in_ok-word.ensures.is in
    record {
      parse = pair c.in_ok-word.ensures.is.parse (pair c.in_ok-rest.ensures.is.parse (pair c.in_ok-table.ensures.is.parse (pair c.in_ok-rest-2.ensures.is.parse (pair c.in_ok-index.ensures.is.parse (pair c.in_ok-bounds.ensures.is.parse (pair c.in_ok-rest-3.ensures.is.parse (pair c.descending-desc.ensures.is.parse c.in_ok-take.ensures.is.parse)))))));
      finds = (then (then (then (then (then (then (then (then (makes_call rule.scan) (clear _ _ refl refl) c.in_ok-word.ensures.is.finds) (clear _ _ refl refl) c.in_ok-rest.ensures.is.finds) (clear _ _ refl refl) c.in_ok-table.ensures.is.finds) (clear _ _ refl refl) c.in_ok-rest-2.ensures.is.finds) (clear _ _ refl refl) c.in_ok-index.ensures.is.finds) (clear _ _ refl refl) c.in_ok-bounds.ensures.is.finds) (clear _ _ refl refl) c.in_ok-rest-3.ensures.is.finds) (clear _ _ refl refl) c.descending-desc.ensures.is.finds).found _ _ c.in_ok-take.ensures.is.finds;
      says = at_token c.in_ok-word.ensures.is.parse c.in_ok-new.ensures w (scan_said c.in_ok-bounds.bounds c.in_ok-take.take c.in_ok-table.ensures.is.says c.in_ok-index.ensures.is.says c.in_ok-bounds.ensures.is.says c.descending-desc.ensures.is.says c.in_ok-take.ensures.is.says);
    }

pub primary::builtin_call-returns-in_err-word-clause-is : goal.primary::builtin_call-returns-in_err-word-clause-is
primary::builtin_call-returns-in_err-word-clause-is t c =
    missed _ c.from_residual.result _ c.from_residual.ensures.1 c.in_err-word.ensures.is (λ r f. misses (makes_call rule.builtin_call) (clear _ _ refl refl) f)

pub primary::builtin_call-returns-in_err-rest-clause-is : goal.primary::builtin_call-returns-in_err-rest-clause-is
primary::builtin_call-returns-in_err-rest-clause-is t c =
    missed _ c.from_residual-in_err-rest.result _ c.from_residual-in_err-rest.ensures.1 c.in_err-rest.ensures.is (λ r f. misses (then (makes_call rule.builtin_call) (clear _ _ refl refl) c.in_ok-word.ensures.is.finds) (clear _ _ refl refl) f)

pub primary::builtin_call-returns-in_err-arguments-clause-is : goal.primary::builtin_call-returns-in_err-arguments-clause-is
primary::builtin_call-returns-in_err-arguments-clause-is t c =
    missed _ c.from_residual-in_err-arguments.result _ c.from_residual-in_err-arguments.ensures.1 c.in_err-arguments.ensures.is (λ r f. misses (then (then (makes_call rule.builtin_call) (clear _ _ refl refl) c.in_ok-word.ensures.is.finds) (clear _ _ refl refl) c.in_ok-rest.ensures.is.finds) (clear _ _ refl refl) f)

pub primary::builtin_call-returns-in_err-rest-2-clause-is : goal.primary::builtin_call-returns-in_err-rest-2-clause-is
primary::builtin_call-returns-in_err-rest-2-clause-is t c =
    missed _ c.from_residual-in_err-rest-2.result _ c.from_residual-in_err-rest-2.ensures.1 c.in_err-rest-2.ensures.is (λ r f. (then (then (then (makes_call rule.builtin_call) (clear _ _ refl refl) c.in_ok-word.ensures.is.finds) (clear _ _ refl refl) c.in_ok-rest.ensures.is.finds) (clear _ _ refl refl) c.in_ok-arguments.ensures.is.finds).fails r f)

pub primary::builtin_call-returns-clause-is : goal.primary::builtin_call-returns-clause-is
primary::builtin_call-returns-clause-is t c =
    let w = the_token c.in_ok-word.ensures.is in
    record {
      parse = pair c.in_ok-word.ensures.is.parse (pair c.in_ok-rest.ensures.is.parse (pair c.in_ok-arguments.ensures.is.parse c.in_ok-rest-2.ensures.is.parse));
      finds = (then (then (then (makes_call rule.builtin_call) (clear _ _ refl refl) c.in_ok-word.ensures.is.finds) (clear _ _ refl refl) c.in_ok-rest.ensures.is.finds) (clear _ _ refl refl) c.in_ok-arguments.ensures.is.finds).found _ _ c.in_ok-rest-2.ensures.is.finds;
      says = at_token c.in_ok-word.ensures.is.parse c.in_ok-new.ensures w (builtin_said c.in_ok-word.ensures.is.parse c.in_ok-arguments.arguments c.builtin_of.ensures w c.in_ok-arguments.ensures.is.says);
    }

pub primary::array-returns-in_err-open-clause-is : goal.primary::array-returns-in_err-open-clause-is
primary::array-returns-in_err-open-clause-is t c =
    missed _ c.from_residual.result _ c.from_residual.ensures.1 c.in_err-open.ensures.is (λ r f. misses (makes_call rule.array) (clear _ _ refl refl) f)

pub primary::array-returns-in_err-items-clause-is : goal.primary::array-returns-in_err-items-clause-is
primary::array-returns-in_err-items-clause-is t c =
    missed _ c.from_residual-in_err-items.result _ c.from_residual-in_err-items.ensures.1 c.in_err-items.ensures.is (λ r f. (then (makes_call rule.array) (clear _ _ refl refl) c.in_ok-open.ensures.is.finds).fails r f)

pub primary::array-returns-clause-is : goal.primary::array-returns-clause-is
primary::array-returns-clause-is t c =
    let w = the_token c.in_ok-open.ensures.is in
    record {
      parse = pair c.in_ok-open.ensures.is.parse c.in_ok-items.ensures.is.parse;
      finds = (then (makes_call rule.array) (clear _ _ refl refl) c.in_ok-open.ensures.is.finds).found _ _ c.in_ok-items.ensures.is.finds;
      says = at_token c.in_ok-open.ensures.is.parse c.in_ok-new.ensures w (form-Array c.in_ok-items.items ∙ ap plain.items c.in_ok-items.ensures.is.says);
    }

pub primary::object-returns-in_err-open-clause-is : goal.primary::object-returns-in_err-open-clause-is
primary::object-returns-in_err-open-clause-is t c =
    missed _ c.from_residual.result _ c.from_residual.ensures.1 c.in_err-open.ensures.is (λ r f. misses (makes_call rule.object) (clear _ _ refl refl) f)

pub primary::object-returns-in_err-entries-clause-is : goal.primary::object-returns-in_err-entries-clause-is
primary::object-returns-in_err-entries-clause-is t c =
    missed _ c.from_residual-in_err-entries.result _ c.from_residual-in_err-entries.ensures.1 c.in_err-entries.ensures.is (λ r f. (then (makes_call rule.object) (clear _ _ refl refl) c.in_ok-open.ensures.is.finds).fails r f)

pub primary::object-returns-clause-is : goal.primary::object-returns-clause-is
primary::object-returns-clause-is t c =
    let w = the_token c.in_ok-open.ensures.is in
    record {
      parse = pair c.in_ok-open.ensures.is.parse c.in_ok-entries.ensures.is.parse;
      finds = (then (makes_call rule.object) (clear _ _ refl refl) c.in_ok-open.ensures.is.finds).found _ _ c.in_ok-entries.ensures.is.finds;
      says = at_token c.in_ok-open.ensures.is.parse c.in_ok-new.ensures w (form-Object c.in_ok-entries.entries ∙ ap plain.entries c.in_ok-entries.ensures.is.says);
    }

pub primary::group-returns-in_err-open-clause-is : goal.primary::group-returns-in_err-open-clause-is
primary::group-returns-in_err-open-clause-is t c =
    missed _ c.from_residual.result _ c.from_residual.ensures.1 c.in_err-open.ensures.is (λ r f. misses (makes_call rule.group) (clear _ _ refl refl) f)

pub primary::group-returns-in_err-value-clause-is : goal.primary::group-returns-in_err-value-clause-is
primary::group-returns-in_err-value-clause-is t c =
    missed _ c.from_residual-in_err-value.result _ c.from_residual-in_err-value.ensures.1 c.in_err-value.ensures.is (λ r f. (then (makes_call rule.group) (clear _ _ refl refl) c.in_ok-open.ensures.is.finds).fails r f)

pub primary::group-returns-clause-is : goal.primary::group-returns-clause-is
primary::group-returns-clause-is t c =
    let w = the_token c.in_ok-open.ensures.is in
    record {
      parse = pair c.in_ok-open.ensures.is.parse c.in_ok-value.ensures.is.parse;
      finds = (then (makes_call rule.group) (clear _ _ refl refl) c.in_ok-open.ensures.is.finds).found _ _ c.in_ok-value.ensures.is.finds;
      says = at_token c.in_ok-open.ensures.is.parse c.in_ok-new.ensures w (form-Group c.in_ok-value.value ∙ ap plain.group c.in_ok-value.ensures.is.says);
    }

pub list::entry-returns-in_err-name-clause-is : goal.list::entry-returns-in_err-name-clause-is
list::entry-returns-in_err-name-clause-is t c =
    missed _ c.from_residual.result _ c.from_residual.ensures.1 c.in_err-name.ensures.is (λ r f. misses (makes_call rule.entry) (clear _ _ refl refl) f)

pub list::entry-returns-in_err-rest-clause-is : goal.list::entry-returns-in_err-rest-clause-is
list::entry-returns-in_err-rest-clause-is t c =
    missed _ c.from_residual-in_err-rest.result _ c.from_residual-in_err-rest.ensures.1 c.in_err-rest.ensures.is (λ r f. misses (then (makes_call rule.entry) (clear _ _ refl refl) c.in_ok-name.ensures.is.finds) (clear _ _ refl refl) f)

pub list::entry-returns-in_err-value-clause-is : goal.list::entry-returns-in_err-value-clause-is
list::entry-returns-in_err-value-clause-is t c =
    missed _ c.from_residual-in_err-value.result _ c.from_residual-in_err-value.ensures.1 c.in_err-value.ensures.is (λ r f. (then (then (makes_call rule.entry) (clear _ _ refl refl) c.in_ok-name.ensures.is.finds) (clear _ _ refl refl) c.in_ok-rest.ensures.is.finds).fails r f)

pub list::entry-returns-clause-is : goal.list::entry-returns-clause-is
list::entry-returns-clause-is t c =
    record {
      parse = pair c.in_ok-name.ensures.is.parse (pair c.in_ok-rest.ensures.is.parse c.in_ok-value.ensures.is.parse);
      finds = (then (then (makes_call rule.entry) (clear _ _ refl refl) c.in_ok-name.ensures.is.finds) (clear _ _ refl refl) c.in_ok-rest.ensures.is.finds).found _ _ c.in_ok-value.ensures.is.finds;
      says = (c.in_ok-name.ensures.is.says, c.in_ok-value.ensures.is.says);
    }

pub expression::closed_expression-returns-in_err-value-clause-is : goal.expression::closed_expression-returns-in_err-value-clause-is
expression::closed_expression-returns-in_err-value-clause-is t c =
    missed _ c.from_residual.result _ c.from_residual.ensures.1 c.in_err-value.ensures.is (λ r f. misses (makes_same) (closing_first _ (search rules)) f)

pub expression::closed_expression-returns-in_err-rest-clause-is : goal.expression::closed_expression-returns-in_err-rest-clause-is
expression::closed_expression-returns-in_err-rest-clause-is t c =
    missed _ c.from_residual-in_err-rest.result _ c.from_residual-in_err-rest.ensures.1 c.in_err-rest.ensures.is (λ r f. (then (makes_same) (closing_first _ (search rules)) c.in_ok-value.ensures.is.finds).fails r f)

pub expression::closed_expression-returns-clause-is : goal.expression::closed_expression-returns-clause-is
expression::closed_expression-returns-clause-is t c =
    record {
      parse = pair c.in_ok-value.ensures.is.parse c.in_ok-rest.ensures.is.parse;
      finds = (then (makes_same) (closing_first _ (search rules)) c.in_ok-value.ensures.is.finds).found _ _ c.in_ok-rest.ensures.is.finds;
      says = c.in_ok-value.ensures.is.says;
    }

pub primary::primary-returns-in-Some-Literal-clause-is : goal.primary::primary-returns-in-Some-Literal-clause-is
primary::primary-returns-in-Some-Literal-clause-is t c = descent_by _ _ (makes_Literal c.args.tokens.now (rw c.in-Some-Literal.field-0-is at c.in-Some-Literal.ensures)) (λ x a h. h) c.literal.result c.literal.ensures.is

pub primary::primary-returns-in-Some-Named-clause-is : goal.primary::primary-returns-in-Some-Named-clause-is
primary::primary-returns-in-Some-Named-clause-is t c = descent_by _ _ (makes_Named c.args.tokens.now (rw c.in-Some-Named.field-0-is at c.in-Some-Named.ensures)) (λ x a h. h) c.named.result c.named.ensures.is

pub primary::primary-returns-in-Some-Builtin-clause-is : goal.primary::primary-returns-in-Some-Builtin-clause-is
primary::primary-returns-in-Some-Builtin-clause-is t c = descent_by _ _ (makes_Builtin c.args.tokens.now (rw c.in-Some-Builtin.field-0-is at c.in-Some-Builtin.ensures)) (λ x a h. h) c.builtin_call.result c.builtin_call.ensures.is

pub primary::primary-returns-in-Some-Array-clause-is : goal.primary::primary-returns-in-Some-Array-clause-is
primary::primary-returns-in-Some-Array-clause-is t c = descent_by _ _ (makes_Array c.args.tokens.now (rw c.in-Some-Array.field-0-is at c.in-Some-Array.ensures)) (λ x a h. h) c.array.result c.array.ensures.is

pub primary::primary-returns-in-Some-Object-clause-is : goal.primary::primary-returns-in-Some-Object-clause-is
primary::primary-returns-in-Some-Object-clause-is t c = descent_by _ _ (makes_Object c.args.tokens.now (rw c.in-Some-Object.field-0-is at c.in-Some-Object.ensures)) (λ x a h. h) c.object.result c.object.ensures.is

pub primary::primary-returns-in-Some-Group-clause-is : goal.primary::primary-returns-in-Some-Group-clause-is
primary::primary-returns-in-Some-Group-clause-is t c = descent_by _ _ (makes_Group c.args.tokens.now (rw c.in-Some-Group.field-0-is at c.in-Some-Group.ensures)) (λ x a h. h) c.group.result c.group.ensures.is

pub primary::primary-returns-in-Some-Scan-clause-is : goal.primary::primary-returns-in-Some-Scan-clause-is
primary::primary-returns-in-Some-Scan-clause-is t c = descent_by _ _ (makes_Scan c.args.tokens.now (rw c.in-Some-Scan.field-0-is at c.in-Some-Scan.ensures)) (λ x a h. h) c.scan.result c.scan.ensures.is

pub primary::primary-returns-in-Some-Count-clause-is : goal.primary::primary-returns-in-Some-Count-clause-is
primary::primary-returns-in-Some-Count-clause-is t c = descent_by _ _ (makes_Count c.args.tokens.now (rw c.in-Some-Count.field-0-is at c.in-Some-Count.ensures)) (λ x a h. h) c.count.result c.count.ensures.is

pub primary::primary-returns-in-Some-Lookup-clause-is : goal.primary::primary-returns-in-Some-Lookup-clause-is
primary::primary-returns-in-Some-Lookup-clause-is t c = descent_by _ _ (makes_Lookup c.args.tokens.now (rw c.in-Some-Lookup.field-0-is at c.in-Some-Lookup.ensures)) (λ x a h. h) c.lookup.result c.lookup.ensures.is

pub primary::primary-returns-in-Some-Moment-clause-is : goal.primary::primary-returns-in-Some-Moment-clause-is
primary::primary-returns-in-Some-Moment-clause-is t c = descent_by _ _ (makes_Moment c.args.tokens.now (rw c.in-Some-Moment.field-0-is at c.in-Some-Moment.ensures)) (λ x a h. h) c.moment.result c.moment.ensures.is

pub primary::primary-returns-in-Some-Insertion-clause-is : goal.primary::primary-returns-in-Some-Insertion-clause-is
primary::primary-returns-in-Some-Insertion-clause-is t c = descent_by _ _ (makes_Insertion c.args.tokens.now (rw c.in-Some-Insertion.field-0-is at c.in-Some-Insertion.ensures)) (λ x a h. h) c.insertion.result c.insertion.ensures.is

pub primary::primary-returns-in-Some-Change-clause-is : goal.primary::primary-returns-in-Some-Change-clause-is
primary::primary-returns-in-Some-Change-clause-is t c = descent_by _ _ (makes_Change c.args.tokens.now (rw c.in-Some-Change.field-0-is at c.in-Some-Change.ensures)) (λ x a h. h) c.change.result c.change.ensures.is

pub primary::primary-returns-in-None-clause-is : goal.primary::primary-returns-in-None-clause-is
primary::primary-returns-in-None-clause-is t c = no_primary c.args.tokens.now c.in-None.ensures

pub expression::chain-returns-in_err-left-clause-is : goal.expression::chain-returns-in_err-left-clause-is
expression::chain-returns-in_err-left-clause-is t c =
    missed _ c.from_residual.result _ c.from_residual.ensures.1 c.in_err-left.ensures.is (λ r f. chain_first_misses c.args.level f)

pub expression::chain-loop-turn-init : goal.expression::chain-loop-turn-init
expression::chain-loop-turn-init t c = chain_begins c.in_ok-left.ensures.is c.in_ok-left.ensures.shorter

pub expression::chain-returns-in_default-clause-is : goal.expression::chain-returns-in_default-clause-is
expression::chain-returns-in_default-clause-is t c = chain_stops_by c.operators.result c.operators.ensures c.loop-turn.invariant c.in_default.ensures.is

pub expression::chain-returns-in_err-right-clause-is : goal.expression::chain-returns-in_err-right-clause-is
expression::chain-returns-in_err-right-clause-is t c =
    missed _ c.from_residual-in_err-right.result _ c.from_residual-in_err-right.ensures.1 c.in_err-right.ensures.is (λ r f. chain_misses_by c.operators.result c.operators.ensures c.loop-turn.invariant c.loop-turn-test.true c.in-Some.ensures.is c.in-Some.ensures.shorter f)

pub expression::chain-loop-turn-preserved : goal.expression::chain-loop-turn-preserved
expression::chain-loop-turn-preserved t c = chain_goes_by c.operators.result c.operators.ensures c.loop-turn.invariant c.loop-turn-test.true c.in-Some.ensures.is c.in-Some.ensures.shorter c.in_ok-right.ensures.is c.in_ok-right.ensures.shorter c.in_ok-left-2.ensures

pub expression::chain-returns-clause-is : goal.expression::chain-returns-clause-is
expression::chain-returns-clause-is t c = chain_ends c.loop-turn.invariant c.loop-turn-test.false

pub expression::comparison-returns-in_err-left-clause-is : goal.expression::comparison-returns-in_err-left-clause-is
expression::comparison-returns-in_err-left-clause-is t c =
    missed _ c.from_residual.result _ c.from_residual.ensures.1 c.in_err-left.ensures.is (λ r f. misses (makes_call rule.comparison) (clear _ _ refl refl) f)

pub expression::comparison-returns-in_default-clause-is : goal.expression::comparison-returns-in_default-clause-is
expression::comparison-returns-in_default-clause-is t c = record {
  parse = pair c.in_ok-left.ensures.is.parse (in_right none);
  finds = (then (makes_call rule.comparison) (clear _ _ refl refl) c.in_ok-left.ensures.is.finds).found _ _ (left_out (seq_fails (clear _ _ refl refl) c.in_default.ensures.is));
  says = c.in_ok-left.ensures.is.says;
}

pub expression::comparison-returns-in_err-right-clause-is : goal.expression::comparison-returns-in_err-right-clause-is
expression::comparison-returns-in_err-right-clause-is t c =
    missed _ c.from_residual-in_err-right.result _ c.from_residual-in_err-right.ensures.1 c.in_err-right.ensures.is (λ r f. (then (makes_on (then (makes_call rule.comparison) (clear _ _ refl refl) c.in_ok-left.ensures.is.finds) (makes_in (in_first (takes_reads c.in-Some.ensures.is.takes)) (not_shorter c.in-Some.ensures.shorter))) (clear _ _ refl refl) c.in-Some.ensures.is).fails r f)

pub expression::comparison-returns-clause-is : goal.expression::comparison-returns-clause-is
expression::comparison-returns-clause-is t c = record {
  parse = pair c.in_ok-left.ensures.is.parse (in_left (pair (leaf c.in-Some.operator) c.in_ok-right.ensures.is.parse));
  finds = (then (makes_on (then (makes_call rule.comparison) (clear _ _ refl refl) c.in_ok-left.ensures.is.finds) (makes_in (in_first (takes_reads c.in-Some.ensures.is.takes)) (not_shorter c.in-Some.ensures.shorter))) (clear _ _ refl refl) c.in-Some.ensures.is).found _ _ c.in_ok-right.ensures.is.finds;
  says = rw (← c.in_ok-left.ensures.is.says, ← c.in_ok-right.ensures.is.says) c.in_ok-joined.ensures;
}

pub expression::operand-returns-in-Term-clause-is : goal.expression::operand-returns-in-Term-clause-is
expression::operand-returns-in-Term-clause-is t c = rw c.in-Term.is (descent_by _ _ (makes_call rule.unary) (λ x a h. h) c.unary.result c.unary.ensures.is)

pub expression::unary-returns-in_default-clause-is : goal.expression::unary-returns-in_default-clause-is
expression::unary-returns-in_default-clause-is t c = descent_by _ _ (makes_unsigned c.args.most c.in_default.ensures.is) (λ x a h. h) c.postfix.result c.postfix.ensures.is

pub expression::unary-returns-in_err-value-clause-is : goal.expression::unary-returns-in_err-value-clause-is
expression::unary-returns-in_err-value-clause-is t c =
    missed _ c.from_residual.result _ c.from_residual.ensures.1 c.in_err-value.ensures.is (λ r f. sign_misses c.args.most c.in-Some.ensures.is.0 c.in-Some.ensures.is.1 f)

pub expression::unary-returns-clause-is : goal.expression::unary-returns-clause-is
expression::unary-returns-clause-is t c = sign_found c.args.most c.in-Some.ensures.is.0 c.in-Some.ensures.is.1 c.in_ok-value.ensures.is (c.in_ok-new.ensures ∙ ap (plain.expr c.in-Some.sign.at) (form-Unary c.sign_of.result c.in_ok-value.value) ∙ ap (λ o. plain.expr c.in-Some.sign.at (plain.unary o (expr_view c.in_ok-value.value))) c.sign_of.ensures)

pub expression::postfix-returns-in_err-value-clause-is : goal.expression::postfix-returns-in_err-value-clause-is
expression::postfix-returns-in_err-value-clause-is t c =
    missed _ c.from_residual.result _ c.from_residual.ensures.1 c.in_err-value.ensures.is (λ r f. misses (makes_call rule.postfix) (clear _ _ refl refl) f)

pub expression::postfix-loop-turn-init : goal.expression::postfix-loop-turn-init
expression::postfix-loop-turn-init t c = suffix_begins c.in_ok-value.ensures.is c.in_ok-value.ensures.shorter

pub expression::postfix-returns-then-not-next_is-clause-is : goal.expression::postfix-returns-then-not-next_is-clause-is
expression::postfix-returns-then-not-next_is-clause-is t c = suffix_stops c.loop-turn.invariant (shut_next Suffix c.loop-turn.rest.now (λ t h. h) refl (sym c.next_is.ensures ∙ c.if-not-next_is.true))

pub expression::postfix-returns-in_err-value-2-clause-is : goal.expression::postfix-returns-in_err-value-2-clause-is
expression::postfix-returns-in_err-value-2-clause-is t c =
    missed _ c.from_residual-in_err-value-2.result _ c.from_residual-in_err-value-2.ensures.1 c.in_err-value-2.ensures.is (λ r f. suffix_misses c.loop-turn.invariant c.loop-turn-test.true (suffix_begins_here _ (sym c.next_is.ensures ∙ c.if-not-next_is.false)) f)

pub expression::postfix-loop-turn-preserved : goal.expression::postfix-loop-turn-preserved
expression::postfix-loop-turn-preserved t c = suffix_goes c.loop-turn.invariant c.loop-turn-test.true c.in_ok-value-2.ensures.is c.in_ok-value-2.ensures.shorter

pub expression::postfix-returns-clause-is : goal.expression::postfix-returns-clause-is
expression::postfix-returns-clause-is t c = suffix_ends c.loop-turn.invariant c.loop-turn-test.false

pub expression::suffix-returns-in_err-name-clause-is : goal.expression::suffix-returns-in_err-name-clause-is
expression::suffix-returns-in_err-name-clause-is t c =
    missed _ c.from_residual.result _ c.from_residual.ensures.1 c.in_err-name.ensures.is (λ r f. (then (makes_on (makes_call rule.suffix) (makes_left_before (shut_by (Punctuation Dot) refl refl c.in-Some.ensures.is))) (clear _ _ refl refl) c.in-Some.ensures.is).fails r f)

pub expression::suffix-returns-in-Some-clause-is : goal.expression::suffix-returns-in-Some-clause-is
expression::suffix-returns-in-Some-clause-is t c =
    let e : at_of (expr_view c.args.value) ≡ c.args.value.at = view_at c.args.value in
    record {
      parse = in_left (pair (leaf c.in-Some.field-0-0) c.in_ok-name.ensures.is.parse);
      finds = (then (makes_on (makes_call rule.suffix) (makes_left_before (shut_by (Punctuation Dot) refl refl c.in-Some.ensures.is))) (clear _ _ refl refl) c.in-Some.ensures.is).found _ _ c.in_ok-name.ensures.is.finds;
      says = at_expr c.args.value c.in_ok-new.ensures e (field_said c.args.value c.in_ok-name.ensures.is.says);
    }

pub expression::suffix-returns-in_err-after-clause-is : goal.expression::suffix-returns-in_err-after-clause-is
expression::suffix-returns-in_err-after-clause-is t c =
    missed _ c.from_residual-in_err-after.result _ c.from_residual-in_err-after.ensures.1 c.in_err-after.ensures.is (λ r f. misses (makes_on (makes_call rule.suffix) (makes_right_after (seq_fails (clear _ _ refl refl) c.in_default.ensures.is))) (clear _ _ refl refl) f)

pub expression::suffix-returns-in_err-index-clause-is : goal.expression::suffix-returns-in_err-index-clause-is
expression::suffix-returns-in_err-index-clause-is t c =
    missed _ c.from_residual-in_err-index.result _ c.from_residual-in_err-index.ensures.1 c.in_err-index.ensures.is (λ r f. (then (makes_on (makes_call rule.suffix) (makes_right_after (seq_fails (clear _ _ refl refl) c.in_default.ensures.is))) (clear _ _ refl refl) c.in_ok-after.ensures.is.finds).fails r f)

pub expression::suffix-returns-clause-is : goal.expression::suffix-returns-clause-is
expression::suffix-returns-clause-is t c =
    let e : at_of (expr_view c.args.value) ≡ c.args.value.at = view_at c.args.value in
    record {
      parse = in_right (pair c.in_ok-after.ensures.is.parse c.in_ok-index.ensures.is.parse);
      finds = (then (makes_on (makes_call rule.suffix) (makes_right_after (seq_fails (clear _ _ refl refl) c.in_default.ensures.is))) (clear _ _ refl refl) c.in_ok-after.ensures.is.finds).found _ _ c.in_ok-index.ensures.is.finds;
      says = at_expr c.args.value c.in_ok-new-2.ensures e (item_said c.args.value c.in_ok-index.index c.in_ok-index.ensures.is.says);
    }

pub list::entries-returns-in-Some-clause-is : goal.list::entries-returns-in-Some-clause-is
list::entries-returns-in-Some-clause-is t c = record {
  parse = pair (in_right none) _;
  finds = (then makes_same (clear _ _ refl refl) (left_out (shut_by (Punctuation CloseBrace) refl refl c.in-Some.ensures.is))).found _ _ c.in-Some.ensures.is;
  says = search rules;
}

pub list::entries-returns-in_err-entries-clause-is : goal.list::entries-returns-in_err-entries-clause-is
list::entries-returns-in_err-entries-clause-is t c =
    missed _ c.from_residual.result _ c.from_residual.ensures.1 c.in_err-entries.ensures.is (λ r f. opt_then_fails (clear _ _ refl refl) f c.in_default.ensures.is)

pub list::entries-returns-in_err-rest-clause-is : goal.list::entries-returns-in_err-rest-clause-is
list::entries-returns-in_err-rest-clause-is t c =
    missed _ c.from_residual-in_err-rest.result _ c.from_residual-in_err-rest.ensures.1 c.in_err-rest.ensures.is (λ r f. (then makes_same (clear _ _ refl refl) (there c.in_ok-entries.ensures.is.finds c.in_ok-entries.ensures.shorter)).fails r f)

pub list::entries-returns-clause-is : goal.list::entries-returns-clause-is
list::entries-returns-clause-is t c = record {
  parse = pair (in_left c.in_ok-entries.ensures.is.parse) c.in_ok-rest.ensures.is.parse;
  finds = (then makes_same (clear _ _ refl refl) (there c.in_ok-entries.ensures.is.finds c.in_ok-entries.ensures.shorter)).found _ _ c.in_ok-rest.ensures.is.finds;
  says = c.in_ok-entries.ensures.is.says;
}

pub list::expressions-returns-in-Some-clause-is : goal.list::expressions-returns-in-Some-clause-is
list::expressions-returns-in-Some-clause-is t c = record {
  parse = pair (in_right none) _;
  finds = (then makes_same (list_first c.args.close (search rules) (search rules)) (left_out (shut_by (Punctuation c.args.close) (closing_shut _ (search rules)) refl c.in-Some.ensures.is))).found _ _ c.in-Some.ensures.is;
  says = search rules;
}

pub list::expressions-returns-in_err-values-clause-is : goal.list::expressions-returns-in_err-values-clause-is
list::expressions-returns-in_err-values-clause-is t c =
    missed _ c.from_residual.result _ c.from_residual.ensures.1 c.in_err-values.ensures.is (λ r f. opt_then_fails (list_first c.args.close (search rules) (search rules)) f c.in_default.ensures.is)

pub list::expressions-returns-in_err-rest-clause-is : goal.list::expressions-returns-in_err-rest-clause-is
list::expressions-returns-in_err-rest-clause-is t c =
    missed _ c.from_residual-in_err-rest.result _ c.from_residual-in_err-rest.ensures.1 c.in_err-rest.ensures.is (λ r f. (then makes_same (list_first c.args.close (search rules) (search rules)) (there c.in_ok-values.ensures.is.finds c.in_ok-values.ensures.shorter)).fails r f)

pub list::expressions-returns-clause-is : goal.list::expressions-returns-clause-is
list::expressions-returns-clause-is t c = record {
  parse = pair (in_left c.in_ok-values.ensures.is.parse) c.in_ok-rest.ensures.is.parse;
  finds = (then makes_same (list_first c.args.close (search rules) (search rules)) (there c.in_ok-values.ensures.is.finds c.in_ok-values.ensures.shorter)).found _ _ c.in_ok-rest.ensures.is.finds;
  says = c.in_ok-values.ensures.is.says;
}

pub list::entry_list-returns-in_err-first-clause-is : goal.list::entry_list-returns-in_err-first-clause-is
list::entry_list-returns-in_err-first-clause-is t c =
    missed _ c.from_residual.result _ c.from_residual.ensures.1 c.in_err-first.ensures.is (λ r f. misses makes_same (clear _ _ refl refl) f)

pub list::entry_list-loop-after-init : goal.list::entry_list-loop-after-init
list::entry_list-loop-after-init t c = entries_begin_at _ _ _ c.new-entries.ensures c.in_ok-push.ensures.ok c.in_ok-first.ensures.is c.in_ok-first.ensures.shorter

pub list::entry_list-returns-in_err-entry-clause-is : goal.list::entry_list-returns-in_err-entry-clause-is
list::entry_list-returns-in_err-entry-clause-is t c =
    missed _ c.from_residual-in_err-entry.result _ c.from_residual-in_err-entry.ensures.1 c.in_err-entry.ensures.is (λ r f. entries_miss c.loop-after.invariant c.in-Some.ensures.is c.in-Some.ensures.shorter f)

pub list::entry_list-loop-after-preserved : goal.list::entry_list-loop-after-preserved
list::entry_list-loop-after-preserved t c = entries_go_at _ _ _ c.in_ok-push-2.ensures.ok c.loop-after.invariant c.in-Some.ensures.is c.in-Some.ensures.shorter c.in_ok-entry.ensures.is c.in_ok-entry.ensures.shorter

pub list::entry_list-returns-clause-is : goal.list::entry_list-returns-clause-is
list::entry_list-returns-clause-is t c = entries_end_at _ _ c.into_vec.ensures c.loop-after.invariant c.in_default.ensures.is

pub list::expression_list-returns-in_err-first-clause-is : goal.list::expression_list-returns-in_err-first-clause-is
list::expression_list-returns-in_err-first-clause-is t c =
    missed _ c.from_residual.result _ c.from_residual.ensures.1 c.in_err-first.ensures.is (λ r f. misses makes_same (clear _ _ refl refl) f)

pub list::expression_list-loop-after-init : goal.list::expression_list-loop-after-init
list::expression_list-loop-after-init t c = exprs_begin_at _ _ _ c.new-values.ensures c.in_ok-push.ensures.ok c.in_ok-first.ensures.is c.in_ok-first.ensures.shorter

pub list::expression_list-returns-in_err-value-clause-is : goal.list::expression_list-returns-in_err-value-clause-is
list::expression_list-returns-in_err-value-clause-is t c =
    missed _ c.from_residual-in_err-value.result _ c.from_residual-in_err-value.ensures.1 c.in_err-value.ensures.is (λ r f. exprs_miss c.loop-after.invariant c.in-Some.ensures.is c.in-Some.ensures.shorter f)

pub list::expression_list-loop-after-preserved : goal.list::expression_list-loop-after-preserved
list::expression_list-loop-after-preserved t c = exprs_go_at _ _ _ c.in_ok-push-2.ensures.ok c.loop-after.invariant c.in-Some.ensures.is c.in-Some.ensures.shorter c.in_ok-value.ensures.is c.in_ok-value.ensures.shorter

pub list::expression_list-returns-clause-is : goal.list::expression_list-returns-clause-is
list::expression_list-returns-clause-is t c = exprs_end_at _ _ c.into_vec.ensures c.loop-after.invariant c.in_default.ensures.is

pub read::bounds-loop-after-init : goal.read::bounds-loop-after-init
read::bounds-loop-after-init t c = bounds_begin_at _ c.new-bounds.ensures

pub read::bounds-returns-in_err-bound-clause-is : goal.read::bounds-returns-in_err-bound-clause-is
read::bounds-returns-in_err-bound-clause-is t c =
    missed _ c.from_residual.result _ c.from_residual.ensures.1 c.in_err-bound.ensures.is (λ r f. bounds_miss c.loop-after.invariant c.in-Some.ensures.is c.in-Some.ensures.shorter f)

pub read::bounds-loop-after-preserved : goal.read::bounds-loop-after-preserved
read::bounds-loop-after-preserved t c = bounds_go_at _ _ _ c.in_ok-push.ensures.ok c.loop-after.invariant c.in-Some.ensures.is c.in-Some.ensures.shorter c.in_ok-bound.ensures.is c.in_ok-bound.ensures.shorter

pub read::bounds-returns-clause-is : goal.read::bounds-returns-clause-is
read::bounds-returns-clause-is t c = bounds_end_at _ _ c.into_vec.ensures c.loop-after.invariant c.in_default.ensures.is

pub read::limit-returns-in_default-clause-is : goal.read::limit-returns-in_default-clause-is
read::limit-returns-in_default-clause-is t c = record { parse = in_right none; finds = left_out (seq_fails (clear _ _ refl refl) c.in_default.ensures.is); says = refl }

pub read::limit-returns-in_err-rest-clause-is : goal.read::limit-returns-in_err-rest-clause-is
read::limit-returns-in_err-rest-clause-is t c =
    missed _ c.from_residual.result _ c.from_residual.ensures.1 c.in_err-rest.ensures.is (λ r f. misses (then (makes_in (in_first (takes_reads c.in-Some.ensures.is.takes)) (not_shorter c.in-Some.ensures.shorter)) (clear _ _ refl refl) c.in-Some.ensures.is) (clear _ _ refl refl) f)

pub read::limit-returns-in_err-most-clause-is : goal.read::limit-returns-in_err-most-clause-is
read::limit-returns-in_err-most-clause-is t c =
    missed _ c.from_residual-in_err-most.result _ c.from_residual-in_err-most.ensures.1 c.in_err-most.ensures.is (λ r f. (then (then (makes_in (in_first (takes_reads c.in-Some.ensures.is.takes)) (not_shorter c.in-Some.ensures.shorter)) (clear _ _ refl refl) c.in-Some.ensures.is) (clear _ _ refl refl) c.in_ok-rest.ensures.is.finds).fails r f)

pub read::limit-returns-clause-is : goal.read::limit-returns-clause-is
read::limit-returns-clause-is t c = record {
  parse = in_left (pair _ (pair c.in_ok-rest.ensures.is.parse c.in_ok-most.ensures.is.parse));
  finds = (then (then (makes_in (in_first (takes_reads c.in-Some.ensures.is.takes)) (not_shorter c.in-Some.ensures.shorter)) (clear _ _ refl refl) c.in-Some.ensures.is) (clear _ _ refl refl) c.in_ok-rest.ensures.is.finds).found _ _ c.in_ok-most.ensures.is.finds;
  says = ap plain.up_to c.in_ok-most.ensures.is.says;
}

pub primary::named-returns-in_err-lexeme-clause-is : goal.primary::named-returns-in_err-lexeme-clause-is
primary::named-returns-in_err-lexeme-clause-is t c =
    missed _ c.from_residual.result _ c.from_residual.ensures.1 c.in_err-lexeme.ensures.is (λ r f. misses (makes_call rule.named) (clear _ _ refl refl) f)

pub primary::named-returns-in_default-clause-is : goal.primary::named-returns-in_default-clause-is
primary::named-returns-in_default-clause-is t c = record {
  parse = pair c.in_ok-lexeme.ensures.is.parse (in_right none);
  finds = (then (makes_call rule.named) (clear _ _ refl refl) c.in_ok-lexeme.ensures.is.finds).found _ _ (left_out (seq_fails (clear _ _ refl refl) c.in_default.ensures.is));
  says = at_token c.in_ok-lexeme.ensures.is.parse c.in_ok-new.ensures (the_token c.in_ok-lexeme.ensures.is) (variable_said c.args.text.now c.in_ok-lexeme.ensures.is.parse c.in_ok-name.ensures (the_token c.in_ok-lexeme.ensures.is));
}

pub primary::named-returns-in_err-arguments-clause-is : goal.primary::named-returns-in_err-arguments-clause-is
primary::named-returns-in_err-arguments-clause-is t c =
    missed _ c.from_residual-in_err-arguments.result _ c.from_residual-in_err-arguments.ensures.1 c.in_err-arguments.ensures.is (λ r f. (then (makes_on (then (makes_call rule.named) (clear _ _ refl refl) c.in_ok-lexeme.ensures.is.finds) (makes_in (in_first (takes_reads c.in-Some.ensures.is.takes)) (not_shorter c.in-Some.ensures.shorter))) (clear _ _ refl refl) c.in-Some.ensures.is).fails r f)

pub primary::named-returns-clause-is : goal.primary::named-returns-clause-is
primary::named-returns-clause-is t c = record {
  parse = pair c.in_ok-lexeme.ensures.is.parse (in_left (pair _ c.in_ok-arguments.ensures.is.parse));
  finds = (then (makes_on (then (makes_call rule.named) (clear _ _ refl refl) c.in_ok-lexeme.ensures.is.finds) (makes_in (in_first (takes_reads c.in-Some.ensures.is.takes)) (not_shorter c.in-Some.ensures.shorter))) (clear _ _ refl refl) c.in-Some.ensures.is).found _ _ c.in_ok-arguments.ensures.is.finds;
  says = at_token c.in_ok-lexeme.ensures.is.parse c.in_ok-new-2.ensures (the_token c.in_ok-lexeme.ensures.is) (call_said c.args.text.now c.in_ok-lexeme.ensures.is.parse c.in_ok-arguments.arguments c.in_ok-name.ensures (the_token c.in_ok-lexeme.ensures.is) c.in_ok-arguments.ensures.is.says);
}
