use Rattle.std.proofs.Common.{length-take, sym, arith}
use Rattle.fn_syntax.proofs.TooDeep.{too_deep_within, cut_at}
use Rattle.fn_syntax.proofs.module_text.cut.Goals as goal

pub slice_bounds-result-end : goal.slice_bounds-result-end
slice_bounds-result-end c = let h = too_deep_within c.args.tokens.now c.in-Some.index (sym c.in-Some.ensures) in simp length-take (omega arith)

pub offset_bounds-tokens-index : goal.offset_bounds-tokens-index
offset_bounds-tokens-index c = let h = too_deep_within c.args.tokens.now c.in-Some.index (sym c.in-Some.ensures) in omega arith

pub bounds-tokens-index : goal.bounds-tokens-index
bounds-tokens-index c = too_deep_within c.args.tokens.now c.in-Some.index (sym c.in-Some.ensures)

pub returns-in-Some : goal.returns-in-Some
returns-in-Some c = cut_at c.args.tokens.now c.in-Some.index _ (sym c.in-Some.ensures)
