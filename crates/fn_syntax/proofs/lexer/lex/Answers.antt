use Rattle.std.proofs.Common.{arith}
use Rattle.fn_tree.specs.declared.begin.Begin.TheVariants.{Gap, Token}
use Rattle.fn_syntax.proofs.Reading.{nothing_read, begun_at, gap_passed, token_read, fits_at}
use Rattle.fn_syntax.proofs.lexer.lex.Goals as goal

pub loop-at-init : goal.loop-at-init
loop-at-init c = rw c.new-lexemes.ensures.items (nothing_read c.as_bytes-bytes.result.now)

pub overflow_add-at : goal.overflow_add-at
overflow_add-at c =
    let text = c.as_bytes-bytes.result.now in
    let x = Gap c.in-Gap.len in
    let f = fits_at text c.loop-at.at x c.loop-at-test.true (begun_at text c.loop-at.at c.begin_of.result x c.begin_of.ensures c.in-Gap.is) in
    omega (arith, f.1)

pub loop-at-smaller-in-Gap : goal.loop-at-smaller-in-Gap
loop-at-smaller-in-Gap c =
    let text = c.as_bytes-bytes.result.now in
    let x = Gap c.in-Gap.len in
    let f = fits_at text c.loop-at.at x c.loop-at-test.true (begun_at text c.loop-at.at c.begin_of.result x c.begin_of.ensures c.in-Gap.is) in
    omega (arith, f.0, c.loop-at-test.true)

pub loop-at-preserved-in-Gap : goal.loop-at-preserved-in-Gap
loop-at-preserved-in-Gap c =
    let text = c.as_bytes-bytes.result.now in
    let x = Gap c.in-Gap.len in
    gap_passed text c.loop-at.at c.in-Gap.len c.loop-at.lexemes.items c.loop-at.invariant c.loop-at-test.true
    (begun_at text c.loop-at.at c.begin_of.result x c.begin_of.ensures c.in-Gap.is)

pub overflow_add-at-in-Token : goal.overflow_add-at-in-Token
overflow_add-at-in-Token c =
    let text = c.as_bytes-bytes.result.now in
    let x = Token c.in-Token.terminal c.in-Token.len in
    let f = fits_at text c.loop-at.at x c.loop-at-test.true (begun_at text c.loop-at.at c.begin_of.result x c.begin_of.ensures c.in-Token.is) in
    omega (arith, f.1)

pub loop-at-smaller : goal.loop-at-smaller
loop-at-smaller c =
    let text = c.as_bytes-bytes.result.now in
    let x = Token c.in-Token.terminal c.in-Token.len in
    let f = fits_at text c.loop-at.at x c.loop-at-test.true (begun_at text c.loop-at.at c.begin_of.result x c.begin_of.ensures c.in-Token.is) in
    omega (arith, f.0, c.loop-at-test.true)

pub loop-at-preserved : goal.loop-at-preserved
loop-at-preserved c =
    let text = c.as_bytes-bytes.result.now in
    let x = Token c.in-Token.terminal c.in-Token.len in
    rw c.in_ok-push-in-Token.ensures.items
    (token_read text c.loop-at.at c.in-Token.len c.in-Token.terminal c.loop-at.lexemes.items c.loop-at.invariant c.loop-at-test.true
    (begun_at text c.loop-at.at c.begin_of.result x c.begin_of.ensures c.in-Token.is))
