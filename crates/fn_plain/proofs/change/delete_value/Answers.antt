use Rattle.cv_values.specs.Trees.{tree}
use Rattle.cv_values.specs.Value.{null}
use Rattle.std.proofs.Common.{refl}
use Rattle.fn_tree.specs.Reading.{as_id}
use Rattle.fn_tree.specs.Writing.{origin_of, doc_there}
use Rattle.fn_plain.specs.States.{site_at}
use Rattle.fn_plain.proofs.Changing.{within_more, done_with, write_gone, delete_there, delete_id}
use Rattle.fn_plain.proofs.Faults.{handed_on}
use Rattle.fn_plain.proofs.Steps.{gave_pure, first_fails, then_gives, then_fails}
use Rattle.fn_plain.proofs.change.delete_value.Goals as goal

pub returns-in_err-origin_of-clause-err : goal.returns-in_err-origin_of-clause-err
returns-in_err-origin_of-clause-err c n =
    let x = c.args.context.now in
    let p = c.args.progress.now in
    let s = site_at x n in
    let e = c.in_err-origin_of.field-0.0 in
    handed_on c.from_residual.result e _ (first_fails x p p (origin_of s) (delete_id s (tree c.args.v.now)) e (c.in_err-origin_of.ensures.err n)) c.from_residual.ensures.1

pub returns-in_err-id-clause-err : goal.returns-in_err-id-clause-err
returns-in_err-id-clause-err c n =
    let x = c.args.context.now in
    let p = c.args.progress.now in
    let s = site_at x n in
    let e = c.in_err-id.field-0.0 in
    handed_on c.from_residual-in_err-id.result e _
    (then_fails (delete_id s (tree c.args.v.now)) p e (c.in_ok-origin_of.ensures.ok n)
    (first_fails x p p (as_id s (tree c.args.v.now)) (delete_there s) e (c.in_err-id.ensures.err n)))
    c.from_residual-in_err-id.ensures.1

pub returns-in_err-old-clause-err : goal.returns-in_err-old-clause-err
returns-in_err-old-clause-err c n =
    let x = c.args.context.now in
    let p = c.args.progress.now in
    let s = site_at x n in
    let e = c.in_err-old.field-0.0 in
    let new = c.doc_there.new.progress in
    handed_on c.from_residual-in_err-old.result e _
    (then_fails (delete_id s (tree c.args.v.now)) new e (c.in_ok-origin_of.ensures.ok n)
    (then_fails (delete_there s) new e (c.in_ok-id.ensures.ok n)
    (first_fails x p new (doc_there s c.in_ok-id.id) (write_gone s c.in_ok-id.id) e (c.in_err-old.ensures.err n))))
    c.from_residual-in_err-old.ensures.1

pub write-requires : goal.write-requires
write-requires c = record { within = within_more (c.in_ok-old.ensures.ok 0).within }

pub returns-in_err-write-clause-err : goal.returns-in_err-write-clause-err
returns-in_err-write-clause-err c n =
    let x = c.args.context.now in
    let s = site_at x n in
    let e = c.in_err-write.field-0.0 in
    let mid = c.doc_there.new.progress in
    let new = c.write.new.progress in
    handed_on c.from_residual-in_err-write.result e _
    (then_fails (delete_id s (tree c.args.v.now)) new e (c.in_ok-origin_of.ensures.ok n)
    (then_fails (delete_there s) new e (c.in_ok-id.ensures.ok n)
    (then_fails (write_gone s c.in_ok-id.id) new e (c.in_ok-old.ensures.ok n)
    (first_fails x mid new _ (done_with null) e (c.in_err-write.ensures.err n 0 refl)))))
    c.from_residual-in_err-write.ensures.1

pub returns-clause-ok : goal.returns-clause-ok
returns-clause-ok c n =
    let s = site_at c.args.context.now n in
    let written = c.in_ok-write.ensures.ok n 0 refl in
    then_gives (delete_id s (tree c.args.v.now)) (c.in_ok-origin_of.ensures.ok n)
    (then_gives (delete_there s) (c.in_ok-id.ensures.ok n)
    (then_gives (write_gone s c.in_ok-id.id) (c.in_ok-old.ensures.ok n)
    (then_gives (done_with null) written (gave_pure null written.within))))
