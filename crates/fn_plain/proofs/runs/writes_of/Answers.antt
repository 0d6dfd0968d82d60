use Rattle.std.proofs.Common.{◌≡◌, ◌∙◌, ◌+◌, ◌++◌, [], take, drop, List, sym, ap}
use Rattle.cv_keys.specs.declared.write.Write.{Write}
use Rattle.fn_tree.specs.Run.{puts_to, unless_gone, writes_to}
use Rattle.fn_tree.specs.declared.stop.Put.{Put}
use Rattle.fn_plain.proofs.PutWrites.{write_to, first-put, later-put}
use Rattle.fn_plain.proofs.runs.writes_of.Goals.{then-not-puts_to+in_ok-add_write, else-not-puts_to}
use Rattle.fn_plain.proofs.runs.writes_of.Goals as goal

pub loop-at-preserved : goal.loop-at-preserved
loop-at-preserved c =
    let i = c.loop-at.at in
    let before = c.args.before.now in
    let after = c.args.after.now in
    let puts = c.args.puts.now in
    let p = c.index-puts-at.result in
    let there : puts_to p.id (take i puts) ≡ c.puts_to.result = ap (λ (q : Put). puts_to q.id (take i puts)) c.index-puts-at.is ∙ sym c.puts_to.ensures in
    elim c.if-not-puts_to.branch [
      | then-not-puts_to+in_ok-add_write w ↦
          ap (λ (ws : List Write). ws ++ writes_to before after (take (i + 1) puts) (drop (i + 1) puts))
          (w.writes-is ∙ w.in_ok-add_write.ensures ∙ ap (λ (q : Put). c.loop-at.writes ++ unless_gone (write_to before after q.id) []) (sym c.index-puts-at.is))
          ∙ sym (first-put before after c.loop-at.writes puts i p c.loop-at-test.true c.index-puts-at.is (sym (there ∙ w.if-not-puts_to.true)))
          ∙ c.loop-at.invariant
      | else-not-puts_to w ↦
          ap (λ (ws : List Write). ws ++ writes_to before after (take (i + 1) puts) (drop (i + 1) puts)) w.writes-is
          ∙ sym (later-put before after c.loop-at.writes puts i p c.loop-at-test.true c.index-puts-at.is (sym (there ∙ w.if-not-puts_to.false)))
          ∙ c.loop-at.invariant
    ]
