use Rattle.std.proofs.Common.{◌≡◌, true, false, refl, sym, ◌∙◌}
use Rattle.std.specs.Cmp.Lexicographic.{texts_ties}
use Rattle.std.specs.Ordering.{is_eq}
use Rattle.cv_values.specs.Order.{text_cmp}
use Rattle.cv_docs.proofs.entry.IndexEntry.counts.Goals as goal

pub returns-then-eq : goal.returns-then-eq
returns-then-eq c =
    let e : is_eq (text_cmp c.args.self.now.key c.args.key.now) ≡ true = sym (texts_ties c.args.self.now.key c.args.key.now) ∙ sym c.eq.ensures ∙ c.if-eq.true in
    rw e refl

pub returns-else-eq : goal.returns-else-eq
returns-else-eq c =
    let e : is_eq (text_cmp c.args.self.now.key c.args.key.now) ≡ false = sym (texts_ties c.args.self.now.key c.args.key.now) ∙ sym c.eq.ensures ∙ c.if-eq.false in
    rw e c.if-eq.false
