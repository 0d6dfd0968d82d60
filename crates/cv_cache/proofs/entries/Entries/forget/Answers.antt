use Rattle.std.proofs.Common.{◌∙◌, sym, subst}
use Rattle.cv_cache.proofs.Tied.{none_goes, is_there, read_of_number, others_are, tied_without}
use Rattle.cv_cache.specs.Ties.{IsTied}
use Rattle.cv_cache.proofs.entries.Entries.forget.Goals as goal

pub returns-in_default-clause-entries : goal.returns-in_default-clause-entries
returns-in_default-clause-entries c =
    let e = c.args.self.now in
    none_goes c.args.number e.recent e.owners.queries e.ranges c.requires c.in_default.ensures.query

pub unreachable-requires : goal.unreachable-requires
unreachable-requires c =
    let e = c.args.self.now in
    is_there c.args.number e.recent e.owners.queries e.ranges c.requires c.len-count.ensures.distinct c.in-Some.query c.in-Some.ensures.query c.in_default-take.ensures.kept

pub take_out-requires : goal.take_out-requires
take_out-requires c =
    let e = c.args.self.now in
    read_of_number c.args.number e.recent e.owners.queries e.ranges c.requires c.len-count.ensures.distinct c.in-Some.query c.in-Some.ensures.query c.in-Some-take.kept c.in-Some-take.ensures.kept

pub returns-clause-entries : goal.returns-clause-entries
returns-clause-entries c =
    let e = c.args.self.now in
    c.take.ensures.entries
    ∙ others_are c.args.number e.recent e.owners.queries e.ranges c.requires c.len-count.ensures.distinct c.in-Some.query c.in-Some.ensures.query c.in-Some-take.kept c.in-Some-take.ensures.kept

pub returns-clause-tied : goal.returns-clause-tied
returns-clause-tied c =
    let e = c.args.self.now in
    let others = others_are c.args.number e.recent e.owners.queries e.ranges c.requires c.len-count.ensures.distinct c.in-Some.query c.in-Some.ensures.query c.in-Some-take.kept c.in-Some-take.ensures.kept in
    subst (λ r. IsTied r c.remove.new.self.queries c.take_out.new.tree) (sym (c.take.ensures.entries ∙ others))
    (tied_without c.args.number e.recent e.owners.queries c.remove.new.self.queries e.ranges c.take_out.new.tree c.requires c.remove.ensures.updates c.take_out.ensures.gone c.take_out.ensures.others)
