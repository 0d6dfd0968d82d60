use Rattle.std.proofs.Common.{◌≡◌, ◌+◌, ◌∷◌, ◌++◌, [], ℕ, List, Ok, Err, drop, refl, sym, ap, ◌∙◌, subst}
use Rattle.fn_tree.specs.SyntaxTree.{ModuleTree}
use Rattle.cv_stand.specs.Events.{Event}
use Rattle.cv_stand.specs.Plays.{Stage, after, output, play}
use Rattle.cv_stand.specs.ScriptViews.{event_view, events_view}
use Rattle.cv_stand.specs.Stands.{module_of}
use Rattle.cv_stand.specs.Texts.{with_feeds}
use Rattle.cv_stand.specs.Writes.{Writes}
use Rattle.cv_stand.proofs.Outcomes.{error_is}
use Rattle.cv_stand.proofs.Texts.{Playing, next_view, no_views, playing_none, events_split}
use Rattle.cv_stand.proofs.Writing.{writing_more, writing_cut, writing_all}
use Rattle.cv_stand.proofs.script_player.play_all.Goals as goal

pub loop-numbered-init : goal.loop-numbered-init
loop-numbered-init g c = record { playing = playing_none _ _ _ (g.K.Sink.held c.args.out.now) (g.K.Sink.faults c.args.out.now); program = refl }

pub play-requires : goal.play-requires
play-requires g c = c.requires ∙ sym c.loop-numbered.invariant.program

pub loop-numbered-preserved : goal.loop-numbered-preserved
loop-numbered-preserved g c =
    let m = module_of c.args.stand.now in
    let es = events_view c.args.events.now in
    let i = c.loop-numbered.numbered-index in
    let e = c.numbered-item.result in
    let s = c.loop-numbered.stand.stage in
    let rest = drop (i + 1) es in
    let h1 = g.K.Sink.held c.loop-numbered.out in
    let h2 = g.K.Sink.held c.play.new.out in
    let f1 = g.K.Sink.faults c.loop-numbered.out in
    let f2 = g.K.Sink.faults c.play.new.out in
    let before = c.loop-numbered.invariant.playing in
    let same = c.loop-numbered.invariant.program in
    let next : drop i es ≡ (e.0, event_view e.1) ∷ rest = next_view (λ x. (x.0, event_view x.1)) c.args.events.now i e c.loop-numbered-test.true c.numbered-item.is in
    let behind : c.play.new.self.stage ≡ after m s (event_view e.1) = c.in_ok-play.ensures.after ∙ ap (λ (n : ModuleTree). after n s (event_view e.1)) same in
    let split : with_feeds (play m s (drop i es)).lines ≡ with_feeds (output m s (event_view e.1)) ++ with_feeds (play m c.play.new.self.stage rest).lines =
    ap (λ (xs : List (ℕ × Event)). with_feeds (play m s xs).lines) next ∙ events_split m s (e.0, event_view e.1) rest
    ∙ ap (λ (t : Stage). with_feeds (output m s (event_view e.1)) ++ with_feeds (play m t rest).lines) (sym behind) in
    let told = subst (λ (n : ModuleTree). Writes (with_feeds (output n s (event_view e.1))) h1 h2 f1 f2 (Ok c.in_ok-play.field-0)) same c.in_ok-play.ensures.writes in
    record {
      playing = record {
        last = before.last ∙ ap (λ (xs : List (ℕ × Event)). (play m s xs).last) next ∙ ap (λ (t : Stage). (play m t rest).last) (sym behind);
        writing = writing_more (with_feeds (play m c.play.new.self.stage rest).lines) split before.writing told;
      };
      program = c.in_ok-play.ensures.program ∙ same;
    }

pub returns-in_err-play-clause-writes : goal.returns-in_err-play-clause-writes
returns-in_err-play-clause-writes g c =
    let m = module_of c.args.stand.now in
    let es = events_view c.args.events.now in
    let i = c.loop-numbered.numbered-index in
    let e = c.numbered-item.result in
    let s = c.loop-numbered.stand.stage in
    let rest = drop (i + 1) es in
    let h1 = g.K.Sink.held c.loop-numbered.out in
    let h2 = g.K.Sink.held c.play.new.out in
    let f1 = g.K.Sink.faults c.loop-numbered.out in
    let f2 = g.K.Sink.faults c.play.new.out in
    let r = c.from_residual in
    let next : drop i es ≡ (e.0, event_view e.1) ∷ rest = next_view (λ x. (x.0, event_view x.1)) c.args.events.now i e c.loop-numbered-test.true c.numbered-item.is in
    let split = ap (λ (xs : List (ℕ × Event)). with_feeds (play m s xs).lines) next ∙ events_split m s (e.0, event_view e.1) rest in
    let told =
    subst (λ (n : ModuleTree). Writes {T = Unit {0}} (with_feeds (output n s (event_view e.1))) h1 h2 f1 f2 (Err c.in_err-play.field-0.0)) c.loop-numbered.invariant.program c.in_err-play.ensures.writes in
    writing_cut r.result (with_feeds (play m (after m s (event_view e.1)) rest).lines) split c.loop-numbered.invariant.playing.writing told
    (error_is r.result _ r.ensures.0 r.ensures.1)

pub returns-clause-last : goal.returns-clause-last
returns-clause-last g c =
    let m = module_of c.args.stand.now in
    let s = c.loop-numbered.stand.stage in
    let none : drop c.loop-numbered.numbered-index (events_view c.args.events.now) ≡ [] = no_views (λ x. (x.0, event_view x.1)) c.args.events.now c.loop-numbered.numbered-index c.loop-numbered-test.false in
    sym (c.loop-numbered.invariant.playing.last ∙ ap (λ (rest : List (ℕ × Event)). (play m s rest).last) none)

pub returns-clause-writes : goal.returns-clause-writes
returns-clause-writes g c =
    let m = module_of c.args.stand.now in
    let s = c.loop-numbered.stand.stage in
    let none : drop c.loop-numbered.numbered-index (events_view c.args.events.now) ≡ [] = no_views (λ x. (x.0, event_view x.1)) c.args.events.now c.loop-numbered.numbered-index c.loop-numbered-test.false in
    writing_all _ (ap (λ (rest : List (ℕ × Event)). with_feeds (play m s rest).lines) none) c.loop-numbered.invariant.playing.writing
