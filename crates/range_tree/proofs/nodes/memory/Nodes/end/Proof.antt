-- `end` owns nothing that is left. Assumes `Logic`.
use Rattle.std.proofs.Common.{◌≡◌, List, [], ◌∷◌, ◌++◌, refl, sym, subst}
use mir.Val.{Val}
use base.Logic.{SProp, ent, emp, id⊢}
use base.Fml.{ftrue, fsep}
use contract.Monad.{fact}
use contract.Running.{tables}
use prog.Wp.{WpFn}
use types.Kit.{‵, raw, ◌⊛◌, ◌$◌, ◌∵◌, !, qed, by, keep, drop, split, use0, fsplit, fjoin, suffices, feq_i}
use mir.Val.{vunit}
use types.Run.{unit_lit, of_opd, returns, enter}
use types.ByLocal.{alloc_all, pass_all, free_all, look_at, sets}
use denote.Signature.{plain}
use denote.Steps.{nothing}
use denote.Triple.Walked.{Stays, stay_dropped, walk_of, Goes-dropped}
use Rattle.std.proofs.raw_atomic.Walks.{proved_at, leaves}
use Rattle.range_tree.specs.Tree.{Leaf}
use Rattle.range_tree.proofs.Words.{mark, mark_had}
use Rattle.range_tree.specs.contracts.nodes.memory.Nodes.{the_row as B}
use Rattle.range_tree.specs.contracts.nodes.memory.Nodes.end as f
use Rattle.range_tree.proofs.nodes.memory.Nodes.end.Statement.{statement}
use Rattle.range_tree.proofs.nodes.memory.Nodes.end.Code as code

abbrev hs : Stays f.ended.signature.params f.ended.kept
hs = (stay_dropped (plain (λ _. B)) f.ended.kept.0, tt)

pub end_spec : {M : Type 1} → statement M
end_spec 𝓤 𝓛 𝓜 𝓡 wired =
    let c = f.clauses 𝓛 𝓜.mem 𝓡.returns in let 𝓣 = tables 𝓤 𝓛.H 𝓜 𝓡 𝓡.env in
    proved_at 𝓛 f.ended hs c 𝓜 𝓡 (Goes-dropped 𝓛 0 (plain (λ _. B)) f.ended.kept.0 (λ κs x w. refl), tt)
    f.Key.name code.function (code.unfolded 𝓤 𝓛.H 𝓜 𝓡 wired) (λ z are.
    let Post : Val → SProp 𝓤 = (walk_of 𝓛 f.ended hs c).post z in let Run : List Val → SProp 𝓤 = λ ws. WpFn 𝓤 𝓛.H 𝓣.C 𝓣.Λ code.function ws Post in
    let x : B.Denot = z.0.3.0 in let Asked : Type 0 = x.tree ≡ Leaf in
    qed 𝓛 ((‵ ftrue ⊛ ‵ (fsep (B.own_val x z.0.4.0) ftrue)) ∷ raw (fact 𝓤 Asked) ∷ []) ∵
    split ! $ drop ! $ fsplit ! $ fsplit ! $ mark_had ! z.0.4.0 (λ em. keep ! [] $
    let us : List Val = mark ∷ [] in
    suffices ! (Run us) (subst (λ (xs : List Val). ent 𝓤 (Run us) (Run xs)) (sym (λ i. em i ++ [])) (id⊢ 𝓤 (Run us))) $
    enter ! 𝓣.C 𝓣.Λ code.function us Post $ alloc_all ! (λ k. pass_all ! refl ((tt, (tt, tt)), tt) $
    sets ! (of_opd ! (unit_lit !)) refl (tt, tt) $ returns ! (look_at ! 0 refl) $ free_all ! refl $
    use0 𝓛 (raw (emp 𝓤)) (id⊢ 𝓤 (emp 𝓤)) $ feq_i ! (List Val) (vunit ∷ []) (vunit ∷ []) refl $
    nothing ! $ nothing ! $ fjoin ! $ nothing ! $
    by ! (leaves 𝓛 f.ended hs c z vunit tt (tt, tt) (tt, tt)))))
