-- `best` hands the reference on: what it shows of the tree shows this part. Assumes `Logic`.
use Rattle.std.proofs.Common.{◌≡◌, List, [], ◌∷◌, ◌++◌, refl, sym, subst}
use mir.Val.{Val, vptr}
use base.Logic.{SProp, ent, emp, id⊢}
use base.Fml.{ftrue, flft}
use contract.Monad.{fact, fact_i}
use contract.Running.{tables}
use prog.Wp.{WpFn}
use types.Kit.{‵, raw, ◌⊛◌, ◌$◌, ◌∵◌, !, qed, by, move, keep, split, join, use0, use1, fsplit, fjoin, suffices, feq_i, feq_l}
use types.Run.{of_opd, returns, enter}
use types.ByLocal.{alloc_all, pass_all, free_all, look_at, get, sets}
use denote.RattleType.{owns}
use denote.Ref.{Bor}
use denote.Builtin.{RefOf}
use denote.Opens.{hide, unhide}
use denote.Signature.{plain, types_at}
use denote.Steps.{nothing}
use denote.Triple.Walked.{Stays, stay_dropped, walk_of, Goes-dropped}
use Rattle.std.proofs.raw_atomic.Walks.{proved_at, leaves}
use Rattle.range_tree.specs.Tree.{Tree}
use Rattle.range_tree.specs.Ownership.{tree_lent}
use Rattle.range_tree.proofs.Shown.{shows_best}
use Rattle.range_tree.specs.contracts.nodes.memory.Nodes.{the_row as B}
use Rattle.range_tree.specs.Best.{best_of}
use Rattle.range_tree.specs.contracts.nodes.memory.Nodes.best as f
use Rattle.range_tree.proofs.nodes.memory.Nodes.best.Statement.{statement}
use Rattle.range_tree.proofs.nodes.memory.Nodes.best.Code as code

abbrev self : denote.Signature.Slot 1
self = RefOf (0 ∷ []) tt (plain (λ _. B)) (λ _. tt)

abbrev hs : Stays f.ended.signature.params f.ended.kept
hs = (stay_dropped self f.ended.kept.0, tt)

pub best_spec : {M : Type 1} → statement M
best_spec 𝓤 𝓛 𝓜 𝓡 wired =
    let c = f.clauses 𝓛 𝓜.mem 𝓡.returns in let 𝓣 = tables 𝓤 𝓛.H 𝓜 𝓡 𝓡.env in
    proved_at 𝓛 f.ended hs c 𝓜 𝓡 (Goes-dropped 𝓛 1 self f.ended.kept.0 (λ κs x w. refl), tt)
    f.Key.name code.function (code.unfolded 𝓤 𝓛.H 𝓜 𝓡 wired) (λ z are.
    let Post : Val → SProp 𝓤 = (walk_of 𝓛 f.ended hs c).post z in let Run : List Val → SProp 𝓤 = λ ws. WpFn 𝓤 𝓛.H 𝓣.C 𝓣.Λ code.function ws Post in
    let κ = z.0.0.0 in let q = z.0.1.0 in let s : Bor B.Denot = z.0.3.0 in let t : Tree = s.now.tree in
    qed 𝓛 (((‵ (flft κ q) ⊛ ‵ ftrue) ⊛ ‵ (owns (types_at f.ended.signature.params z.0.0) z.0.3 z.0.4)) ∷ raw (emp 𝓤) ∷ []) ∵
    split ! $ split ! $ move ! (2 ∷ []) $ fsplit ! $ fsplit ! $ feq_l ! (λ es. keep ! (0 ∷ 2 ∷ []) $
    unhide ! $ fsplit ! $ move ! (1 ∷ []) $ use1 𝓛 (‵ (tree_lent (best_of t) κ)) (shows_best 𝓛 κ t) $ move ! (1 ∷ 0 ∷ []) $ fjoin ! $ hide ! $
    -- [the part, as a `&` has it; the token]
    let u : Val = vptr s.ref_ptr.0 s.ref_ptr.1 in let us : List Val = u ∷ [] in
    suffices ! (Run us) (subst (λ (xs : List Val). ent 𝓤 (Run us) (Run xs)) (sym (λ i. es i ++ [])) (id⊢ 𝓤 (Run us))) $
    enter ! 𝓣.C 𝓣.Λ code.function us Post $ alloc_all ! (λ k. pass_all ! refl ((tt, tt), tt) $
    sets ! (of_opd ! (get ! refl)) refl (tt, tt) $ returns ! (look_at ! 0 refl) $ free_all ! refl $
    let r : Bor B.Denot = record { ref_ptr = s.ref_ptr; now = record { mark = s.now.mark; tree = best_of t } } in let Told : Type 0 = best_of t ≡ best_of t in
    feq_i ! (List Val) (u ∷ []) (u ∷ []) refl $ fjoin ! $ use0 𝓛 (raw (fact 𝓤 Told)) (fact_i 𝓤 Told (emp 𝓤) refl) $
    nothing ! $ move ! (3 ∷ 0 ∷ []) $ join ! $ nothing ! $ nothing ! $ fjoin ! $ move ! (1 ∷ 0 ∷ 3 ∷ 2 ∷ []) $
    by ! (leaves 𝓛 f.ended hs c z u r (tt, tt) (tt, tt)))))
