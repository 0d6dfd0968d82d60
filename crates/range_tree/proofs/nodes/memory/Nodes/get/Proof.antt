-- `get` shows a node that the tree lends. Assumes `Logic`.
use Rattle.std.proofs.Common.{◌≡◌, List, [], ◌∷◌, ◌++◌, refl, sym, ap, ◌∙◌, subst}
use mir.Val.{Val, vptr}
use base.Logic.{SProp, ent, emp, id⊢, fst∗, never}
use base.Fml.{ftrue, flft}
use contract.Monad.{fact, fact_i}
use contract.Running.{tables}
use prog.Wp.{WpFn}
use types.Logic.{sem}
use types.Kit.{‵, raw, ◌⊛◌, at_ret, ◌$◌, ◌∵◌, !, qed, by, move, keep, drop, split, join, use0, use1, fsplit, fjoin, suffices, feq_i, feq_l}
use types.Run.{stop, fld, hop, from, addr, of_opd, first, blocks, exec, returns, enter}
use types.ByLocal.{alloc_all, pass_all, free_all, look_at, look_in_at, get, sets, sets_last, env}
use types.Part.{sub, whole}
use denote.RattleType.{owns}
use denote.Memory.{shared_of}
use denote.RawPtr.{Ptr, block_ptr, in_a_block}
use denote.Ref.{Bor}
use denote.Builtin.{RefOf}
use denote.Opens.{hide, unhide}
use denote.Signature.{plain, types_at}
use denote.Steps.{nothing, heard}
use denote.Struct.Lending.{lent_at}
use denote.Triple.Walked.{Stays, stay_dropped, walk_of, Goes-dropped}
use Rattle.core.proofs.alloc.Shapes.{after}
use Rattle.std_alloc.proofs.RcSteps.{word}
use Rattle.std.proofs.raw_atomic.Walks.{proved_at, leaves}
use Rattle.range_tree.specs.Tree.{Tree, root_of, node_of, forked}
use Rattle.range_tree.proofs.Words.{word_had}
use Rattle.range_tree.proofs.Shown.{shows_node}
use Rattle.range_tree.specs.contracts.nodes.memory.Node.{the_row as N}
use Rattle.range_tree.specs.contracts.nodes.memory.Link.{the_row as P}
use Rattle.range_tree.specs.contracts.nodes.memory.Nodes.{the_row as B}
use Rattle.range_tree.specs.contracts.nodes.memory.Nodes.get as f
use Rattle.range_tree.proofs.nodes.memory.Nodes.get.Statement.{statement}
use Rattle.range_tree.proofs.nodes.memory.Nodes.get.Code as code

abbrev self : denote.Signature.Slot 1
self = RefOf (0 ∷ []) tt (plain (λ _. B)) (λ _. tt)

abbrev hs : Stays f.ended.signature.params f.ended.kept
hs = (stay_dropped self f.ended.kept.0, (stay_dropped (plain (λ _. P)) f.ended.kept.1.0, tt))

pub get_spec : {M : Type 1} → statement M
get_spec 𝓤 𝓛 𝓜 𝓡 wired =
    let c = f.clauses 𝓛 𝓜.mem 𝓡.returns in let 𝓣 = tables 𝓤 𝓛.H 𝓜 𝓡 𝓡.env in
    proved_at 𝓛 f.ended hs c 𝓜 𝓡 (Goes-dropped 𝓛 1 self f.ended.kept.0 (λ κs x w. refl), (Goes-dropped 𝓛 1 (plain (λ _. P)) f.ended.kept.1.0 (λ κs x w. refl), tt))
    f.Key.name code.function (code.unfolded 𝓤 𝓛.H 𝓜 𝓡 wired) (λ z are.
    let Post : Val → SProp 𝓤 = (walk_of 𝓛 f.ended hs c).post z in let Run : List Val → SProp 𝓤 = λ ws. WpFn 𝓤 𝓛.H 𝓣.C 𝓣.Λ code.function ws Post in
    let κ = z.0.0.0 in let q = z.0.1.0 in let s : Bor B.Denot = z.0.3.0 in let t : Tree = s.now.tree in let at : P.Denot = z.0.3.1.0 in
    let Top : Type 0 = root_of t ≡ Rattle.std.specs.Prelude.Some at.ptr in
    qed 𝓛 (((‵ (flft κ q) ⊛ ‵ ftrue) ⊛ ‵ (owns (types_at f.ended.signature.params z.0.0) z.0.3 z.0.4)) ∷ raw (fact 𝓤 Top) ∷ []) ∵
    move ! (1 ∷ []) $ heard ! Top (λ top. split ! $ split ! $ move ! (2 ∷ []) $ fsplit ! $ fsplit ! $ feq_l ! (λ es.
    move ! (1 ∷ []) $ fsplit ! $ word_had ! at.ptr z.0.4.1.0 (λ ew. keep ! (1 ∷ 2 ∷ []) $
    let cut = forked t at.ptr top in let n = cut.1 in
    unhide ! $ fsplit ! $ drop ! $
    use1 𝓛 (‵ (lent_at N at.ptr n κ)) (shows_node 𝓛 κ t at.ptr cut.0 n cut.2 cut.3) $
    in_a_block ! at.ptr (λ p. lent_at N p n κ) (fst∗ 𝓤 (never 𝓤) (sem 𝓛 (shared_of N n 0 0 κ))) (λ b o e. fsplit ! $ drop ! $ hide ! $
    -- [the node, as a `&` has it; the token]
    let u : Val = vptr b o in let us : List Val = vptr s.ref_ptr.0 s.ref_ptr.1 ∷ word (block_ptr b o) ∷ [] in
    suffices ! (Run us) (subst (λ (xs : List Val). ent 𝓤 (Run us) (Run xs)) (sym (λ i. es i ++ ((ew ∙ ap (λ (π : Ptr). word π ∷ []) e) i ++ []))) (id⊢ 𝓤 (Run us))) $
    enter ! 𝓣.C 𝓣.Λ code.function us Post $ alloc_all ! (λ k. pass_all ! refl ((tt, tt), ((tt, (tt, tt)), tt)) $ let En = env code.function.locals k in
    first ! $ blocks ! $ sets_last ! (addr ! (from ! (fld ! refl (hop ! (look_in_at ! 2 (sub ! 0 refl (whole !))) (stop !))))) refl (tt, tt) $
    exec ! 𝓣.C 𝓣.Λ En (after 1 code.function.body) (at_ret En Post) $ sets ! (of_opd ! (get ! refl)) refl (tt, tt) $
    returns ! (look_at ! 0 refl) $ free_all ! refl $
    let r : Bor N.Denot = record { ref_ptr = (b, o); now = n } in let Told : Type 0 = node_of t ≡ Rattle.std.specs.Prelude.Some n in
    feq_i ! (List Val) (u ∷ []) (u ∷ []) refl $ fjoin ! $ use0 𝓛 (raw (fact 𝓤 Told)) (fact_i 𝓤 Told (emp 𝓤) (ap node_of cut.3)) $
    nothing ! $ move ! (3 ∷ 0 ∷ []) $ join ! $ nothing ! $ nothing ! $ fjoin ! $ nothing ! $ fjoin ! $ move ! (1 ∷ 0 ∷ 3 ∷ 2 ∷ []) $
    by ! (leaves 𝓛 f.ended hs c z u r (tt, (tt, tt)) (tt, (tt, tt)))))))))
