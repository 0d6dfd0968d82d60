-- `attach` puts the node over the two trees: what they own is put together. Assumes `Logic`.
use Rattle.std.proofs.Common.{◌≡◌, List, [], ◌∷◌, ◌++◌, refl, sym, subst}
use mir.Val.{Val, vptr}
use base.Logic.{SProp, ent, emp, id⊢}
use base.Fml.{ftrue, fsep}
use contract.Monad.{fact, fact_i}
use contract.Running.{tables}
use prog.Wp.{WpFn}
use types.Kit.{‵, raw, ◌⊛◌, ◌$◌, ◌∵◌, !, qed, by, move, keep, drop, split, use0, use2, fsplit, fsplit3, fjoin, suffices}
use types.Run.{stop, fld, of_opd, no_more, and_then, returns, enter}
use types.ByLocal.{alloc_all, pass_all, free_all, look_at, get, get_in, sets}
use types.Part.{agg, sub, whole}
use denote.RattleType.{RattleType}
use denote.RawPtr.{Ptr, block_ptr}
use denote.Signature.{plain}
use denote.Steps.{nothing}
use denote.Struct.Tuple.{Tuple}
use denote.Triple.Walked.{Stays, stay_dropped, walk_of, Goes-dropped}
use Rattle.std_alloc.proofs.RcSteps.{word}
use Rattle.std_alloc.proofs.Pairs.{pair_of, pair_val}
use Rattle.std.proofs.raw_atomic.Walks.{proved_at, leaves}
use Rattle.std_heap.specs.contracts.Global as Heap
use Rattle.std_heap.specs.contracts.GlobalAllocator.TheImpl.{ghosts}
use Rattle.std_heap.proofs.Global.TheLaws as heap
use Rattle.range_tree.specs.Tree.{Tree, Fork}
use Rattle.range_tree.proofs.Values.{both, raw_box_good, raw_box_out}
use Rattle.range_tree.proofs.Words.{Mark, mark, mark_made, mark_had, word_made}
use Rattle.range_tree.specs.contracts.nodes.raw_box.RawBox as raw_box
use Rattle.range_tree.specs.contracts.nodes.memory.Node.{the_row as N}
use Rattle.range_tree.specs.contracts.nodes.memory.Link.{the_row as P}
use Rattle.range_tree.specs.contracts.nodes.memory.Nodes.{the_row as B}
use Rattle.range_tree.specs.contracts.nodes.memory.attach as f
use Rattle.range_tree.proofs.nodes.memory.attach.Statement.{statement}
use Rattle.range_tree.proofs.nodes.memory.attach.Code as code

abbrev L : RattleType
L = raw_box.the_row N Heap.the_row ghosts

abbrev hs : Stays f.ended.signature.params f.ended.kept
hs = (stay_dropped (plain (λ _. L)) f.ended.kept.0, (stay_dropped (plain (λ _. B)) f.ended.kept.1.0, (stay_dropped (plain (λ _. B)) f.ended.kept.1.1.0, tt)))

pub attach_spec : {M : Type 1} → statement M
attach_spec 𝓤 𝓛 𝓜 𝓡 wired =
    let c = f.clauses 𝓛 𝓜.mem 𝓡.returns in let 𝓣 = tables 𝓤 𝓛.H 𝓜 𝓡 𝓡.env in
    proved_at 𝓛 f.ended hs c 𝓜 𝓡 (Goes-dropped 𝓛 0 (plain (λ _. L)) f.ended.kept.0 (λ κs x w. refl), (Goes-dropped 𝓛 0 (plain (λ _. B)) f.ended.kept.1.0 (λ κs x w. refl), (Goes-dropped 𝓛 0 (plain (λ _. B)) f.ended.kept.1.1.0 (λ κs x w. refl), tt)))
    f.Key.name code.function (code.unfolded 𝓤 𝓛.H 𝓜 𝓡 wired) (λ z are.
    let Post : Val → SProp 𝓤 = (walk_of 𝓛 f.ended hs c).post z in let Run : List Val → SProp 𝓤 = λ ws. WpFn 𝓤 𝓛.H 𝓣.C 𝓣.Λ code.function ws Post in
    let v : L.Denot = z.0.3.0 in let x : B.Denot = z.0.3.1.0 in let y : B.Denot = z.0.3.1.1.0 in
    qed 𝓛 ((‵ ftrue ⊛ ‵ (fsep (L.own_val v z.0.4.0) (fsep (B.own_val x z.0.4.1.0) (fsep (B.own_val y z.0.4.1.1.0) ftrue)))) ∷ raw (emp 𝓤) ∷ []) ∵
    split ! $ drop ! $ fsplit ! $ raw_box_out N Heap.the_row heap.the_row_laws ghosts ! v z.0.4.0 (λ b o h e ws fits.
    move ! (2 ∷ []) $ fsplit3 ! $ fsplit ! $ mark_had ! z.0.4.1.0 (λ ex. move ! (1 ∷ []) $ fsplit ! $ mark_had ! z.0.4.1.1.0 (λ ey.
    keep ! (3 ∷ 1 ∷ 0 ∷ []) $
    -- [the node's block; one tree; the other]
    let p : Ptr = block_ptr b o in let us : List Val = both (vptr b o) h ∷ mark ∷ mark ∷ [] in
    let typed = raw_box_good N Heap.the_row heap.the_row_laws ghosts b o h fits in
    suffices ! (Run us) (subst (λ (xs : List Val). ent 𝓤 (Run us) (Run xs)) (sym (λ i. ws i ++ (ex i ++ (ey i ++ [])))) (id⊢ 𝓤 (Run us))) $
    enter ! 𝓣.C 𝓣.Λ code.function us Post $ alloc_all ! (λ l. pass_all ! refl (typed, ((tt, (tt, tt)), ((tt, (tt, tt)), tt))) $
    sets ! (of_opd ! (get_in ! (fld ! refl (stop !)) (sub ! 0 refl (whole !)))) refl (tt, tt) $
    sets ! (agg ! (and_then ! (get ! refl) (no_more !))) refl (tt, (tt, tt)) $
    sets ! (agg ! (no_more !)) refl (tt, tt) $ sets ! (agg ! (and_then ! (get ! refl) (no_more !))) refl (tt, (tt, tt)) $
    sets ! (agg ! (and_then ! (get ! refl) (and_then ! (get ! refl) (no_more !)))) refl (tt, ((tt, tt), ((tt, tt), tt))) $
    returns ! (look_at ! 0 refl) $ free_all ! refl $
    let t : Tree = Fork p x.tree v.value y.tree in let at : P.Denot = record { ptr = p } in let below : B.Denot = record { mark = record {}; tree = t } in
    move ! (1 ∷ 2 ∷ []) $ fjoin ! $ move ! (1 ∷ 0 ∷ []) $ fjoin ! $ use0 𝓛 (‵ (Mark.own_val (tt, tt) (mark ∷ []))) (mark_made 𝓛) $ fjoin ! $ word_made ! p $
    use2 𝓛 (‵ ((Tuple (P ∷ B ∷ [])).own_val (at, below) (pair_val (word p) mark ∷ []))) (pair_of 𝓛 P B at below (word p) mark) $
    use0 𝓛 (raw (fact 𝓤 (t ≡ t))) (fact_i 𝓤 (t ≡ t) (emp 𝓤) refl) $ move ! (1 ∷ 0 ∷ []) $
    nothing ! $ nothing ! $ fjoin ! $ nothing ! $ fjoin ! $ nothing ! $ fjoin ! $ nothing ! $
    by ! (leaves 𝓛 f.ended hs c z (pair_val (word p) mark) (at, below) (tt, (tt, (tt, tt))) (tt, (tt, (tt, tt)))))))))
