-- `detach` takes what a tree owns apart. Assumes `Logic`.
use Rattle.std.proofs.Common.{◌≡◌, List, [], ◌∷◌, ◌++◌, refl, sym, ap, ◌∙◌, subst}
use mathlib.Core.Bool.{true, ◌&&◌}
use mir.Syntax.{impl, tnil, dnil}
use mir.Val.{Val, vptr, has_ty}
use mir.Raw.{raw as bare}
use base.Logic.{SProp, ent, emp, id⊢, fst∗, never}
use base.Fml.{ftrue, fsep}
use contract.Monad.{fact, fact_i}
use contract.Running.{tables}
use prog.Wp.{WpFn}
use types.Logic.{sem}
use types.Kit.{‵, raw, ◌⊛◌, ◌$◌, ◌∵◌, !, qed, by, move, keep, drop, split, use0, use3, fsplit, fsplit3, fjoin, suffices, rewrite}
use types.Run.{stop, fld, no_more, and_then, returns, enter}
use types.ByLocal.{alloc_all, pass_all, free_all, look_at, get, get_in, sets}
use types.Part.{agg, sub, whole}
use denote.RattleType.{RattleType}
use denote.Memory.{lone}
use denote.RawPtr.{Ptr, block_ptr, null_ptr, in_a_block}
use denote.Param.{layout}
use denote.Signature.{plain}
use denote.Steps.{nothing, heard}
use denote.Struct.Tuple.{Tuple}
use denote.Triple.Walked.{Stays, stay_dropped, walk_of, Goes-dropped}
use Rattle.core.proofs.alloc.Calls.{Al, handle_tells}
use Rattle.libc.specs.Heap.{chunk}
use Rattle.std_alloc.proofs.RcSteps.{word}
use Rattle.std_alloc.proofs.ResultValues.{and_tt}
use Rattle.std_alloc.specs.Box.Ownership.{box_owns}
use Rattle.std.proofs.raw_atomic.Walks.{proved_at, leaves}
use Rattle.std_heap.specs.contracts.Global as Heap
use Rattle.std_heap.specs.contracts.GlobalAllocator.TheImpl.{ghosts}
use Rattle.std_heap.proofs.Global.TheLaws as heap
use Rattle.range_tree.specs.Tree.{Tree, Fork, root_of, forked}
use Rattle.range_tree.specs.Ownership.{tree_owns}
use Rattle.range_tree.proofs.Values.{both, raw_box_good, raw_box_in}
use Rattle.range_tree.proofs.Words.{Mark, mark, mark_made, mark_had, word_had, three_val, three_of}
use Rattle.range_tree.specs.contracts.nodes.raw_box.RawBox as raw_box
use Rattle.range_tree.specs.contracts.nodes.memory.Node.{the_row as N}
use Rattle.range_tree.specs.contracts.nodes.memory.Link.{the_row as P}
use Rattle.range_tree.specs.contracts.nodes.memory.Nodes.{the_row as B}
use Rattle.range_tree.specs.contracts.nodes.memory.detach as f
use Rattle.range_tree.proofs.nodes.memory.detach.Statement.{statement}
use Rattle.range_tree.proofs.nodes.memory.detach.Code as code

abbrev A : RattleType
A = Heap.the_row

abbrev al : Al
al = record { row = A; laws = heap.the_row_laws; g = ghosts; d = impl [] tnil dnil; drops = impl [] tnil dnil }

abbrev L : RattleType
L = raw_box.the_row N A ghosts

abbrev hs : Stays f.ended.signature.params f.ended.kept
hs = (stay_dropped (plain (λ _. A)) f.ended.kept.0, (stay_dropped (plain (λ _. P)) f.ended.kept.1.0, (stay_dropped (plain (λ _. B)) f.ended.kept.1.1.0, tt)))

pub detach_spec : {M : Type 1} → statement M
detach_spec 𝓤 𝓛 𝓜 𝓡 wired =
    let c = f.clauses 𝓛 𝓜.mem 𝓡.returns in let 𝓣 = tables 𝓤 𝓛.H 𝓜 𝓡 𝓡.env in
    proved_at 𝓛 f.ended hs c 𝓜 𝓡 (Goes-dropped 𝓛 0 (plain (λ _. A)) f.ended.kept.0 (λ κs x w. refl), (Goes-dropped 𝓛 0 (plain (λ _. P)) f.ended.kept.1.0 (λ κs x w. refl), (Goes-dropped 𝓛 0 (plain (λ _. B)) f.ended.kept.1.1.0 (λ κs x w. refl), tt)))
    f.Key.name code.function (code.unfolded 𝓤 𝓛.H 𝓜 𝓡 wired) (λ z are.
    let Post : Val → SProp 𝓤 = (walk_of 𝓛 f.ended hs c).post z in let Run : List Val → SProp 𝓤 = λ ws. WpFn 𝓤 𝓛.H 𝓣.C 𝓣.Λ code.function ws Post in
    let a : A.Denot = z.0.3.0 in let at : P.Denot = z.0.3.1.0 in let x : B.Denot = z.0.3.1.1.0 in
    let Asked : Type 0 = root_of x.tree ≡ Rattle.std.specs.Prelude.Some at.ptr in
    qed 𝓛 ((‵ ftrue ⊛ ‵ (fsep (A.own_val a z.0.4.0) (fsep (P.own_val at z.0.4.1.0) (fsep (B.own_val x z.0.4.1.1.0) ftrue)))) ∷ raw (fact 𝓤 Asked) ∷ []) ∵
    move ! (1 ∷ []) $ heard ! Asked (λ asked. split ! $ drop ! $ fsplit3 ! $ handle_tells al ! a z.0.4.0 (λ h eh fits.
    move ! (1 ∷ []) $ word_had ! at.ptr z.0.4.1.0 (λ ew. move ! (1 ∷ []) $ fsplit ! $ fsplit ! $ mark_had ! z.0.4.1.1.0 (λ em. keep ! (0 ∷ 2 ∷ []) $
    let cut = forked x.tree at.ptr asked in let l = cut.0 in let n = cut.1 in let r = cut.2 in
    rewrite ! 0 (λ (t : Tree). ‵ (tree_owns t)) cut.3 refl $ fsplit3 ! $
    in_a_block ! at.ptr (λ p. box_owns chunk N p n) (fst∗ 𝓤 (never 𝓤) (sem 𝓛 (chunk (bare (lone N.mir)) null_ptr))) (λ b o e.
    -- [the node's block; one tree; the other; the handle]
    let p : Ptr = block_ptr b o in let w : Val = both (vptr b o) h in let us : List Val = h ∷ word p ∷ mark ∷ [] in
    let typed = raw_box_good N A heap.the_row_laws ghosts b o h fits in
    suffices ! (Run us) (subst (λ (xs : List Val). ent 𝓤 (Run us) (Run xs)) (sym (λ i. eh i ++ ((ew ∙ ap (λ (π : Ptr). word π ∷ []) e) i ++ (em i ++ [])))) (id⊢ 𝓤 (Run us))) $
    enter ! 𝓣.C 𝓣.Λ code.function us Post $ alloc_all ! (λ k. pass_all ! refl (fits, ((tt, (tt, tt)), ((tt, (tt, tt)), tt))) $
    sets ! (agg ! (and_then ! (get_in ! (fld ! refl (stop !)) (sub ! 0 refl (whole !))) (and_then ! (get ! refl) (no_more !)))) refl typed $
    sets ! (agg ! (no_more !)) refl (tt, tt) $ sets ! (agg ! (and_then ! (get ! refl) (no_more !))) refl (tt, (tt, tt)) $
    sets ! (agg ! (no_more !)) refl (tt, tt) $ sets ! (agg ! (and_then ! (get ! refl) (no_more !))) refl (tt, (tt, tt)) $
    sets ! (agg ! (and_then ! (get ! refl) (and_then ! (get ! refl) (and_then ! (get ! refl) (no_more !))))) refl (and_tt (has_ty (layout A) h && true) typed.0, (typed.1, ((tt, tt), ((tt, tt), tt)))) $
    returns ! (look_at ! 0 refl) $ free_all ! refl $
    let node : L.Denot = record { at = p; alloc = a; value = n } in let one : B.Denot = record { mark = record {}; tree = l } in let other : B.Denot = record { mark = record {}; tree = r } in
    move ! (0 ∷ 3 ∷ []) $ raw_box_in N A heap.the_row_laws ghosts ! b o h a n $ move ! (1 ∷ []) $ use0 𝓛 (‵ (Mark.own_val (tt, tt) (mark ∷ []))) (mark_made 𝓛) $ fjoin ! $
    move ! (2 ∷ []) $ use0 𝓛 (‵ (Mark.own_val (tt, tt) (mark ∷ []))) (mark_made 𝓛) $ fjoin ! $ move ! (2 ∷ 1 ∷ 0 ∷ []) $
    use3 𝓛 (‵ ((Tuple (L ∷ B ∷ B ∷ [])).own_val (node, one, other) (three_val w mark mark ∷ []))) (three_of 𝓛 L B B node one other w mark mark) $
    use0 𝓛 (raw (fact 𝓤 (x.tree ≡ Fork at.ptr l n r))) (fact_i 𝓤 (x.tree ≡ Fork at.ptr l n r) (emp 𝓤) cut.3) $ move ! (1 ∷ 0 ∷ []) $
    nothing ! $ nothing ! $ fjoin ! $ nothing ! $ fjoin ! $ nothing ! $ fjoin ! $ nothing ! $
    by ! (leaves 𝓛 f.ended hs c z (three_val w mark mark) (node, one, other) (tt, (tt, (tt, tt))) (tt, (tt, (tt, tt)))))))))))
