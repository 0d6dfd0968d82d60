-- The writes of a run have different ids.
use Rattle.std.proofs.Common.{◌≡◌, Bool, true, false, cond, List, [], ◌∷◌, refl, sym, ap, ◌∙◌, subst}
use Rattle.std.specs.Prelude.{◌||◌, is_some}
use Rattle.cv_values.specs.declared.ids.DocId.{DocId}
use Rattle.cv_keys.specs.declared.write.Write.{Write}
use Rattle.fn_tree.specs.Course.{Reply, gives, failed}
use Rattle.fn_tree.specs.Documents.{Docs, same_id, doc_of}
use Rattle.fn_tree.specs.Functions.{course_of}
use Rattle.fn_tree.specs.History.{Entry, IsRunOn, start_of}
use Rattle.fn_tree.specs.Run.{Played, played, with_puts, puts_to, writes_to, writes_of}
use Rattle.fn_tree.specs.Schemas.{schema_of}
use Rattle.fn_tree.specs.SyntaxTree.{ModuleTree}
use Rattle.fn_tree.specs.declared.stop.Put.{Put}
use Rattle.fn_tree.proofs.DocumentLemmas.{same_id_is, same_id_itself, by_test}

-- no write is of this id
abbrev pub NotIn : DocId → List Write → Type 0
NotIn id [] = Unit {0}
NotIn id (w ∷ ws) = (same_id id w.id ≡ false) × NotIn id ws

abbrev pub DistinctIds : List Write → Type 0
DistinctIds [] = Unit {0}
DistinctIds (w ∷ ws) = NotIn w.id ws × DistinctIds ws

or_true : (a b : Bool) → b ≡ true → (a || b) ≡ true
or_true true b e = refl
or_true false b e = e

true_or : (a b : Bool) → a ≡ true → (a || b) ≡ true
true_or true b e = refl
true_or false b e = cc

module _ (before after : Docs) where
  not_in : (id : DocId) (earlier ps : List Put) → puts_to id earlier ≡ true → NotIn id (writes_to before after earlier ps)
  not_in id earlier [] h = tt
  not_in id earlier (p ∷ ps) h = go (puts_to p.id earlier) refl (is_some (doc_of p.id before) || is_some (doc_of p.id after)) (not_in id (p ∷ earlier) ps (or_true (same_id id p.id) (puts_to id earlier) h))
    where
      apart : puts_to p.id earlier ≡ false → same_id id p.id ≡ false
      apart f = by_test (same_id id p.id)
          (λ s. let g : true ≡ false = sym h ∙ ap (λ j. puts_to j earlier) (same_id_is id p.id s) ∙ f in cc)
          (λ s. s)

      go : (b : Bool) → puts_to p.id earlier ≡ b → (c : Bool) → NotIn id (writes_to before after (p ∷ earlier) ps)
          → NotIn id (cond b (writes_to before after (p ∷ earlier) ps) (cond c (record { id = p.id; old = doc_of p.id before; new = doc_of p.id after } ∷ writes_to before after (p ∷ earlier) ps) (writes_to before after (p ∷ earlier) ps)))
      go true e c ih = ih
      go false e true ih = (apart e, ih)
      go false e false ih = ih

  distinct : (earlier ps : List Put) → DistinctIds (writes_to before after earlier ps)
  distinct earlier [] = tt
  distinct earlier (p ∷ ps) = go (puts_to p.id earlier) (is_some (doc_of p.id before) || is_some (doc_of p.id after)) (distinct (p ∷ earlier) ps)
    where
      go : (b c : Bool) → DistinctIds (writes_to before after (p ∷ earlier) ps)
          → DistinctIds (cond b (writes_to before after (p ∷ earlier) ps) (cond c (record { id = p.id; old = doc_of p.id before; new = doc_of p.id after } ∷ writes_to before after (p ∷ earlier) ps) (writes_to before after (p ∷ earlier) ps)))
      go true c ih = ih
      go false true ih = (not_in p.id (p ∷ earlier) ps (true_or (same_id p.id p.id) (puts_to p.id earlier) (same_id_itself p.id)), ih)
      go false false ih = ih

run_distinct : (reply : Reply) (ds : Docs) (puts : List Put) → DistinctIds (writes_of reply ds puts)
run_distinct (gives v) ds puts = distinct ds (with_puts puts ds) [] puts
run_distinct (failed why) ds puts = tt

pub entry_distinct : (m : ModuleTree) (ds : Docs) (e : Entry) → IsRunOn m ds e → DistinctIds e.writes
entry_distinct m ds e is =
    let p : Played = played (schema_of m.tables) ds [] (course_of m (start_of e.call)) in
    subst DistinctIds (sym is.writes) (run_distinct p.reply ds p.puts)
