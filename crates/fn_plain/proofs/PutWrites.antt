-- The writes of puts, one put after another.
use Rattle.std.proofs.Common.{◌≡◌, ◌∙◌, ◌<◌, ℕ, ◌+◌, Bool, true, false, ◌||◌, cond, List, [], ◌∷◌, ◌++◌, append_assoc, append-nil, length, take, drop, get_or, refl, sym, ap}
use Rattle.std.proofs.lemmas.List.{drop_more, take_more}
use Rattle.std.specs.Prelude.{is_some}
use Rattle.cv_values.specs.declared.ids.DocId.{DocId}
use Rattle.cv_keys.specs.declared.write.Write.{Write}
use Rattle.fn_tree.specs.Documents.{Docs, same_id, doc_of}
use Rattle.fn_tree.specs.Run.{puts_to, unless_gone, writes_to}
use Rattle.fn_tree.specs.declared.stop.Put.{Put}

or-or : (a b c : Bool) → (a || (b || c)) ≡ (b || (a || c))
or-or true true c = refl
or-or true false c = refl
or-or false b c = refl

-- a put more at the end or at the front
puts-more : (id : DocId) (ps : List Put) (p : Put) → puts_to id (ps ++ p ∷ []) ≡ (same_id id p.id || puts_to id ps)
puts-more id [] p = refl
puts-more id (q ∷ ps) p = ap (λ b. same_id id q.id || b) (puts-more id ps p) ∙ or-or (same_id id q.id) (same_id id p.id) (puts_to id ps)

module _ (before after : Docs) where
  abbrev pub write_to : DocId → Write
  write_to id = record { id = id; old = doc_of id before; new = doc_of id after }

  abbrev first_write : Bool → DocId → List Write → List Write
  first_write there id ws = cond there ws (unless_gone (write_to id) ws)

  -- of the earlier puts only their ids count
  same-writes : (xs ys puts : List Put) → ((id : DocId) → puts_to id xs ≡ puts_to id ys) → writes_to before after xs puts ≡ writes_to before after ys puts
  same-writes xs ys [] h = refl
  same-writes xs ys (p ∷ ps) h =
      ap (λ b. first_write b p.id (writes_to before after (p ∷ xs) ps)) (h p.id)
      ∙ ap (first_write (puts_to p.id ys) p.id) (same-writes (p ∷ xs) (p ∷ ys) ps (λ id. ap (λ b. same_id id p.id || b) (h id)))

  added : (b : Bool) (w : Write) (so_far rest : List Write) → so_far ++ cond b (w ∷ rest) rest ≡ (so_far ++ cond b (w ∷ []) []) ++ rest
  added true w so_far rest = sym (append_assoc so_far (w ∷ []) rest)
  added false w so_far rest = ap (λ l. l ++ rest) (sym (append-nil so_far))

  -- one put after those before it
  next-put : (so_far : List Write) (puts : List Put) (i : ℕ) (p : Put) → i < length puts → p ≡ get_or puts i p → (there : Bool) → there ≡ puts_to p.id (take i puts)
      → so_far ++ writes_to before after (take i puts) (drop i puts) ≡ so_far ++ first_write there p.id (writes_to before after (take (i + 1) puts) (drop (i + 1) puts))
  next-put so_far puts i p below is there h =
      let rest = drop (i + 1) puts in
      ap (λ ps. so_far ++ writes_to before after (take i puts) ps) (drop_more puts i p below ∙ ap (λ y. y ∷ rest) (sym is))
      ∙ ap (λ b. so_far ++ first_write b p.id (writes_to before after (p ∷ take i puts) rest)) (sym h)
      ∙ ap (λ ws. so_far ++ first_write there p.id ws) (same-writes (p ∷ take i puts) (take (i + 1) puts) rest (λ id.
      sym (puts-more id (take i puts) p) ∙ ap (puts_to id) (sym (take_more puts i p below ∙ ap (λ y. take i puts ++ y ∷ []) (sym is)))))

  pub first-put : (so_far : List Write) (puts : List Put) (i : ℕ) (p : Put) → i < length puts → p ≡ get_or puts i p → false ≡ puts_to p.id (take i puts)
      → so_far ++ writes_to before after (take i puts) (drop i puts) ≡ (so_far ++ unless_gone (write_to p.id) []) ++ writes_to before after (take (i + 1) puts) (drop (i + 1) puts)
  first-put so_far puts i p below is h =
      let w = write_to p.id in
      next-put so_far puts i p below is false h
      ∙ added (is_some w.old || is_some w.new) w so_far (writes_to before after (take (i + 1) puts) (drop (i + 1) puts))

  pub later-put : (so_far : List Write) (puts : List Put) (i : ℕ) (p : Put) → i < length puts → p ≡ get_or puts i p → true ≡ puts_to p.id (take i puts)
      → so_far ++ writes_to before after (take i puts) (drop i puts) ≡ so_far ++ writes_to before after (take (i + 1) puts) (drop (i + 1) puts)
  later-put so_far puts i p below is h = next-put so_far puts i p below is true h
