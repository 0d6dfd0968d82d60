-- Documents taken one by one.
use Rattle.std.proofs.Common.{◌≡◌, ℕ, zero, suc, ◌-◌, ◌<◌, Bool, true, false, nat_lt, cond, List, [], ◌∷◌, ◌++◌, Some, None, refl, append_assoc, append-nil, sub-one, arith}
use Rattle.cv_values.specs.declared.doc.Doc.{Doc}
use Rattle.cv_docs.specs.Cut.{doc_size, cut, Taken, ending}

more_at : (b : Bool) (docs : List Doc) (r rest left : ℕ) (d : Doc) (ds : List Doc) → Some left ≡ cond b None (Some rest) → docs ++ d ∷ cut r left ds ≡ docs ++ d ∷ cond b [] (cut r rest ds)
more_at true docs r rest left d ds e = cc
more_at false docs r rest left d ds e = let f : left ≡ rest = cc in rw f refl

-- a document is taken, and more may follow
pub taken_more : (docs : List Doc) (rows size left : ℕ) (d : Doc) (ds : List Doc) → 0 < rows → Some left ≡ cond (nat_lt size (doc_size d)) None (Some (size - doc_size d))
    → (docs ++ d ∷ []) ++ cut (rows - 1) left ds ≡ docs ++ cut rows size (d ∷ ds)
taken_more docs zero size left d ds h e = absurd (omega arith)
taken_more docs (suc r) size left d ds h e =
    rw (append_assoc docs (d ∷ []) (cut (suc r - 1) left ds), sub-one) (more_at (nat_lt size (doc_size d)) docs r (size - doc_size d) left d ds e)

-- where no more rows may be taken, what follows is left out
pub full : (t : Taken) (ds : List Doc) → t.rows ≡ 0 → ending t ds ≡ t.docs
full t ds e = rw (e, append-nil) refl
