-- What is stored by an insertion, a change and a deletion.
use Rattle.std.proofs.Common.{◌≡◌, ◌∙◌, ℕ, ◌+◌, List, ◌∷◌, Option, Some, None, Result, Ok, Err, true, refl, sym, ap, ap₂, arith}
use Rattle.cv_values.specs.Equality.{pairs_of-members_of}
use Rattle.cv_values.specs.Ids.{id_text, read_id}
use Rattle.cv_values.specs.Sizes.{checked}
use Rattle.cv_values.specs.Value.{Value, null, string, object, members_of, pairs_of}
use Rattle.cv_values.specs.declared.check.ValueFault.{ValueFault}
use Rattle.cv_values.specs.declared.doc.Doc.{Doc}
use Rattle.cv_values.specs.declared.ids.DocId.{DocId}
use Rattle.fn_code.specs.States.{State}
use Rattle.fn_code.specs.Steps.{Terms, behind, writes, stores, stores_checked, inserts, under_id, changes, deletes}
use Rattle.fn_tree.specs.declared.start.Origin.{Origin}
use Rattle.fn_vm.specs.Written.{begun, behind_write}

-- a state with another stack
abbrev pub with_stack : State → List Value → State
with_stack s stack = record s { frame = record s.frame { stack = stack } }

-- what is stored goes behind the instruction, whatever the stack was
stores_under : (t : Terms) (s : State) (old : Option Doc) (new : Doc) (v : Value) (stack before : List Value) → stores t s old new v stack ≡ stores t (with_stack s before) old new v stack
stores_under t s old new v stack before = go (checked true (object (members_of new.fields)))
  where
    go : (r : Result (Unit {0}) ValueFault) → stores_checked t s old new (record s { frame = behind s.frame (v ∷ stack) }) r ≡ stores_checked t (with_stack s before) old new (record s { frame = behind s.frame (v ∷ stack) }) r
    go (Ok u) = refl
    go (Err e) = refl

-- an insertion stores a new document
pub inserts_as : (t : Terms) (s : State) (table : ℕ) (o : Option Origin) (origin : Origin) (before under : List Value) (fields : List (List ℕ × Value)) (id : DocId) (new : Doc) (text : List ℕ) →
    o ≡ Some origin → before ≡ object (members_of fields) ∷ under → id ≡ record { table = table; session = origin.session; request = origin.request; ordinal = s.counts.inserts } →
    new ≡ record { id = id; creation = origin.now; fields = fields } → text ≡ id_text id →
    inserts t s table o before ≡ stores t (begun (with_stack s under) 1) None new (string text) under
inserts_as t s table o origin before under fields id new text e f g d h =
    let made : DocId → List (List ℕ × Value) → Doc = λ id fields. record { id = id; creation = origin.now; fields = fields } in
    let first : DocId = record { table = table; session = origin.session; request = origin.request; ordinal = s.counts.inserts } in
    ap₂ (inserts t s table) e f
    ∙ ap (λ ms. stores t (begun s 1) None (made first ms) (string (id_text first)) under) (pairs_of-members_of fields)
    ∙ ap (λ x. stores t (begun s 1) None (made x fields) (string (id_text x)) under) (sym g)
    ∙ ap₂ (λ doc x. stores t (begun s 1) None doc (string x) under) (sym d) (sym h)
    ∙ stores_under t (begun s 1) None new (string text) under under

-- a deletion writes that the document is gone
pub deletes_as : (t : Terms) (s : State) (o : Option Doc) (old : Doc) (before under : List Value) (text : List ℕ) (id : DocId) →
    Some old ≡ o → before ≡ string text ∷ under → Some id ≡ read_id text →
    deletes t s o before ≡ writes t (begun (with_stack s under) 0) 0 (record { id = id; old = Some old; new = None }) (behind_write (with_stack s under) 0 null)
deletes_as t s o old before under text id e f g =
    let none : s.counts.inserts ≡ s.counts.inserts + 0 = omega arith in
    let after : ℕ → State = λ n. record s { frame = behind s.frame (null ∷ under); counts = record s.counts { inserts = n } } in
    ap₂ (deletes t s) (sym e) f
    ∙ ap (λ x. under_id s x (λ id. writes t s 0 (record { id = id; old = Some old; new = None }) (after s.counts.inserts))) (sym g)
    ∙ ap (λ n. writes t (record s { counts = record s.counts { inserts = n } }) 0 (record { id = id; old = Some old; new = None }) (after n)) none

-- a change stores the document with other fields
pub changes_as : (t : Terms) (s : State) (change : (new old : List (List ℕ × Value)) → List (List ℕ × Value)) (o : Option Doc) (old new : Doc) (before mid under : List Value) (members fields : List (List ℕ × Value)) (text : List ℕ) (id : DocId) →
    Some old ≡ o → before ≡ object (members_of members) ∷ mid → mid ≡ string text ∷ under → Some id ≡ read_id text → fields ≡ change members old.fields → new ≡ record { id = id; creation = old.creation; fields = fields } →
    changes t s change o before ≡ stores t (begun (with_stack s under) 0) (Some old) new null under
changes_as t s change o old new before mid under members fields text id e f d g h k =
    let none : s.counts.inserts ≡ s.counts.inserts + 0 = omega arith in
    let made : List (List ℕ × Value) → Doc = λ fields. record { id = id; creation = old.creation; fields = fields } in
    ap₂ (changes t s change) (sym e) (f ∙ ap (λ vs. object (members_of members) ∷ vs) d)
    ∙ ap (λ x. under_id s x (λ id. stores t s (Some old) (record { id = id; creation = old.creation; fields = change (pairs_of (members_of members)) old.fields }) null under)) (sym g)
    ∙ ap (λ ms. stores t s (Some old) (made (change ms old.fields)) null under) (pairs_of-members_of members)
    ∙ ap (λ fields. stores t s (Some old) (made fields) null under) (sym h)
    ∙ ap₂ (λ n doc. stores t (record s { counts = record s.counts { inserts = n } }) (Some old) doc null under) none (sym k)
    ∙ stores_under t (begun s 0) (Some old) new null under under
