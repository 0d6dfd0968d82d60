-- What writes do: `insert`, `patch`, `replace` and `delete`.
use Rattle.std.specs.Prelude.{ℕ, ◌+◌, true, false, nat_lt, nat_le, List, [], ◌∷◌, Option, Some, None, Result, Ok, Err, codes}
use Rattle.cv_values.specs.Docs.{with_member}
use Rattle.cv_values.specs.Ids.{id_text}
use Rattle.cv_values.specs.Sizes.{checked}
use Rattle.cv_values.specs.Value.{Value, null, string, object, members_of}
use Rattle.cv_values.specs.declared.check.ValueFault.{ValueFault}
use Rattle.cv_values.specs.declared.doc.Doc.{Doc}
use Rattle.cv_values.specs.declared.ids.DocId.{DocId}
use Rattle.fn_tree.specs.Actions.{Counts, Action, ◌>>=◌, ◌>>◌, give, fail, or_fail, or_type_error, Site, as_fields, value_text}
use Rattle.fn_tree.specs.Course.{put}
use Rattle.fn_tree.specs.Names.{table_number}
use Rattle.fn_tree.specs.Reading.{as_id, doc_at}
use Rattle.fn_tree.specs.Scan.{doc_size}
use Rattle.fn_tree.specs.declared.stop.Put.{Put}
use Rattle.fn_tree.specs.declared.start.Origin.{Origin}

-- one write operation of this size
abbrev pub write : Site → (size : ℕ) → Put → Action (Unit {0})
write site size p = λ c next.
    let d : Counts = record c { writes = c.writes + 1; written = c.written + size } in
    elim (nat_lt c.writes site.limits.writes) [
      | false ↦ fail {A = Unit {0}} (codes "WriteLimit") c next
      | true ↦ elim (nat_le d.written site.limits.written) [
        | false ↦ fail {A = Unit {0}} (codes "WriteSizeLimit") c next
        | true ↦ put p (next tt d)
      ]
    ]

abbrev pub unless_faulty : Result (Unit {0}) ValueFault → Action (Unit {0})
unless_faulty (Ok u) = give tt
unless_faulty (Err e) = fail (value_text e)

-- the document is stored, where its fields may be
abbrev pub store : Site → (old : Option Doc) → Doc → Action (Unit {0})
store site old new = do
  unless_faulty (checked true (object (members_of new.fields)))
  write site (doc_size new) (record { id = new.id; old = old; new = Some new })

-- only a mutation writes and has a moment
abbrev pub origin_of : Site → Action Origin
origin_of site = or_type_error site.origin

-- the number of inserts before this one
abbrev pub next_ordinal : Action ℕ
next_ordinal = λ c next. next c.inserts (record c { inserts = c.inserts + 1 })

abbrev pub insert_value : Site → (table : List ℕ) → Value → Action Value
insert_value site table v = do
  o ← origin_of site
  t ← or_type_error (table_number site.schema table)
  fields ← as_fields v
  n ← next_ordinal
  let id : DocId = record { table = t; session = o.session; request = o.request; ordinal = n }
  store site None (record { id = id; creation = o.now; fields = fields })
  give (string (id_text id))

-- the document that is there
abbrev pub doc_there : Site → DocId → Action Doc
doc_there site id = do
  d ← doc_at site id
  or_fail (codes "NoDocument") d

-- the fields with those of an object set
abbrev pub with_members : (new old : List (List ℕ × Value)) → List (List ℕ × Value)
with_members [] old = old
with_members (m ∷ ms) old = with_members ms (with_member old m.0 m.1)

-- the document's fields are changed by those of an object
abbrev pub change_value : Site → (change : (new old : List (List ℕ × Value)) → List (List ℕ × Value)) → (id fields : Value) → Action Value
change_value site change v w = do
  _ ← origin_of site
  id ← as_id site v
  fields ← as_fields w
  old ← doc_there site id
  store site (Some old) (record { id = id; creation = old.creation; fields = change fields old.fields })
  give null

abbrev pub delete_value : Site → Value → Action Value
delete_value site v = do
  _ ← origin_of site
  id ← as_id site v
  old ← doc_there site id
  write site 0 (record { id = id; old = Some old; new = None })
  give null
