-- The steps of writes, one after another.
use Rattle.std.proofs.Common.{◌≡◌, ◌≤◌, ℕ, ◌+◌, List, arith}
use Rattle.std.specs.Prelude.{Option, Some, None}
use Rattle.cv_values.specs.Ids.{id_text}
use Rattle.cv_values.specs.Value.{Value, null, string}
use Rattle.cv_values.specs.declared.doc.Doc.{Doc}
use Rattle.cv_values.specs.declared.ids.DocId.{DocId}
use Rattle.fn_tree.specs.Actions.{Action, ◌>>=◌, ◌>>◌, give, or_type_error, Site, as_fields}
use Rattle.fn_tree.specs.Names.{table_number}
use Rattle.fn_tree.specs.Reading.{as_id}
use Rattle.fn_tree.specs.Writing.{write, store, doc_there, next_ordinal}
use Rattle.fn_tree.specs.declared.start.Origin.{Origin}
use Rattle.fn_plain.specs.States.{IsWithin}
use Rattle.fn_plain.specs.declared.context.Context.{Context}
use Rattle.fn_plain.specs.declared.context.Counts.{Counts as HeldCounts}

abbrev pub Fields : Type 0
Fields = List (List ℕ × Value)

pub within_more : {c : Context} {d : HeldCounts} → IsWithin 0 c d → IsWithin 1 c d
within_more h = record { cost = h.cost; rows = h.rows; size = h.size; ranges = h.ranges; writes = h.writes; written = h.written; inserts = omega (arith, h.inserts); cost_room = h.cost_room; rows_room = h.rows_room; size_room = h.size_room; ranges_room = h.ranges_room; writes_room = h.writes_room; written_room = h.written_room; schema = h.schema }

-- ---- a change, from behind

abbrev pub done_with : {A : Type 0} → A → Unit {0} → Action A
done_with a u = give a

abbrev pub store_changed : Site → (Fields → Fields → Fields) → DocId → Fields → Doc → Action Value
store_changed site change id fields old = store site (Some old) (record { id = id; creation = old.creation; fields = change fields old.fields }) >>= done_with null

abbrev pub change_there : Site → (Fields → Fields → Fields) → DocId → Fields → Action Value
change_there site change id fields = doc_there site id >>= store_changed site change id fields

abbrev pub change_fields : Site → (Fields → Fields → Fields) → Value → DocId → Action Value
change_fields site change w id = as_fields w >>= change_there site change id

abbrev pub change_id : Site → (Fields → Fields → Fields) → Value → Value → Origin → Action Value
change_id site change v w o = as_id site v >>= change_fields site change w

-- ---- a deletion

abbrev pub write_gone : Site → DocId → Doc → Action Value
write_gone site id old = write site 0 (record { id = id; old = Some old; new = None }) >>= done_with null

abbrev pub delete_there : Site → DocId → Action Value
delete_there site id = doc_there site id >>= write_gone site id

abbrev pub delete_id : Site → Value → Origin → Action Value
delete_id site v o = as_id site v >>= delete_there site

-- ---- an insertion

abbrev pub store_new : Site → Origin → ℕ → Fields → ℕ → Action Value
store_new site o t fields n =
    let id : DocId = record { table = t; session = o.session; request = o.request; ordinal = n } in
    store site None (record { id = id; creation = o.now; fields = fields }) >>= done_with (string (id_text id))

abbrev pub insert_fields : Site → Origin → ℕ → Fields → Action Value
insert_fields site o t fields = next_ordinal >>= store_new site o t fields

abbrev pub insert_in : Site → Value → Origin → ℕ → Action Value
insert_in site v o t = as_fields v >>= insert_fields site o t

abbrev pub insert_by : Site → List ℕ → Value → Origin → Action Value
insert_by site table v o = or_type_error (table_number site.schema table) >>= insert_in site v o
