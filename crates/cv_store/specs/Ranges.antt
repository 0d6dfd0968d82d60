-- Entries whose documents have places that the key order law speaks of.
use Rattle.std.specs.Prelude.{List, Option, Some}
use Rattle.std.specs.List.{AllByRecursion}
use Rattle.cv_values.specs.declared.doc.Doc.{Doc}
use Rattle.cv_keys.specs.Touch.{DocInRange}
use Rattle.cv_keys.specs.Documents.{indexes_of}
use Rattle.cv_keys.specs.declared.schema.Index.{Index}
use Rattle.cv_keys.specs.declared.schema.Schema.{Schema}
use Rattle.fn_tree.specs.History.{History}

-- the places of a write's documents in these indexes are in range
abbrev pub DocsInRange : (old new : Option Doc) → List Index → Type 0
DocsInRange old new xs = AllByRecursion (λ x. DocInRange (Some x) old × DocInRange (Some x) new) xs

-- the places of the documents that entries write are in range
abbrev pub AreInRange : Schema → History → Type 0
AreInRange schema h = AllByRecursion (λ e. AllByRecursion (λ w. DocsInRange w.old w.new (indexes_of schema w.id.table)) e.writes) h
