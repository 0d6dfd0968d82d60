-- Machines with their transactions, from pause to pause.
use Rattle.std.proofs.Common.{◌≡◌, List, [], ◌∷◌, ◌++◌, sym, ap, subst}
use Rattle.std.specs.Prelude.{IsSome}
use Rattle.cv_values.specs.IdLaws.{IsId}
use Rattle.cv_values.specs.declared.doc.Doc.{Doc}
use Rattle.cv_keys.specs.Documents.{index_at}
use Rattle.cv_keys.specs.Places.{PlaceInterval}
use Rattle.cv_keys.specs.declared.interval.Interval.{Interval}
use Rattle.cv_keys.specs.declared.schema.Schema.{Schema}
use Rattle.cv_keys.specs.declared.write.Write.{Write}
use Rattle.cv_run.proofs.RestLemmas.{pending_true, put_rest, read_rest}
use Rattle.fn_tree.specs.AsksThere.{IsThere}
use Rattle.cv_run.specs.Pauses.{Runs, AtRead}
use Rattle.cv_run.specs.Rest.{IsRest}
use Rattle.cv_store.specs.Reads.{StoreRead, one_doc, first_rows, StandsFor, IsReadable, read_from}
use Rattle.cv_store.specs.declared.proposal.ReadReq.{ReadReq}
use Rattle.cv_store.specs.declared.proposal.ReadReq.TheVariants as request
use Rattle.cv_tx.specs.Asks as asks
use Rattle.cv_tx.specs.Asks.{IsProgramSchema}
use Rattle.cv_tx.specs.Pending.{Under, HasDistinctIds, AreTrue, placed}
use Rattle.cv_tx.specs.Plans.{plan_of}
use Rattle.fn_code.specs.declared.code.Code.{Code}
use Rattle.fn_tree.specs.Course.{Ask, get_doc, scan_rows, Course, done, ask, put}
use Rattle.fn_tree.specs.Documents.{Docs, applied}
use Rattle.fn_tree.specs.Functions.{Start}
use Rattle.fn_tree.specs.Scan.{answer}
use Rattle.fn_tree.specs.Schemas.{schema_of}
use Rattle.fn_tree.specs.SyntaxTree.{ModuleTree}
use Rattle.fn_tree.specs.declared.stop.Answer.{Answer as HeldAnswer}
use Rattle.fn_tree.specs.declared.stop.Ask.{Ask as HeldAsk}
use Rattle.fn_tree.specs.declared.stop.Ask.TheVariants.{Get, Scan}
use Rattle.fn_tree.specs.declared.stop.Outcome.{Outcome}
use Rattle.fn_tree.specs.declared.stop.Put.{Put}
use Rattle.fn_vm.specs.Machines.{Goes, WaitsForRows, Stops}
use Rattle.fn_vm.specs.Moves.{Stands}
use Rattle.fn_vm.specs.Views.{outcome_view}
use Rattle.fn_vm.specs.declared.machine.Machine.{Machine}
use Rattle.fn_vm.specs.declared.stop.Stop.TheVariants as stop

-- ---- reads

-- the machine's reads are some that a transaction answers
pub stands_so : (a : HeldAsk) (q : Ask) → Stands a q → asks.Stands a q
stands_so (Get id left) q e = e
stands_so (Scan interval desc limit left) q (i, e, same, lo, hi, size) = (i, e, record { bytes_are = sym same; lo = lo; hi = hi })

pub is_indexed : (schema : Schema) (a : HeldAsk) (q : Ask) → Stands a q → IsThere schema q → asks.IsIndexed schema a
is_indexed schema (Get id left) q e there = tt
is_indexed schema (Scan interval desc limit left) q (i, e, same, lo, hi, size) there =
    subst (λ (j : Interval). IsSome (index_at schema j.table j.index)) (sym same) (subst (IsThere schema) e there)

abbrev scanned : PlaceInterval → StoreRead → PlaceInterval
scanned i (one_doc id) = i
scanned i (first_rows j desc rows size) = j

pub is_readable : (schema : Schema) (r : ReadReq) (ws : List Write) (q : Ask) → StandsFor r (plan_of ws q) → IsThere schema q → IsReadable schema r
is_readable schema (request.Get id) ws q s there = tt
is_readable schema (request.Scan interval desc rows size) ws (get_doc id left) (i, e, same, lo, hi) there = cc e
is_readable schema (request.Scan interval desc rows size) ws (scan_rows j down limit left) (i, e, same, lo, hi) there =
    subst (λ (k : Interval). IsSome (index_at schema k.table k.index)) (sym same)
    (subst (λ (k : PlaceInterval). IsSome (index_at schema k.table k.index)) (ap (scanned j) e) there)

-- ---- from stop to pause

module _ (code : Code) (m : ModuleTree) (s : Start) (ds : Docs) where
  -- behind a write that was laid
  pub put_runs : (after : Machine) (tx laid : Under) (p : Put) (next : Course) → IsId p.id → laid ≡ record tx { pending = placed p tx.pending } → Goes code after next
      → IsRest m s ds tx.pending tx.reads (put p next) → Runs code m s ds after laid
  put_runs after tx laid p next fits is goes rest =
      subst (λ (x : Under). Runs code m s ds after x) (sym is) (record { course = next; goes = goes; rest = put_rest m s ds tx.pending tx.reads p next fits rest })

  -- behind a read that was answered
  pub read_runs : (schema : Schema) (machine gone : Machine) (tx read : Under) (asked : HeldAsk) (rows : List Doc) (q : Ask) (a : HeldAnswer)
      → schema ≡ schema_of m.tables → HasDistinctIds ds → Stands asked q → AtRead code m s ds machine tx q → rows ≡ read_from schema ds (plan_of tx.pending q)
      → (IsProgramSchema schema → (p : Ask) (es : Docs) → asks.Stands asked p → HasDistinctIds es → AreTrue es tx.pending → rows ≡ read_from schema es (plan_of tx.pending p)
      → asks.Answers a (answer schema (applied tx.pending es) p))
      → read ≡ record tx { reads = tx.reads ++ a.consumed ∷ [] }
      → ((c : Code) (next : List Doc → Course) → WaitsForRows c machine next → Goes c gone (next a.docs.items))
      → Runs code m s ds gone read
  read_runs schema machine gone tx read asked rows q a same distinct stands at got answers is goes =
      let told : asks.Answers a (answer schema (applied tx.pending ds) q) =
      answers (m.tables, same) q ds (stands_so asked q stands) distinct (pending_true m s ds tx.pending tx.reads (ask q at.next) at.rest) got in
      let so : asks.Answers a (answer (schema_of m.tables) (applied tx.pending ds) q) = subst (λ (x : Schema). asks.Answers a (answer x (applied tx.pending ds) q)) same told in
      subst (λ (x : Under). Runs code m s ds gone x) (sym is) (record {
        course = at.next a.docs.items;
        goes = goes code at.next at.waits;
        rest = read_rest m s ds tx.pending tx.reads q at.next a.docs.items a.consumed so.docs (sym so.consumed.bytes_are) (so.consumed.lo, so.consumed.hi) at.rest;
      })

  -- where a run came to a stop
  pub asks_at : (machine : Machine) (tx : Under) (k : Course) (a : HeldAsk) → IsRest m s ds tx.pending tx.reads k → Stops code machine k (stop.Ask a)
      → (q : Ask) × Stands a q × AtRead code m s ds machine tx q
  asks_at machine tx k a rest (q, next, e, stands, waits) =
      (q, stands, record { next = next; waits = waits; rest = subst (λ c. IsRest m s ds tx.pending tx.reads c) e rest })

  pub ends_at : (machine : Machine) (tx : Under) (k : Course) (o : Outcome) → IsRest m s ds tx.pending tx.reads k → Stops code machine k (stop.Done o)
      → IsRest m s ds tx.pending tx.reads (done (outcome_view o))
  ends_at machine tx k o rest e = subst (λ c. IsRest m s ds tx.pending tx.reads c) e rest
