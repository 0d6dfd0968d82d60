-- A machine that is driven over a list of documents.
use Rattle.std.proofs.Common.{◌≡◌, Option, Some, None, ◌∙◌, ◌+◌, List, [], ◌∷◌, ◌++◌, append_assoc, append-nil, length, map, refl, sym, ap, subst, arith}
use Rattle.std.proofs.lemmas.List.{length-append}
use Rattle.cv_keys.specs.Intervals.{in_bytes}
use Rattle.cv_keys.specs.declared.interval.Interval.{Interval}
use Rattle.cv_keys.specs.declared.schema.Schema.{Schema}
use Rattle.cv_values.specs.declared.doc.Doc.{Doc}
use Rattle.fn_code.specs.declared.code.Code.{Code}
use Rattle.fn_plain.specs.Answers.{Asks, Answers, HasRoomLeft}
use Rattle.fn_plain.specs.Runs.{IsRun}
use Rattle.fn_plain.specs.States.{End}
use Rattle.fn_plain.specs.declared.runs.PlainRun.{PlainRun}
use Rattle.fn_tree.specs.Course as course
use Rattle.fn_tree.specs.Course.{Course, Outcome, Reply, done, ask, put}
use Rattle.fn_tree.specs.Documents.{Docs}
use Rattle.fn_tree.specs.EntryViews.{reply_view}
use Rattle.fn_tree.specs.Functions.{Start, course_of}
use Rattle.fn_tree.specs.Run.{Played, played, with_puts, writes_of, run}
use Rattle.fn_tree.specs.Scan.{Answer, answer}
use Rattle.fn_tree.specs.Schemas.{schema_of}
use Rattle.fn_tree.specs.SyntaxTree.{ModuleTree}
use Rattle.fn_tree.specs.declared.stop.Answer.{Answer as HeldAnswer}
use Rattle.fn_tree.specs.declared.stop.Ask.{Ask}
use Rattle.fn_tree.specs.declared.stop.Ask.TheVariants.{Get, Scan}
use Rattle.fn_tree.specs.declared.stop.Put.{Put}
use Rattle.fn_vm.specs.Machines.{Goes}
use Rattle.fn_vm.specs.Moves.{Stands}
use Rattle.fn_trial.specs.Driven.{IsRest, OneMore}
use Rattle.fn_trial.specs.declared.machine_run.Drive.{Drive}

-- the machine's reads are some that the plain program answers
pub asks_same : (a : Ask) (q : course.Ask) → Stands a q → Asks a q
asks_same (Get id left) q e = e
asks_same (Scan interval desc limit left) q (p, e, same, lo, hi, size) = (p, e, record { bytes = sym same; lo = lo; hi = hi })

pub room_left : (a : Ask) (q : course.Ask) → Stands a q → HasRoomLeft a
room_left (Get id left) q e = tt
room_left (Scan interval desc limit left) q (p, e, same, lo, hi, size) = omega (arith, size)

pub none_left : {A : Type 0} (o : Option A) → ((x : A) → o ≡ Some x → ⊥) → o ≡ None
none_left None f = refl
none_left (Some x) f = absurd (f x refl)

-- ---- the rest of a course

-- at its beginning
pub whole_rest : (schema : Schema) (ds : Docs) (whole : Course) (puts : List Put) (reads : List Interval) → puts ≡ [] → reads ≡ [] → IsRest schema ds puts reads whole whole
whole_rest schema ds whole puts reads p r =
    let none : IsRest schema ds [] [] whole whole = record { same = refl; counted = omega (arith) } in
    subst (λ (ps : List Put). IsRest schema ds ps reads whole whole) (sym p) (subst (λ (rs : List Interval). IsRest schema ds [] rs whole whole) (sym r) none)

module _ (code : Code) (schema : Schema) (ds : Docs) (whole : Course) (before after : Drive) where
  -- behind a read
  pub asked_more : (q : course.Ask) (next : List Doc → Course) (held : HeldAnswer) (seen : Docs)
      → IsRest schema ds before.puts.items before.reads.items whole (ask q next)
      → Goes code after.machine (next held.docs.items)
      → seen ≡ with_puts before.puts.items ds
      → Answers held (answer schema seen q)
      → after.puts.items ≡ before.puts.items
      → after.reads.items ≡ before.reads.items ++ held.consumed ∷ []
      → OneMore code schema ds whole before after
  asked_more q next held seen rest goes now answers puts reads =
      let a : Answer = answer schema (with_puts before.puts.items ds) q in
      let same : Answers held a = subst (λ (xs : Docs). Answers held (answer schema xs q)) now answers in
      let read : List Interval = before.reads.items ++ in_bytes a.consumed ∷ [] in
      let longer : length read ≡ length before.reads.items + 1 = length-append before.reads.items (in_bytes a.consumed ∷ []) in
      let p : Played = played schema ds before.puts.items (next a.docs) in
      let ended : IsRest schema ds before.puts.items read whole (next a.docs) = record {
        same = rest.same ∙ ap (λ (rs : List Interval). record { reply = p.reply; puts = p.puts; reads = rs; cost = p.cost })
            (sym (append_assoc before.reads.items (in_bytes a.consumed ∷ []) (map in_bytes p.reads)));
        counted = omega (arith, rest.counted, longer);
      } in
      let reads_are : after.reads.items ≡ read = reads ∙ ap (λ (i : Interval). before.reads.items ++ i ∷ []) same.consumed in
      let docs_are : held.docs.items ≡ a.docs = same.docs in
      record {
        drives = (
          next held.docs.items,
          goes,
          subst (λ (xs : List Doc). IsRest schema ds after.puts.items after.reads.items whole (next xs)) (sym docs_are)
              (subst (λ (rs : List Interval). IsRest schema ds after.puts.items rs whole (next a.docs)) (sym reads_are)
              (subst (λ (ps : List Put). IsRest schema ds ps read whole (next a.docs)) (sym puts) ended)),
        );
        more = omega (arith, ap (λ (ps : List Put). length ps) puts, ap (λ (rs : List Interval). length rs) reads_are, longer);
      }

  -- behind a write
  pub put_more : (p : Put) (next : Course)
      → IsRest schema ds before.puts.items before.reads.items whole (put p next)
      → Goes code after.machine next
      → after.puts.items ≡ before.puts.items ++ p ∷ []
      → after.reads.items ≡ before.reads.items
      → OneMore code schema ds whole before after
  put_more p next rest goes puts reads =
      let longer : length (before.puts.items ++ p ∷ []) ≡ length before.puts.items + 1 = length-append before.puts.items (p ∷ []) in
      let ended : IsRest schema ds (before.puts.items ++ p ∷ []) before.reads.items whole next = record { same = rest.same; counted = omega (arith, rest.counted, longer) } in
      record {
        drives = (
          next,
          goes,
          subst (λ (ps : List Put). IsRest schema ds ps after.reads.items whole next) (sym puts)
              (subst (λ (rs : List Interval). IsRest schema ds (before.puts.items ++ p ∷ []) rs whole next) (sym reads) ended),
        );
        more = omega (arith, ap (λ (ps : List Put). length ps) puts, ap (λ (rs : List Interval). length rs) reads, longer);
      }

-- at its end
pub done_run : (m : ModuleTree) (s : Start) (schema : Schema) (ds : Docs) (puts : List Put) (held : PlainRun) (k : Course)
    → schema ≡ schema_of m.tables
    → k ≡ done (record { reply = reply_view held.reply; cost = held.cost })
    → held.writes ≡ writes_of (reply_view held.reply) ds puts
    → IsRest schema ds puts held.reads.items (course_of m s) k
    → IsRun held (run m s ds)
done_run m s schema ds puts held k e over w rest =
    let whole = course_of m s in
    let o : Outcome = record { reply = reply_view held.reply; cost = held.cost } in
    let p : Played = played (schema_of m.tables) ds [] whole in
    let behind : IsRest (schema_of m.tables) ds puts held.reads.items whole (done o) =
    subst (λ x. IsRest (schema_of m.tables) ds puts held.reads.items whole x) over (subst (λ (x : Schema). IsRest x ds puts held.reads.items whole k) e rest) in
    let reply : reply_view held.reply ≡ p.reply = ap (λ (x : End). x.reply) (sym behind.same) in
    let put_all : puts ≡ p.puts = ap (λ (x : End). x.puts) (sym behind.same) in
    record {
      reply = reply;
      writes = w ∙ ap (λ (r : Reply). writes_of r ds puts) reply ∙ ap (λ (ps : List Put). writes_of p.reply ds ps) put_all;
      reads = sym (append-nil held.reads.items) ∙ ap (λ (x : End). x.reads) (sym behind.same);
      cost = ap (λ (x : End). x.cost) (sym behind.same);
    }
