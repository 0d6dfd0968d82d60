-- What is left of a run: at its start, behind a write and a read, and at its end.
use Rattle.std.proofs.Common.{◌≡◌, ◌∙◌, ℕ, suc, ◌+◌, ◌<◌, List, [], ◌∷◌, ◌++◌, append_assoc, append-nil, length, map, refl, sym, ap, subst, arith}
use Rattle.std.proofs.lemmas.List.{length-append}
use Rattle.cv_values.specs.IdLaws.{IsId}
use Rattle.cv_values.specs.declared.doc.Doc.{Doc}
use Rattle.cv_keys.specs.Intervals.{in_bytes}
use Rattle.cv_keys.specs.KeyOrder.{EndInRange}
use Rattle.cv_keys.specs.Places.{PlaceInterval}
use Rattle.cv_keys.specs.declared.interval.Interval.{Interval}
use Rattle.cv_keys.specs.declared.write.Write.{Write}
use Rattle.fn_tree.proofs.RunsAsk.{runs_ask_there}
use Rattle.fn_tree.specs.AsksThere.{IsThere}
use Rattle.cv_run.specs.Rest.{IsRest}
use Rattle.cv_store.specs.Reads.{EndsInRange}
use Rattle.cv_tx.proofs.PendingLaws.{pending_is_true, pending_is_seen, pending_is_written}
use Rattle.cv_tx.specs.Pending.{placed, pending_after, AreTrue, written}
use Rattle.cv_tx.specs.PutsLaid.{IsTold, AreTold}
use Rattle.fn_tree.proofs.TrueRuns.{runs_put_truly}
use Rattle.fn_tree.specs.Course.{Ask, Course, done, ask, put}
use Rattle.fn_tree.specs.Documents.{Docs, with_doc, applied}
use Rattle.fn_tree.specs.EntryViews.{reply_view}
use Rattle.fn_tree.specs.Functions.{Start, course_of}
use Rattle.fn_tree.specs.PutLaws.{IsFresh, PutsAreTrue}
use Rattle.fn_tree.specs.Run.{Played, played, with_puts, writes_of, run}
use Rattle.fn_tree.specs.Scan.{Answer, answer}
use Rattle.fn_tree.specs.Schemas.{schema_of}
use Rattle.fn_tree.specs.SyntaxTree.{ModuleTree}
use Rattle.fn_tree.specs.declared.entry.Reply.{Reply as Held}
use Rattle.fn_tree.specs.declared.stop.Put.{Put}

with_puts-end : (ps : List Put) (p : Put) (ds : Docs) → with_puts (ps ++ p ∷ []) ds ≡ with_doc p.id p.new (with_puts ps ds)
with_puts-end [] p ds = refl
with_puts-end (q ∷ ps) p ds = with_puts-end ps p (with_doc q.id q.new ds)

pending_after-end : (ps : List Put) (p : Put) (ws : List Write) → pending_after ws (ps ++ p ∷ []) ≡ placed p (pending_after ws ps)
pending_after-end [] p ws = refl
pending_after-end (q ∷ ps) p ws = pending_after-end ps p (placed q ws)

told-end : (ps : List Put) (p : Put) (ds : Docs) → AreTold ds ps → IsTold (with_puts ps ds) p → AreTold ds (ps ++ p ∷ [])
told-end [] p ds told last = (last, tt)
told-end (q ∷ ps) p ds told last = (told.0, told-end ps p (with_doc q.id q.new ds) told.1 last)

bytes-end : (is : List PlaceInterval) (i : PlaceInterval) → map in_bytes (is ++ i ∷ []) ≡ map in_bytes is ++ in_bytes i ∷ []
bytes-end [] i = refl
bytes-end (j ∷ is) i = ap (λ bs. in_bytes j ∷ bs) (bytes-end is i)

ends-end : (is : List PlaceInterval) (i : PlaceInterval) → EndsInRange is → EndInRange i.lo × EndInRange i.hi → EndsInRange (is ++ i ∷ [])
ends-end [] i ends last = (last, tt)
ends-end (j ∷ is) i ends last = (ends.0, ends-end is i ends.1 last)

bytes-length : (is : List PlaceInterval) → length (map in_bytes is) ≡ length is
bytes-length [] = refl
bytes-length (i ∷ is) = ap suc (bytes-length is)

module _ (m : ModuleTree) (s : Start) (ds : Docs) where
  abbrev Rest : List Write → List Interval → Course → Type 0
  Rest pending reads k = IsRest m s ds pending reads k

  -- at its start all is left
  pub whole_rest : IsFresh s.origin 0 ds → Rest [] [] (course_of m s)
  whole_rest fresh = record {
    puts = [];
    ranges = [];
    pending_are = refl;
    reads_are = refl;
    ends = tt;
    told = tt;
    truly = runs_put_truly m s ds fresh;
    there = runs_ask_there m s;
    whole = refl;
  }

  -- the pending writes tell what is there
  pub pending_true : (pending : List Write) (reads : List Interval) (k : Course) → Rest pending reads k → AreTrue ds pending
  pending_true pending reads k rest = subst (AreTrue ds) (sym rest.pending_are) (pending_is_true ds rest.puts rest.told)

  -- behind a write
  pub put_rest : (pending : List Write) (reads : List Interval) (p : Put) (next : Course) → IsId p.id → Rest pending reads (put p next) → Rest (placed p pending) reads next
  put_rest pending reads p next fits rest = record {
    puts = rest.puts ++ p ∷ [];
    ranges = rest.ranges;
    pending_are = ap (placed p) rest.pending_are ∙ sym (pending_after-end rest.puts p []);
    reads_are = rest.reads_are;
    ends = rest.ends;
    told = told-end rest.puts p ds rest.told (record { there = rest.truly.0.old; own = rest.truly.0.new; fits = fits });
    truly = subst (λ es. PutsAreTrue (schema_of m.tables) s.origin es next) (sym (with_puts-end rest.puts p ds)) rest.truly.1;
    there = rest.there;
    whole = rest.whole;
  }

  -- what a read sees of the documents with the pending writes
  seen_same : (pending : List Write) (reads : List Interval) (k : Course) (q : Ask) (rest : Rest pending reads k)
      → answer (schema_of m.tables) (applied pending ds) q ≡ answer (schema_of m.tables) (with_puts rest.puts ds) q
  seen_same pending reads k q rest =
      ap (λ (ws : List Write). answer (schema_of m.tables) (applied ws ds) q) rest.pending_are ∙ pending_is_seen m.tables ds rest.puts rest.told q

  -- behind a read
  pub read_rest : (pending : List Write) (reads : List Interval) (q : Ask) (next : List Doc → Course) (docs : List Doc) (consumed : Interval)
      → docs ≡ (answer (schema_of m.tables) (applied pending ds) q).docs
      → consumed ≡ in_bytes ((answer (schema_of m.tables) (applied pending ds) q).consumed)
      → EndInRange ((answer (schema_of m.tables) (applied pending ds) q).consumed.lo) × EndInRange ((answer (schema_of m.tables) (applied pending ds) q).consumed.hi)
      → Rest pending reads (ask q next) → Rest pending (reads ++ consumed ∷ []) (next docs)
  read_rest pending reads q next docs consumed d i ends rest =
      let same = seen_same pending reads (ask q next) q rest in
      let a : Answer = answer (schema_of m.tables) (with_puts rest.puts ds) q in
      let p : Played = played (schema_of m.tables) ds rest.puts (next a.docs) in
      let behind : Rest pending (reads ++ in_bytes a.consumed ∷ []) (next a.docs) = record {
        puts = rest.puts;
        ranges = rest.ranges ++ a.consumed ∷ [];
        pending_are = rest.pending_are;
        reads_are = ap (λ (bs : List Interval). bs ++ in_bytes a.consumed ∷ []) rest.reads_are ∙ sym (bytes-end rest.ranges a.consumed);
        ends = ends-end rest.ranges a.consumed rest.ends (subst (λ (x : Answer). EndInRange x.consumed.lo × EndInRange x.consumed.hi) same ends);
        told = rest.told;
        truly = rest.truly;
        there = rest.there.1 a.docs;
        whole = rest.whole ∙ ap (λ (is : List PlaceInterval). record p { reads = is }) (sym (append_assoc rest.ranges (a.consumed ∷ []) p.reads));
      } in
      let docs_are : a.docs ≡ docs = sym (d ∙ ap (λ (x : Answer). x.docs) same) in
      let consumed_is : in_bytes a.consumed ≡ consumed = sym (i ∙ ap (λ (x : Answer). in_bytes x.consumed) same) in
      subst (λ (xs : List Doc). Rest pending (reads ++ consumed ∷ []) (next xs)) docs_are
      (subst (λ (j : Interval). Rest pending (reads ++ j ∷ []) (next a.docs)) consumed_is behind)

  -- a run that asks has made fewer reads than it makes
  pub reads_fewer : (pending : List Write) (reads : List Interval) (q : Ask) (next : List Doc → Course) → Rest pending reads (ask q next) → length reads < length (run m s ds).reads
  reads_fewer pending reads q next rest =
      let a : Answer = answer (schema_of m.tables) (with_puts rest.puts ds) q in
      let p : Played = played (schema_of m.tables) ds rest.puts (next a.docs) in
      let all : length (run m s ds).reads ≡ length (rest.ranges ++ a.consumed ∷ p.reads) = ap (λ (x : Played). length x.reads) rest.whole in
      let parts : length (rest.ranges ++ a.consumed ∷ p.reads) ≡ length rest.ranges + length (a.consumed ∷ p.reads) = length-append rest.ranges (a.consumed ∷ p.reads) in
      let made : length reads ≡ length rest.ranges = ap length rest.reads_are ∙ bytes-length rest.ranges in
      omega (arith, all, parts, made)

  pub there_rest : (pending : List Write) (reads : List Interval) (q : Ask) (next : List Doc → Course) → Rest pending reads (ask q next) → IsThere (schema_of m.tables) q
  there_rest pending reads q next rest = rest.there.0

  -- at its end
  module _ (pending : List Write) (reads : List Interval) (reply : Held) (cost : ℕ) (rest : IsRest m s ds pending reads (done (record { reply = reply_view reply; cost = cost }))) where
    ended : Played
    ended = record { reply = reply_view reply; puts = rest.puts; reads = rest.ranges ++ []; cost = cost }

    pub end_reply : reply_view reply ≡ (run m s ds).reply
    end_reply = sym (ap (λ (x : Played). x.reply) rest.whole)

    pub end_reads : reads ≡ map in_bytes (run m s ds).reads
    end_reads = rest.reads_are ∙ sym (ap (λ (x : Played). map in_bytes x.reads) rest.whole ∙ ap (map in_bytes) (append-nil rest.ranges))

    pub end_ends : EndsInRange (run m s ds).reads
    end_ends = subst EndsInRange (sym (ap (λ (x : Played). x.reads) rest.whole ∙ append-nil rest.ranges)) rest.ends

    pub end_writes : written reply pending ≡ (run m s ds).writes
    end_writes =
        ap (written reply) rest.pending_are ∙ pending_is_written ds rest.puts rest.told reply
        ∙ sym (ap (λ (x : Played). writes_of x.reply ds x.puts) rest.whole)

    pub end_count : length reads ≡ length (run m s ds).reads
    end_count = ap length end_reads ∙ bytes-length (run m s ds).reads
