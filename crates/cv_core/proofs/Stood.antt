-- A store over a core goes on as its core does.
use Rattle.std.proofs.Common.{◌≡◌, inl, inr, ℕ, zero, suc, ◌≤◌, [], ◌∷◌, ◌++◌, length, drop, refl, sym, ap, ◌∙◌, subst, append-nil, length-append, arith}
use Rattle.std.specs.Prelude.{Result, Ok, Err, option_map}
use Rattle.fn_tree.specs.History.{Entry, History}
use Rattle.fn_tree.specs.SyntaxViews.{module_view}
use Rattle.cv_store.specs.Cache.{untouched_by}
use Rattle.cv_store.specs.FirstTouch.{first_touch}
use Rattle.cv_store.specs.Kept.{kept}
use Rattle.cv_store.specs.Marks.{entry_marks}
use Rattle.cv_store.specs.Stores.{Standing, Name, Extends, Reads, StandIn, Commits, IsRunOf, entry_of}
use Rattle.cv_store.specs.Turns.{OneTurn, no_turns}
use Rattle.cv_store.specs.declared.proposal.Ended.{Ended}
use Rattle.cv_store.specs.declared.proposal.Ended.TheVariants.{Committed, Known, SentBack}
use Rattle.cv_store.specs.declared.proposal.Proposal.{Proposal}
use Rattle.cv_store.specs.declared.turns.Turns.{Turns}
use Rattle.cv_core.specs.Cores.{State, program_of, schema_in, standing, alone, StandsWell, IsSameButRoom}
use Rattle.cv_core.specs.Ends.{Ends}
use Rattle.cv_core.specs.Solos.{Solo, stands_of}
use Rattle.cv_core.specs.Versioned.{entries_at}

skipped : (es : History) (f : Entry) (h : History) → StandIn es h → StandIn es (f ∷ h)
skipped [] f h s = tt
skipped (e ∷ es) f h s = inr s

stand_itself : (h : History) → StandIn h h
stand_itself [] = tt
stand_itself (e ∷ h) = inl (refl, stand_itself h)

pub stand_drop : (n : ℕ) (h : History) → StandIn (drop n h) h
stand_drop zero h = stand_itself h
stand_drop (suc n) [] = tt
stand_drop (suc n) (e ∷ h) = skipped (drop n h) e h (stand_drop n h)

drop_end : (n : ℕ) (h more : History) → n ≤ length h → drop n (h ++ more) ≡ drop n h ++ more
drop_end zero h more l = refl
drop_end (suc n) [] more l = absurd (omega (arith, l))
drop_end (suc n) (e ∷ h) more l = drop_end n h more (omega (arith, l))

pub drop_whole : (h : History) → drop (length h) h ≡ []
drop_whole [] = refl
drop_whole (e ∷ h) = drop_whole h

-- a store whose own entries begin after n, before and after a step
module _ (name : Name) (n : ℕ) (t u : Turns) (c d : State) (within : n ≤ length c.log) (program : program_of d ≡ program_of c) (well : StandsWell d) where
  -- the log of the core goes on by these entries
  extends_by : (more : History) → d.log ≡ c.log ++ more → Extends (standing name (drop n c.log) t c) (standing name (drop n d.log) u d) more
  extends_by more log = record {
    program = program;
    name = refl;
    seen = (more, log);
    legal = well.legal;
    in_range = well.in_range;
    mine = ap (drop n) log ∙ drop_end n c.log more within;
    stands = stand_drop n d.log;
  }

  -- log and cache stay
  reads_only : d.log ≡ c.log → d.cache ≡ c.cache → Reads (standing name (drop n c.log) t c) (standing name (drop n d.log) u d)
  reads_only log cache = record { extends = extends_by [] (log ∙ sym (append-nil c.log)); cache = cache }

  -- how a commit ends at the core is how it ends at the store
  commits : (p : Proposal) (e : Ended) → Ends c d p e → Commits (standing name (drop n c.log) t c) (standing name (drop n d.log) u d) p e
  commits p (Committed ts) h =
      let count = ap length h.0 ∙ length-append c.log (entry_of p ∷ []) in
      let last : ts ≡ length d.log = omega (arith, count, h.3) in (
        c.log,
        record {
          extends = extends_by (entry_of p ∷ []) h.0;
          seen = ([], sym (append-nil c.log));
          last = h.0;
          new = h.1;
          untouched = h.2;
          cache = h.4 ∙ ap (λ (k : ℕ). option_map (untouched_by (entry_marks (schema_in c) k (entry_of p))) c.cache) last;
        },
        last,
      )
  commits p (Known ts reply) h = record {
    reads = reads_only (ap (λ (x : State). x.log) h.0) (ap (λ (x : State). x.cache) h.0);
    same_reply = ap (λ (x : State). kept p.call.session p.call.request x.log) h.0 ∙ h.1;
  }
  commits p (SentBack touch) h = (
    record {
      reads = reads_only (ap (λ (x : State). x.log) h.0) (ap (λ (x : State). x.cache) h.0);
      same_reply = ap (λ (x : State). kept p.call.session p.call.request x.log) h.0 ∙ h.1;
    },
    ap (λ (x : State). first_touch (schema_in c) p.reads x.log p.snapshot) h.0 ∙ h.2,
  )

-- ---- a store, opened

module _ (s : Solo) (core : State) (start : ℕ) (t : Turns) (is : record { core = core; start = start; turns = t } ≡ s) where
  -- one step more was counted
  pub solo_turn : {A E : Type 0} (after : Turns → Turns) (u : Turns) (r : Result A E) → u ≡ after t → OneTurn after s.turns u r
  solo_turn after u (Ok x) e = e ∙ ap (λ (x : Solo). after x.turns) is
  solo_turn after u (Err x) e = inl (e ∙ ap (λ (x : Solo). after x.turns) is)

  module _ (within : start ≤ length core.log) where
    pub solo_well : StandsWell core → Reads (stands_of s) (stands_of s)
    solo_well well = subst (λ (x : Solo). Reads (stands_of x) (stands_of x)) is (reads_only (start ∷ []) start t t core core within refl well refl refl)

    -- the store of a core that made room at the most
    pub solo_room : (d : State) (u : Turns) → IsSameButRoom core d → StandsWell d → Reads (stands_of s) (stands_of (record { core = d; start = start; turns = u }))
    solo_room d u same well =
        subst (λ (x : Solo). Reads (stands_of x) (stands_of (record { core = d; start = start; turns = u }))) is
        (reads_only (start ∷ []) start t u core d within (ap module_view same.tree) well same.log same.cache)

    -- the store of a core that was only read
    pub solo_reads : (d : State) (u : Turns) → d ≡ core → StandsWell d → Reads (stands_of s) (stands_of (record { core = d; start = start; turns = u }))
    solo_reads d u same well = solo_room d u room well
      where
        room : IsSameButRoom core d
        room = record {
          tree = ap (λ (x : State). x.tree) same;
          log = ap (λ (x : State). x.log) same;
          docs = ap (λ (x : State). x.rows.docs) same;
          rows = λ table index. ap (λ (x : State). entries_at table index x.rows.tables) same;
          cache = ap (λ (x : State). x.cache) same;
        }

    pub solo_commits : (c d : State) (u : Turns) (p : Proposal) (e : Ended) → IsSameButRoom core c → program_of d ≡ program_of c → StandsWell d → Ends c d p e
        → Commits (stands_of s) (stands_of (record { core = d; start = start; turns = u })) p e
    solo_commits c d u p e same program well h =
        subst (λ (x : Solo). Commits (stands_of x) (stands_of (record { core = d; start = start; turns = u })) p e) is
        (subst (λ (x : Standing). Commits x (stands_of (record { core = d; start = start; turns = u })) p e) stood
        (commits (start ∷ []) start t u c d (subst (λ (k : History). start ≤ length k) (sym same.log) within) program well p e h))
      where
        stood : standing (start ∷ []) (drop start c.log) t c ≡ standing (start ∷ []) (drop start core.log) t core
        stood = λ i. record { program = module_view (same.tree i); name = start ∷ []; seen = same.log i; mine = drop start (same.log i); cache = same.cache i; turns = t }

  -- the proposal's run, at the core
  pub solo_run : (c : State) (p : Proposal) → IsSameButRoom core c → IsRunOf (stands_of s) p → IsRunOf (alone c) p
  solo_run c p same run =
      let here : IsRunOf (stands_of (record { core = core; start = start; turns = t })) p = subst (λ (x : Solo). IsRunOf (stands_of x) p) (sym is) run in
      let there : IsRunOf (alone core) p = record { snapshot = here.snapshot; answer = here.answer; writes = here.writes } in
      subst (λ (x : Standing). IsRunOf x p) stood there
    where
      stood : alone core ≡ alone c
      stood = λ i. record { program = module_view (sym same.tree i); name = []; seen = sym same.log i; mine = []; cache = sym same.cache i; turns = no_turns }
