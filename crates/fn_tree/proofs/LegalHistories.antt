-- Fronts of legal histories, and entries at their end.
use Rattle.std.proofs.Common.{[], ◌∷◌, ◌++◌, sym}
use Rattle.std.specs.Prelude.{◌≢◌}
use Rattle.fn_tree.specs.Documents.{Docs, applied}
use Rattle.fn_tree.specs.History.{Entry, History, IsRunOn, AreRuns, Pair, HasNoPair, HasDistinctPairs, pair_of, docs_after}
use Rattle.fn_tree.specs.HistoryLaws.{FrontsAreLegal, GoOnByRuns}
use Rattle.fn_tree.specs.SyntaxTree.{ModuleTree}

runs_front : (m : ModuleTree) (ds : Docs) (h rest : History) → AreRuns m ds (h ++ rest) → AreRuns m ds h
runs_front m ds [] rest r = tt
runs_front m ds (e ∷ h) rest r = (r.0, runs_front m (applied e.writes ds) h rest r.1)

no_pair_front : (pair : Pair) (h rest : History) → HasNoPair pair (h ++ rest) → HasNoPair pair h
no_pair_front pair [] rest n = tt
no_pair_front pair (e ∷ h) rest n = (n.0, no_pair_front pair h rest n.1)

distinct_front : (h rest : History) → HasDistinctPairs (h ++ rest) → HasDistinctPairs h
distinct_front [] rest d = tt
distinct_front (e ∷ h) rest d = (no_pair_front (pair_of e) h rest d.0, distinct_front h rest d.1)

pub fronts_are_legal : FrontsAreLegal
fronts_are_legal m h rest l = record { runs = runs_front m [] h rest l.runs; once = distinct_front h rest l.once }

runs_end : (m : ModuleTree) (ds : Docs) (h : History) (e : Entry) → AreRuns m ds h → IsRunOn m (docs_after h ds) e → AreRuns m ds (h ++ e ∷ [])
runs_end m ds [] e r is = (is, tt)
runs_end m ds (f ∷ h) e r is = (r.0, runs_end m (applied f.writes ds) h e r.1 is)

no_pair_end : (pair : Pair) (h : History) (e : Entry) → HasNoPair pair h → pair ≢ pair_of e → HasNoPair pair (h ++ e ∷ [])
no_pair_end pair [] e n other = (other, tt)
no_pair_end pair (f ∷ h) e n other = (n.0, no_pair_end pair h e n.1 other)

distinct_end : (h : History) (e : Entry) → HasDistinctPairs h → HasNoPair (pair_of e) h → HasDistinctPairs (h ++ e ∷ [])
distinct_end [] e d n = (tt, tt)
distinct_end (f ∷ h) e d n = (no_pair_end (pair_of f) h e d.0 (λ s. n.0 (sym s)), distinct_end h e d.1 n.1)

pub go_on_by_runs : GoOnByRuns
go_on_by_runs m h e l is n = record { runs = runs_end m [] h e l.runs is; once = distinct_end h e l.once n }
