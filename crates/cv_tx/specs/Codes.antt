-- How the logic stores a run under way.
use Rattle.std.specs.Prelude.{ℕ, List, refl}
use Rattle.std.specs.Coded.{Coded, code_by, coded×, coded_list, coded_ℕ}
use Rattle.cv_keys.specs.contracts.interval.Interval as interval
use Rattle.cv_keys.specs.contracts.write.Write as write
use Rattle.cv_keys.specs.declared.interval.Interval.{Interval}
use Rattle.cv_keys.specs.declared.write.Write.{Write}
use Rattle.cv_tx.specs.Pending.{Under}

abbrev pub under_code : Coded Under
under_code = code_by (ℕ × (List Write × List Interval)) (coded× coded_ℕ (coded× (coded_list write.the_row.coded) (coded_list interval.the_row.coded)))
    (λ t. (t.snapshot, (t.pending, t.reads))) (λ p. record { snapshot = p.0; pending = p.1.0; reads = p.1.1 }) (λ _. refl)
