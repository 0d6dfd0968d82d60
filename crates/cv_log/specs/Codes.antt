-- How the logic stores a log.
use Rattle.std.specs.Prelude.{ℕ, List, refl}
use Rattle.std.specs.Coded.{Coded, code_by, coded×, coded_list, coded_ℕ}
use Rattle.cv_reads.specs.contracts.mark.Mark as mark
use Rattle.cv_reads.specs.declared.mark.Mark.{Mark}
use Rattle.fn_tree.specs.History.{History}
use Rattle.cv_store.specs.Codes.{history_code}
use Rattle.cv_log.specs.Records.{Log}

abbrev pub log_code : Coded Log
log_code = code_by (History × (List (List Mark) × ℕ)) (coded× history_code (coded× (coded_list (coded_list mark.the_row.coded)) coded_ℕ))
    (λ l. (l.entries, (l.marks, l.spare))) (λ p. record { entries = p.0; marks = p.1.0; spare = p.1.1 }) (λ _. refl)
