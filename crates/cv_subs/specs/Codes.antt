-- How the logic stores the queries of a connection.
use Rattle.std.specs.Prelude.{ℕ, Bool, List, Option, refl}
use Rattle.std.specs.Coded.{Coded, code_by, coded×, coded_list, coded_option, coded_bool, coded_ℕ}
use Rattle.cv_keys.specs.contracts.interval.Interval as interval
use Rattle.cv_keys.specs.declared.interval.Interval.{Interval}
use Rattle.cv_store.specs.Codes.{reply_code}
use Rattle.fn_tree.specs.Course.{Reply}
use Rattle.fn_tree.specs.contracts.stop.Query as query
use Rattle.fn_tree.specs.declared.stop.Query.{Query}
use Rattle.cv_subs.specs.Subs.{Sub, Subs}

abbrev pub sub_code : Coded Sub
sub_code = code_by (Query × (Option Reply × (List Interval × Bool)))
    (coded× query.the_row.coded (coded× (coded_option reply_code) (coded× (coded_list interval.the_row.coded) coded_bool)))
    (λ s. (s.query, (s.result, (s.reads, s.stale)))) (λ p. record { query = p.0; result = p.1.0; reads = p.1.1.0; stale = p.1.1.1 }) (λ _. refl)

abbrev pub subs_code : Coded Subs
subs_code = coded_list (coded× coded_ℕ sub_code)
