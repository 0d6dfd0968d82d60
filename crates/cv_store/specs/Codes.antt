-- How the logic stores replies, entries, histories, modules and caches.
use Rattle.std.specs.Prelude.{◌≡◌, ℕ, List, refl}
use Rattle.std.proofs.Common.{◌⊎◌, inl, inr}
use Rattle.std.specs.Coded.{Coded, code_by, coded×, coded⊎, coded_list, coded_ℕ}
use Rattle.cv_values.specs.Codes.{coded_value}
use Rattle.cv_values.specs.Value.{Value}
use Rattle.cv_keys.specs.contracts.write.Write as write
use Rattle.cv_keys.specs.contracts.interval.Interval as interval
use Rattle.cv_keys.specs.declared.interval.Interval.{Interval}
use Rattle.cv_keys.specs.declared.write.Write.{Write}
use Rattle.fn_tree.specs.Course.{Reply, gives, failed}
use Rattle.fn_tree.specs.History.{Entry, History}
use Rattle.fn_tree.specs.contracts.entry.Call as call
use Rattle.fn_tree.specs.contracts.stop.Query as query
use Rattle.fn_tree.specs.contracts.syntax.Module as syntax
use Rattle.fn_tree.specs.declared.entry.Call.{Call}
use Rattle.fn_tree.specs.declared.stop.Query.{Query}
use Rattle.fn_tree.specs.declared.syntax.Module.{Module}
use Rattle.cv_store.specs.Cache.{Cached, Cache}

abbrev given : Reply → Value ⊎ List ℕ
given (gives v) = inl v
given (failed why) = inr why

abbrev reply : Value ⊎ List ℕ → Reply
reply (inl v) = gives v
reply (inr why) = failed why

abbrev reply_given : (r : Reply) → reply (given r) ≡ r
reply_given (gives v) = refl
reply_given (failed why) = refl

abbrev pub reply_code : Coded Reply
reply_code = code_by (Value ⊎ List ℕ) (coded⊎ coded_value (coded_list coded_ℕ)) given reply reply_given

abbrev pub entry_code : Coded Entry
entry_code = code_by (Call × (Reply × List Write)) (coded× call.the_row.coded (coded× reply_code (coded_list write.the_row.coded)))
    (λ e. (e.call, (e.reply, e.writes))) (λ p. record { call = p.0; reply = p.1.0; writes = p.1.1 }) (λ _. refl)

abbrev pub history_code : Coded History
history_code = coded_list entry_code

abbrev pub module_code : Coded Module
module_code = syntax.the_row.coded

abbrev pub cached_code : Coded Cached
cached_code = code_by (Query × (ℕ × (Reply × List Interval)))
    (coded× query.the_row.coded (coded× coded_ℕ (coded× reply_code (coded_list interval.the_row.coded))))
    (λ c. (c.query, (c.ts, (c.reply, c.reads)))) (λ p. record { query = p.0; ts = p.1.0; reply = p.1.1.0; reads = p.1.1.1 }) (λ _. refl)

abbrev pub cache_code : Coded Cache
cache_code = coded_list cached_code
