use Rattle.std.proofs.Common.{◌≡◌, ◌≢◌, ℕ, pos, List, [], ◌∷◌, refl, ap, arith}
use Rattle.std.specs.Fmt.{digits}
use Rattle.cv_keys.specs.declared.write.Write.{Write}
use Rattle.cv_values.specs.Ids.{hex_of, part}
use Rattle.cv_values.specs.Value.{int}
use Rattle.fn_tree.specs.Course.{gives}
use Rattle.fn_tree.proofs.laws.worked_runs.Goals as goal

one_two : ◌≡◌ {A = ℕ} 1 2 → ⊥
one_two e = cc

-- pairs of different numbers are different
apart : (a b : ℕ) → a ≢ b → ◌≢◌ {A = ℕ × ℕ} (1, a) (1, b)
apart a b n = λ p. n (ap (λ (q : ℕ × ℕ). q.1) p)

sessions_apart : ◌≢◌ {A = ℕ × ℕ} (1, 1) (2, 1)
sessions_apart p = one_two (ap (λ (q : ℕ × ℕ). q.0) p)

-- one is not none
wrong_reply : gives (int (pos 1)) ≡ gives (int (pos 0)) → ⊥
wrong_reply e = cc

wrong_writes : {w : Write} {ws : List Write} → [] ≡ w ∷ ws → ⊥
wrong_writes e = cc

pub returns-clause-expressions : goal.returns-clause-expressions
unfolding digits hex_of part
returns-clause-expressions c = ((refl, refl, refl, refl, refl, refl, refl, refl, refl), (refl, refl, refl, refl, refl, refl, refl, refl, refl, refl, refl, refl, refl), (refl, refl, refl, refl, refl, refl, refl, refl, refl, refl, refl, refl, refl, refl, refl, refl, refl, refl, refl, refl, refl, refl, refl, refl, refl), ((refl, refl, refl), (refl, refl, refl), (refl, refl, refl), (refl, refl, refl), (refl, refl, refl), (refl, refl, refl)), (refl, refl, refl, refl, refl, refl, refl, refl, refl, refl, refl, refl, refl), (refl, refl, refl, refl, refl, refl, refl, refl, refl, refl, refl, refl), (refl, refl), (refl, refl, refl, refl, refl, refl, refl, refl, refl, refl, refl, refl, refl, refl, refl, refl, refl, refl, refl, refl, refl, refl, refl, refl, refl, refl, refl), (refl, refl, refl, refl, refl, refl, refl, refl, refl, refl, refl, refl, refl, refl, refl, refl, refl, refl, refl, refl, refl, refl, refl, refl, refl, refl, refl, refl, refl, refl, refl, refl, refl))

pub returns-clause-statements : goal.returns-clause-statements
unfolding digits hex_of part
returns-clause-statements c = ((refl, refl, refl, refl, refl, refl, refl, refl, refl), (refl, refl, refl, refl, refl, refl, refl), (refl, refl, refl, refl, refl, refl, refl), (refl, refl, refl, refl, λ s h. rw h, λ s h. rw h), (refl, refl, refl, refl, refl, refl, refl, refl, refl, refl, refl))

pub returns-clause-reads : goal.returns-clause-reads
unfolding digits hex_of part
returns-clause-reads c = ((refl, refl, refl, refl, refl, refl, refl), (refl, refl, refl), (refl, refl, refl, refl, refl, refl, refl, refl, refl, refl, refl, refl, refl, refl, refl, refl), (refl, refl, refl, refl, refl, refl, refl, refl, refl, refl, refl, refl, refl, refl, refl), (refl, refl), refl, (refl, refl, refl, refl, refl), (refl, refl, refl, refl, refl, refl), (refl, refl, refl), (refl, refl, refl, refl, refl, refl, refl, refl, refl, refl, refl, refl, refl, refl, refl, refl, refl, refl), (refl, refl, refl, refl, refl, refl), (refl, refl, refl, refl, refl, refl), (refl, refl, refl, refl, refl))

pub returns-clause-writes : goal.returns-clause-writes
unfolding digits hex_of part
returns-clause-writes c = ((refl, refl, refl, refl, refl, refl, refl, refl, refl, refl, refl), (refl, refl, refl, refl, refl, refl, refl, refl, refl, refl), (refl, refl, refl, refl, refl, refl, refl, refl, refl, refl, refl, refl, refl, refl, refl, refl, refl, refl, refl, refl, refl), (refl, refl, refl, refl, refl, refl), refl, (refl, refl, refl, refl, refl, refl, refl, refl, refl, refl, refl), (refl, refl, refl, refl, refl, refl, refl, refl, refl, refl, refl, refl, refl), (refl, refl), (refl, refl), (refl, refl, refl))

pub returns-clause-histories : goal.returns-clause-histories
unfolding digits hex_of part
returns-clause-histories c = (record { runs = (record { reply = refl; writes = refl }, (record { reply = refl; writes = refl }, (record { reply = refl; writes = refl }, (record { reply = refl; writes = refl }, (record { reply = refl; writes = refl }, (record { reply = refl; writes = refl }, (record { reply = refl; writes = refl }, (record { reply = refl; writes = refl }, tt)))))))); once = ((apart 1 2 (omega arith), (apart 1 3 (omega arith), (apart 1 4 (omega arith), (apart 1 5 (omega arith), (apart 1 6 (omega arith), (apart 1 7 (omega arith), (apart 1 8 (omega arith), tt))))))), ((apart 2 3 (omega arith), (apart 2 4 (omega arith), (apart 2 5 (omega arith), (apart 2 6 (omega arith), (apart 2 7 (omega arith), (apart 2 8 (omega arith), tt)))))), ((apart 3 4 (omega arith), (apart 3 5 (omega arith), (apart 3 6 (omega arith), (apart 3 7 (omega arith), (apart 3 8 (omega arith), tt))))), ((apart 4 5 (omega arith), (apart 4 6 (omega arith), (apart 4 7 (omega arith), (apart 4 8 (omega arith), tt)))), ((apart 5 6 (omega arith), (apart 5 7 (omega arith), (apart 5 8 (omega arith), tt))), ((apart 6 7 (omega arith), (apart 6 8 (omega arith), tt)), ((apart 7 8 (omega arith), tt), (tt, tt)))))))) }, (record { runs = (record { reply = refl; writes = refl }, (record { reply = refl; writes = refl }, tt)); once = ((sessions_apart, tt), (tt, tt)) }, λ l. l.once.1.0.1.0 refl, λ l. wrong_reply l.runs.0.reply, λ l. wrong_writes l.runs.0.writes, λ l. wrong_reply l.runs.0.reply), (refl, refl, refl, refl, refl, refl, refl, refl, refl, refl, refl), (refl, refl, refl, refl, refl, refl, refl, refl, refl, refl, refl, refl, refl, refl, refl))
