-- How far a text has been written.
use Rattle.std.proofs.Common.{◌≡◌, ℕ, ◌≤◌, List, [], ◌++◌, Option, Result, Ok, Err, inl, inr, refl, sym, ap, ◌∙◌, subst, append_assoc, append-nil, arith}
use Rattle.std.specs.Io.KnownBytes.{Appends}
use Rattle.cv_outside.specs.Causes.{AppendsPart, Rose}
use Rattle.cv_stand.specs.Writes.{Writes}
use Rattle.cv_stand.specs.declared.output.PlayFault.{PlayFault}
use Rattle.cv_stand.specs.declared.output.PlayFault.TheVariants.{Write, Memory}
use Rattle.cv_stand.proofs.Appending.{Appends-none, Appends-append, part_more}

-- so much of a text was written without a fault, and this is left
pub record Writing (whole : List ℕ) (h0 h1 : Option (List ℕ)) (f0 f1 : ℕ) (left : List ℕ) : Type 0 where
  pub written : List ℕ
  pub appended : Appends h0 h1 written
  pub is : whole ≡ written ++ left
  pub kept : f1 ≡ f0

pub writing_none : (whole : List ℕ) (h0 : Option (List ℕ)) (f0 : ℕ) → Writing whole h0 h0 f0 f0 whole
writing_none whole h0 f0 = record { written = []; appended = Appends-none h0; is = refl; kept = refl }

-- the same error of another answer
pub same_error : {A B : Type 0} (a b : PlayFault) → ◌≡◌ {A = Result A PlayFault} (Err a) (Err b) → ◌≡◌ {A = Result B PlayFault} (Err a) (Err b)
same_error a b e = let same : a ≡ b = cc in ap Err same

module _ {whole left : List ℕ} {h0 h1 : Option (List ℕ)} {f0 f1 : ℕ} where
  -- there was no memory for the next part
  pub writing_stopped : {U : Type 0} (q : Result U PlayFault) → Writing whole h0 h1 f0 f1 left → q ≡ Err Memory → Writes whole h0 h1 f0 f1 q
  writing_stopped {U = U} q w is =
      subst (λ (x : Result U PlayFault). Writes whole h0 h1 f0 f1 x) (sym is) (record {
        done = tt;
        part = rw w.is (part_more h0 h1 h1 w.written [] left w.appended (0, Appends-none h1));
        fault = inr refl;
        rose = λ x. let never : ◌≡◌ {A = Result U PlayFault} (Err Memory) (Err Write) = x in absurd (cc);
        kept = λ n. w.kept;
        later = omega (arith, w.kept);
      })

  -- nothing is left
  pub writing_all : {T : Type 0} (x : T) → left ≡ [] → Writing whole h0 h1 f0 f1 left → Writes whole h0 h1 f0 f1 (Ok x)
  writing_all {T = T} x none w = record {
    done = rw (w.is ∙ ap (λ (t : List ℕ). w.written ++ t) none ∙ append-nil w.written) w.appended;
    part = tt;
    fault = tt;
    rose = λ e. let never : ◌≡◌ {A = Result T PlayFault} (Ok x) (Err Write) = e in absurd (cc);
    kept = λ n. w.kept;
    later = omega (arith, w.kept);
  }

  module _ {now : List ℕ} {h2 : Option (List ℕ)} {f2 : ℕ} where
    -- the next part was written
    pub writing_more : {T : Type 0} {x : T} (next : List ℕ) → left ≡ now ++ next → Writing whole h0 h1 f0 f1 left → Writes now h1 h2 f1 f2 (Ok x) → Writing whole h0 h2 f0 f2 next
    writing_more {T = T} {x = x} next split w r = record {
      written = w.written ++ now;
      appended = Appends-append h0 h1 h2 w.written now w.appended r.done;
      is = w.is ∙ ap (λ (t : List ℕ). w.written ++ t) split ∙ sym (append_assoc w.written now next);
      kept = r.kept (λ e. let never : ◌≡◌ {A = Result T PlayFault} (Ok x) (Err Write) = e in cc) ∙ w.kept;
    }

    -- the next part was written but in part
    pub writing_cut : {T U : Type 0} {e : PlayFault} (q : Result U PlayFault) (next : List ℕ) → left ≡ now ++ next → Writing whole h0 h1 f0 f1 left → Writes {T = T} now h1 h2 f1 f2 (Err e) → q ≡ Err e
        → Writes whole h0 h2 f0 f2 q
    writing_cut {U = U} {e = e} q next split w r is =
        subst (λ (x : Result U PlayFault). Writes whole h0 h2 f0 f2 x) (sym is) (record {
          done = tt;
          part = rw (w.is ∙ ap (λ (t : List ℕ). w.written ++ t) split) (part_more h0 h1 h2 w.written now next w.appended r.part);
          fault = r.fault;
          rose = λ x. subst (λ (n : ℕ). Rose n f2) w.kept (r.rose (same_error e Write x));
          kept = λ n. r.kept (λ x. n (same_error e Write x)) ∙ w.kept;
          later = subst (λ (n : ℕ). n ≤ f2) w.kept r.later;
        })

    -- the last part is written
    pub writing_last : {T : Type 0} (q : Result T PlayFault) → left ≡ now → Writing whole h0 h1 f0 f1 left → Writes now h1 h2 f1 f2 q → Writes whole h0 h2 f0 f2 q
    writing_last {T = T} (Ok x) last w r = record {
      done = rw (w.is ∙ ap (λ (t : List ℕ). w.written ++ t) last) (Appends-append h0 h1 h2 w.written now w.appended r.done);
      part = tt;
      fault = tt;
      rose = λ e. let never : ◌≡◌ {A = Result T PlayFault} (Ok x) (Err Write) = e in absurd (cc);
      kept = λ n. r.kept (λ e. let never : ◌≡◌ {A = Result T PlayFault} (Ok x) (Err Write) = e in cc) ∙ w.kept;
      later = omega (arith, w.kept, r.later);
    }
    writing_last (Err e) last w r = writing_cut (Err e) [] (last ∙ sym (append-nil now)) w r refl

-- nothing is written where there is nothing
pub writes_nothing : {T : Type 0} (x : T) (h : Option (List ℕ)) (f : ℕ) → Writes [] h h f f (Ok x)
writes_nothing x h f = writing_all x refl (writing_none [] h f)
