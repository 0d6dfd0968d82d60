-- Several texts written, one after another.
use Rattle.std.proofs.Common.{◌≡◌, ℕ, ◌+◌, ◌≤◌, min, List, [], ◌++◌, length, take, Option, None, Some, sym, arith, append_assoc, append-nil}
use Rattle.std.proofs.Math.Seq.{take-append-add}
use Rattle.std.proofs.lemmas.List.{take_all, take-append-le, take_min}
use Rattle.std.specs.Io.KnownBytes.{Appends}
use Rattle.cv_outside.specs.Causes.{AppendsPart}

pub Appends-none : (h : Option (List ℕ)) → Appends h h []
Appends-none None = tt
Appends-none (Some a) = sym (append-nil a)

pub Appends-append : (h0 h1 h2 : Option (List ℕ)) (xs ys : List ℕ) → Appends h0 h1 xs → Appends h1 h2 ys → Appends h0 h2 (xs ++ ys)
Appends-append None h1 h2 xs ys p q = tt
Appends-append (Some a) None h2 xs ys p q = absurd p
Appends-append (Some a) (Some b) None xs ys p q = absurd q
Appends-append (Some a) (Some b) (Some c) xs ys p q = rw (q, p, append_assoc)

pub whole_part : (h0 h1 : Option (List ℕ)) (xs : List ℕ) → Appends h0 h1 xs → AppendsPart h0 h1 xs
whole_part h0 h1 xs p = (length xs, rw (take_all (length xs) xs (omega arith)) p)

take_part : (xs ys zs : List ℕ) (n : ℕ) → take (length xs + min n (length ys)) (xs ++ (ys ++ zs)) ≡ xs ++ take n ys
take_part xs ys zs n =
    let le : min n (length ys) ≤ length ys = omega arith in
    rw (take-append-add xs (ys ++ zs) (min n (length ys)), take-append-le (min n (length ys)) ys zs le, take_min)

pub part_more : (h0 h1 h2 : Option (List ℕ)) (xs ys zs : List ℕ) → Appends h0 h1 xs → AppendsPart h1 h2 ys → AppendsPart h0 h2 (xs ++ (ys ++ zs))
part_more h0 h1 h2 xs ys zs p q =
    (length xs + min q.0 (length ys), rw (take_part xs ys zs q.0) (Appends-append h0 h1 h2 xs (take q.0 ys) p q.1))
