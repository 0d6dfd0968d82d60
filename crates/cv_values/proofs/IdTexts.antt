-- Ids and their texts.
use Rattle.std.proofs.Common.{◌≡◌, ℕ, zero, suc, ◌+◌, ◌-◌, ◌*◌, ◌/◌, ◌%◌, ◌^◌, ◌<◌, ◌≤◌, List, [], ◌∷◌, ◌++◌, length, take, drop, Bool, true, false, ◌&&◌, cond, eqb, eq-eqb, Option, Some, None, refl, sym, ap, ◌∙◌, subst, arith, inl, inr, append_assoc, append-nil, length-append, length-drop}
use Rattle.std.specs.Prelude.{option_and_then, is_some}
use Rattle.std.specs.List.{list_all}
use Rattle.std.proofs.Math.Nat.{div-div-eq-div-mul}
use Rattle.std.proofs.Math.Seq.{take-add, take-append_seam, drop-append_seam}
use Rattle.std.proofs.lemmas.Bool.Decides.{leb_tells, eqb_tells}
use Rattle.std.proofs.lemmas.List.{length-take, take_all}
use Rattle.std.proofs.lemmas.List.Folds.{list_all-append}
use Rattle.std.proofs.lemmas.Nat.{pow-add}
use Rattle.cv_values.specs.Ids.{digit, digit_value, hex_of, read_from, part, id_text, read_id}
use Rattle.cv_values.specs.IdLaws.{IdsAreReadBack, OnlyTextsAreRead, DigitsAreRead}
use Rattle.cv_values.specs.declared.ids.DocId.{DocId}

-- ---- one digit

same_number : (m n : ℕ) → eqb m n ≡ true → m ≡ n
same_number m n e = elim (eqb_tells m n) [ inl t ↦ t.1 | inr t ↦ absurd (let f = sym e ∙ t.0 in cc) ]

digit_back : (d : ℕ) → d < 16 → digit_value (digit d) ≡ Some d
digit_back d h = elim (leb_tells (suc d) 10) [
  | inl t ↦ rw t.0 (small (48 + d) (omega (arith, t.1)) (omega (arith, t.1)) ∙ ap (λ (k : ℕ). Some k) (omega arith))
  | inr t ↦ rw t.0 (large (87 + d) (omega (arith, t.1)) (omega (arith, t.1)) ∙ ap (λ (k : ℕ). Some k) (omega arith))
]
  where
    small : (c : ℕ) → 48 ≤ c → c < 58 → digit_value c ≡ Some (c - 48)
    small c lo hi = elim (leb_tells (suc c) 48) [
      | inl t ↦ absurd (omega (arith, t.1))
      | inr t ↦ elim (leb_tells (suc c) 58) [ inl u ↦ rw (t.0, u.0) | inr u ↦ absurd (omega (arith, u.1)) ]
    ]

    large : (c : ℕ) → 97 ≤ c → c < 103 → digit_value c ≡ Some (c - 87)
    large c lo hi = elim (leb_tells (suc c) 48) [
      | inl t ↦ absurd (omega (arith, t.1))
      | inr t ↦ elim (leb_tells (suc c) 58) [
        | inl u ↦ absurd (omega (arith, u.1))
        | inr u ↦ elim (leb_tells (suc c) 97) [
          | inl v ↦ absurd (omega (arith, v.1))
          | inr v ↦ elim (leb_tells (suc c) 103) [ inl w ↦ rw (t.0, u.0, v.0, w.0) | inr w ↦ absurd (omega (arith, w.1)) ]
        ]
      ]
    ]

-- what a digit stands for is below 16, and has that digit
pub record IsDigit (c d : ℕ) : Type 0 where
  pub below : d < 16
  pub digit_is : digit d ≡ c

none_some : (d : ℕ) → ◌≡◌ {A = Option ℕ} None (Some d) → ⊥
none_some d e = cc

some_inj : (a b : ℕ) → Some a ≡ Some b → a ≡ b
some_inj a b e = cc

digit_read : (c d : ℕ) → digit_value c ≡ Some d → IsDigit c d
digit_read c d e = elim (leb_tells (suc c) 48) [
  | inl t ↦ absurd (none_some d (rw t.0 at e))
  | inr t ↦ elim (leb_tells (suc c) 58) [
    | inl u ↦ small (omega (arith, t.1)) (omega (arith, u.1)) (some_inj (c - 48) d (rw (t.0, u.0) at e))
    | inr u ↦ elim (leb_tells (suc c) 97) [
      | inl v ↦ absurd (none_some d (rw (t.0, u.0, v.0) at e))
      | inr v ↦ elim (leb_tells (suc c) 103) [
        | inl w ↦ large (omega (arith, v.1)) (omega (arith, w.1)) (some_inj (c - 87) d (rw (t.0, u.0, v.0, w.0) at e))
        | inr w ↦ absurd (none_some d (rw (t.0, u.0, v.0, w.0) at e))
      ]
    ]
  ]
]
  where
    small : 48 ≤ c → c < 58 → c - 48 ≡ d → IsDigit c d
    small lo hi is = elim (leb_tells (suc d) 10) [
      | inl t ↦ record { below = omega (arith, is); digit_is = rw t.0 (omega (arith, is)) }
      | inr t ↦ absurd (omega (arith, t.1, is))
    ]

    large : 97 ≤ c → c < 103 → c - 87 ≡ d → IsDigit c d
    large lo hi is = elim (leb_tells (suc d) 10) [
      | inl t ↦ absurd (omega (arith, t.1, is))
      | inr t ↦ record { below = omega (arith, is); digit_is = rw t.0 (omega (arith, is)) }
    ]

-- ---- several digits

-- a shift by one digit more
shift_more : (v w : ℕ) → v / 2 ^ (4 * suc w) ≡ v / 2 ^ (4 * w) / 16
shift_more v w =
    let e : 4 * suc w ≡ 4 * w + 4 = omega arith in
    let p : 2 ^ (4 * suc w) ≡ 2 ^ (4 * w) * 16 = ap (λ (k : ℕ). 2 ^ k) e ∙ pow-add 2 (4 * w) 4 in
    ap (λ (k : ℕ). v / k) p ∙ sym (div-div-eq-div-mul v (2 ^ (4 * w)) 16)

hex_read : (w n v : ℕ) → v / 2 ^ (4 * w) ≡ n → read_from n (hex_of w v) ≡ Some v
unfolding hex_of
hex_read zero n v e = ap (λ (k : ℕ). Some k) (omega (arith, e))
hex_read (suc w) n v e =
    let q : ℕ = v / 2 ^ (4 * w) in
    let d : ℕ = q % 16 in
    let s : q / 16 ≡ n = sym (shift_more v w) ∙ e in
    let b : d < 16 = omega arith in
    let step : q ≡ n * 16 + d = omega (arith, s) in
    rw (digit_back d b) (hex_read w (n * 16 + d) v step)

-- what is read from digits has these digits, above what stood before
record Reads (n v : ℕ) (cs : List ℕ) : Type 0 where
  digits : hex_of (length cs) v ≡ cs
  before : v / 2 ^ (4 * length cs) ≡ n

digits_read : (cs : List ℕ) (n v : ℕ) → read_from n cs ≡ Some v → Reads n v cs
unfolding hex_of
digits_read [] n v e = let same : n ≡ v = some_inj n v e in record { digits = refl; before = omega (arith, same) }
digits_read (c ∷ cs) n v e = go (digit_value c) refl e (λ d f. digits_read cs (n * 16 + d) v f)
  where
    step : (d : ℕ) → IsDigit c d → Reads (n * 16 + d) v cs → Reads n v (c ∷ cs)
    step d is r =
        let q : v / 2 ^ (4 * length cs) % 16 ≡ d = omega (arith, r.before, is.below) in
        record {
          digits = ap (λ (k : ℕ). digit k ∷ hex_of (length cs) v) q ∙ (λ i. is.digit_is i ∷ r.digits i);
          before = shift_more v (length cs) ∙ omega (arith, r.before, is.below);
        }

    go : (o : Option ℕ) → digit_value c ≡ o → option_and_then (λ d. read_from (n * 16 + d) cs) o ≡ Some v → ((d : ℕ) → read_from (n * 16 + d) cs ≡ Some v → Reads (n * 16 + d) v cs) → Reads n v (c ∷ cs)
    go None is f rest = absurd (none_some v f)
    go (Some d) is f rest = step d (digit_read c d is) (rest d f)

pub length-hex_of : (w n : ℕ) → length (hex_of w n) ≡ w
unfolding hex_of
length-hex_of zero n = refl
length-hex_of (suc w) n = ap (λ (k : ℕ). suc k) (length-hex_of w n)

-- ---- whole ids

part_at : (text before mid after : List ℕ) (from len n : ℕ) → text ≡ before ++ (mid ++ after) → length before ≡ from → length mid ≡ len → read_from 0 mid ≡ Some n → part text from len ≡ Some n
unfolding part
part_at text before mid after from len n is at wide read =
    let rest : drop from text ≡ mid ++ after = ap (drop from) is ∙ ap (λ (k : ℕ). drop k (before ++ (mid ++ after))) (sym at) ∙ drop-append_seam before (mid ++ after) in
    let here : take len (drop from text) ≡ mid = ap (take len) rest ∙ ap (λ (k : ℕ). take k (mid ++ after)) (sym wide) ∙ take-append_seam mid after in
    ap (read_from 0) here ∙ read

-- a text in four parts
four : (text a b c d : List ℕ) (table session request ordinal : ℕ) → text ≡ ((a ++ b) ++ c) ++ d → length a ≡ 4 → length b ≡ 32 → length c ≡ 8 → length d ≡ 4
    → read_from 0 a ≡ Some table → read_from 0 b ≡ Some session → read_from 0 c ≡ Some request → read_from 0 d ≡ Some ordinal
    → read_id text ≡ Some (record { table = table; session = session; request = request; ordinal = ordinal })
four text a b c d table session request ordinal is la lb lc ld ra rb rc rd =
    let len : length text ≡ 48 = ap length is ∙ omega (arith, length-append ((a ++ b) ++ c) d, length-append (a ++ b) c, length-append a b, la, lb, lc, ld) in
    let test : eqb (length text) 48 ≡ true = eq-eqb (length text) 48 len in
    let ia : text ≡ [] ++ (a ++ (b ++ (c ++ d))) = is ∙ append_assoc (a ++ b) c d ∙ append_assoc a b (c ++ d) in
    let ib : text ≡ a ++ (b ++ (c ++ d)) = ia in
    let ic : text ≡ (a ++ b) ++ (c ++ d) = is ∙ append_assoc (a ++ b) c d in
    let id : text ≡ ((a ++ b) ++ c) ++ (d ++ []) = is ∙ ap (λ (x : List ℕ). ((a ++ b) ++ c) ++ x) (sym (append-nil d)) in
    let pa : part text 0 4 ≡ Some table = part_at text [] a (b ++ (c ++ d)) 0 4 table ia refl la ra in
    let pb : part text 4 32 ≡ Some session = part_at text a b (c ++ d) 4 32 session ib la lb rb in
    let pc : part text 36 8 ≡ Some request = part_at text (a ++ b) c d 36 8 request ic (omega (arith, length-append a b, la, lb)) lc rc in
    let pd : part text 44 4 ≡ Some ordinal = part_at text ((a ++ b) ++ c) d [] 44 4 ordinal id (omega (arith, length-append (a ++ b) c, length-append a b, la, lb, lc)) ld rd in
    rw (test, pa, pb, pc, pd)

pub ids_are_read_back : IdsAreReadBack
ids_are_read_back id r =
    four (id_text id) (hex_of 4 id.table) (hex_of 32 id.session) (hex_of 8 id.request) (hex_of 4 id.ordinal) id.table id.session id.request id.ordinal refl
    (length-hex_of 4 id.table) (length-hex_of 32 id.session) (length-hex_of 8 id.request) (length-hex_of 4 id.ordinal)
    (hex_read 4 0 id.table (omega (arith, r.table))) (hex_read 32 0 id.session (omega (arith, r.session))) (hex_read 8 0 id.request (omega (arith, r.request)))
    (hex_read 4 0 id.ordinal (omega (arith, r.ordinal)))

-- the parts of a text
record Parts (text : List ℕ) (id : DocId) : Type 0 where
  len : length text ≡ 48
  table : part text 0 4 ≡ Some id.table
  session : part text 4 32 ≡ Some id.session
  request : part text 36 8 ≡ Some id.request
  ordinal : part text 44 4 ≡ Some id.ordinal

parts_of : (text : List ℕ) (id : DocId) → read_id text ≡ Some id → Parts text id
parts_of text id e = go (eqb (length text) 48) refl e
  where
    chain : (a b c d : Option ℕ) → part text 0 4 ≡ a → part text 4 32 ≡ b → part text 36 8 ≡ c → part text 44 4 ≡ d → length text ≡ 48
        → option_and_then (λ table. option_and_then (λ session. option_and_then (λ request. option_and_then (λ ordinal. Some (record { table = table; session = session; request = request; ordinal = ordinal })) d) c) b) a ≡ Some id
        → Parts text id
    chain None b c d ea eb ec ed len f = let g : ◌≡◌ {A = Option DocId} None (Some id) = f in absurd (cc)
    chain (Some t) None c d ea eb ec ed len f = let g : ◌≡◌ {A = Option DocId} None (Some id) = f in absurd (cc)
    chain (Some t) (Some s) None d ea eb ec ed len f = let g : ◌≡◌ {A = Option DocId} None (Some id) = f in absurd (cc)
    chain (Some t) (Some s) (Some r) None ea eb ec ed len f = let g : ◌≡◌ {A = Option DocId} None (Some id) = f in absurd (cc)
    chain (Some t) (Some s) (Some r) (Some o) ea eb ec ed len f =
        let made : DocId = record { table = t; session = s; request = r; ordinal = o } in
        let g : ◌≡◌ {A = Option DocId} (Some made) (Some id) = f in
        let same : made ≡ id = cc in
        subst (λ (x : DocId). Parts text x) same (record { len = len; table = ea; session = eb; request = ec; ordinal = ed })

    go : (b : Bool) → eqb (length text) 48 ≡ b
        → cond b (option_and_then (λ table. option_and_then (λ session. option_and_then (λ request. option_and_then (λ ordinal. Some (record { table = table; session = session; request = request; ordinal = ordinal })) (part text 44 4)) (part text 36 8)) (part text 4 32)) (part text 0 4)) None ≡ Some id
        → Parts text id
    go true is f = chain (part text 0 4) (part text 4 32) (part text 36 8) (part text 44 4) refl refl refl refl (same_number (length text) 48 is) f
    go false is f = let g : ◌≡◌ {A = Option DocId} None (Some id) = f in absurd (cc)

piece : (text : List ℕ) (from len n : ℕ) → from + len ≤ length text → part text from len ≡ Some n → hex_of len n ≡ take len (drop from text)
unfolding part
piece text from len n fits is =
    let cs : List ℕ = take len (drop from text) in
    let wide : length cs ≡ len = omega (arith, length-take len (drop from text), length-drop from text, fits) in
    ap (λ (k : ℕ). hex_of k n) (sym wide) ∙ (digits_read cs 0 n is).digits

pub only_texts_are_read : OnlyTextsAreRead
only_texts_are_read text id e =
    let p = parts_of text id e in
    let len : length text ≡ 48 = p.len in
    let a : hex_of 4 id.table ≡ take 4 (drop 0 text) = piece text 0 4 id.table (omega (arith, len)) p.table in
    let b : hex_of 32 id.session ≡ take 32 (drop 4 text) = piece text 4 32 id.session (omega (arith, len)) p.session in
    let c : hex_of 8 id.request ≡ take 8 (drop 36 text) = piece text 36 8 id.request (omega (arith, len)) p.request in
    let d : hex_of 4 id.ordinal ≡ take 4 (drop 44 text) = piece text 44 4 id.ordinal (omega (arith, len)) p.ordinal in
    (λ i. ((a i ++ b i) ++ c i) ++ d i)
    ∙ ap (λ (x : List ℕ). (x ++ take 8 (drop 36 text)) ++ take 4 (drop 44 text)) (sym (take-add 4 32 text))
    ∙ ap (λ (x : List ℕ). x ++ take 4 (drop 44 text)) (sym (take-add 36 8 text)) ∙ sym (take-add 44 4 text) ∙ take_all 48 text (omega (arith, len))

-- ---- which texts are read

all_digits : (cs : List ℕ) (n : ℕ) → is_some (read_from n cs) ≡ list_all (λ c. is_some (digit_value c)) cs
all_digits [] n = refl
all_digits (c ∷ cs) n = go (digit_value c) (λ d. all_digits cs (n * 16 + d))
  where
    go : (o : Option ℕ) → ((d : ℕ) → is_some (read_from (n * 16 + d) cs) ≡ list_all (λ c. is_some (digit_value c)) cs)
        → is_some (option_and_then (λ d. read_from (n * 16 + d) cs) o) ≡ (is_some o && list_all (λ c. is_some (digit_value c)) cs)
    go None rest = refl
    go (Some d) rest = rest d

abbrev chain : Option ℕ → Option ℕ → Option ℕ → Option ℕ → Option DocId
chain a b c d =
    option_and_then (λ table. option_and_then (λ session. option_and_then (λ request. option_and_then (λ ordinal. Some (record { table = table; session = session; request = request; ordinal = ordinal })) d) c) b) a

some_chain : (a b c d : Option ℕ) → is_some (chain a b c d) ≡ (is_some a && is_some b && is_some c && is_some d)
some_chain None b c d = refl
some_chain (Some t) None c d = refl
some_chain (Some t) (Some s) None d = refl
some_chain (Some t) (Some s) (Some r) None = refl
some_chain (Some t) (Some s) (Some r) (Some o) = refl

abbrev is_digit : ℕ → Bool
is_digit c = is_some (digit_value c)

part_digits : (text : List ℕ) (from len : ℕ) → is_some (part text from len) ≡ list_all is_digit (take len (drop from text))
unfolding part
part_digits text from len = all_digits (take len (drop from text)) 0

in_parts : (text : List ℕ) → length text ≡ 48
    → list_all is_digit text ≡ (list_all is_digit (take 4 (drop 0 text)) && list_all is_digit (take 32 (drop 4 text)) && list_all is_digit (take 8 (drop 36 text)) && list_all is_digit (take 4 (drop 44 text)))
in_parts text len =
    let a : List ℕ = take 4 (drop 0 text) in
    let b : List ℕ = take 32 (drop 4 text) in
    let c : List ℕ = take 8 (drop 36 text) in
    let d : List ℕ = take 4 (drop 44 text) in
    let whole : text ≡ ((a ++ b) ++ c) ++ d =
    sym (take_all 48 text (omega (arith, len))) ∙ take-add 44 4 text ∙ ap (λ (x : List ℕ). x ++ d) (take-add 36 8 text) ∙ ap (λ (x : List ℕ). (x ++ c) ++ d) (take-add 4 32 text) in
    ap (list_all is_digit) whole ∙ list_all-append is_digit ((a ++ b) ++ c) d ∙ ap (λ (x : Bool). x && list_all is_digit d) (list_all-append is_digit (a ++ b) c)
    ∙ ap (λ (x : Bool). (x && list_all is_digit c) && list_all is_digit d) (list_all-append is_digit a b)

pub digits_are_read : DigitsAreRead
digits_are_read text = go (eqb (length text) 48) refl
  where
    go : (b : Bool) → eqb (length text) 48 ≡ b → is_some (cond b (chain (part text 0 4) (part text 4 32) (part text 36 8) (part text 44 4)) None) ≡ (b && list_all is_digit text)
    go false is = refl
    go true is =
        some_chain (part text 0 4) (part text 4 32) (part text 36 8) (part text 44 4)
        ∙ (λ i. part_digits text 0 4 i && part_digits text 4 32 i && part_digits text 36 8 i && part_digits text 44 4 i) ∙ sym (in_parts text (same_number (length text) 48 is))
