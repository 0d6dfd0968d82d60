-- Code that is put behind code, with jumps that are filled in later.
use Rattle.std.proofs.Common.{◌≡◌, ℕ, ◌+◌, Bool, List, [], ◌∷◌, ◌++◌, length, take, Option, Some, None, refl, sym, ap, ◌∙◌, append_assoc, append-nil, length-append, map}
use Rattle.fn_tree.specs.SyntaxTree.{Stmts, no_stmts, then_stmt, stmt, declare}
use Rattle.fn_tree.specs.SyntaxViews.{stmt_view, stmts_of}
use Rattle.fn_tree.specs.declared.syntax.BinaryOp.{BinaryOp}
use Rattle.fn_tree.specs.declared.syntax.Named.{Named}
use Rattle.fn_tree.specs.declared.syntax.Stmt.{Stmt}
use Rattle.fn_code.specs.Coding.{Known, known_after_all, with_name, choice_code, loop_code, turn_code, decided_by, sides_code, binary_code, unless_slot, source_of}
use Rattle.fn_code.specs.declared.code.Instr.{Instr}
use Rattle.fn_code.specs.declared.code.Instr.TheVariants as instr
use Rattle.fn_code.specs.declared.code.Source.{Source}
use Rattle.fn_code.proofs.Slots.{take_front}

pub behind_two : {A : Type 0} (old one two a b : List A) → one ≡ old ++ a → two ≡ one ++ b → two ≡ old ++ (a ++ b)
behind_two old one two a b p q = q ∙ (ap (λ l. l ++ b) p ∙ append_assoc old a b)

-- something behind one item
placed : {A : Type 0} (front one two rest : List A) (x : A) → one ≡ front ++ x ∷ [] → two ≡ one ++ rest → two ≡ front ++ x ∷ rest
placed front one two rest x p q = behind_two front one two (x ∷ []) rest p q

-- what a jump that is filled in makes of the code
abbrev pub Filled : (at : ℕ) → (before after : List Instr) → (front : List Instr → List Instr → List Instr) → Type 0
Filled at before after made = (front rest : List Instr) (old : Instr) → before ≡ front ++ old ∷ rest → length front ≡ at → after ≡ made front rest

-- ---- two sides

pub either_there : (old one two three new a b : List Instr) (decides : Bool) (at : ℕ) (op : BinaryOp) (left right : Option ℕ) →
    one ≡ old ++ a → two ≡ one ++ instr.Decide decides 0 ∷ [] → three ≡ two ++ b → at ≡ length one →
    Filled at three new (λ front rest. front ++ instr.Decide decides (length rest + 1) ∷ (rest ++ instr.AsTruth ∷ [])) →
    Some decides ≡ decided_by op → new ≡ old ++ binary_code op left right a b
either_there old one two three new a b decides at op left right p q r is filled d =
    behind_two old one new a (instr.Decide decides (length b + 1) ∷ (b ++ instr.AsTruth ∷ [])) p
    (filled one b (instr.Decide decides 0) (placed one two three b (instr.Decide decides 0) q r) (sym is))
    ∙ ap (λ (o : Option Bool). old ++ sides_code o op left right a b) d

pub operator_there : (old one two new a b : List Instr) (op : BinaryOp) (left right : Option ℕ) (x y : Source) →
    one ≡ old ++ unless_slot left a → two ≡ one ++ unless_slot right b → new ≡ two ++ instr.Binary op x y ∷ [] → x ≡ source_of left → y ≡ source_of right →
    None ≡ decided_by op → new ≡ old ++ binary_code op left right a b
operator_there old one two new a b op left right x y p q r s t d =
    behind_two old one new (unless_slot left a) (unless_slot right b ++ instr.Binary op x y ∷ []) p (behind_two one two new (unless_slot right b) (instr.Binary op x y ∷ []) q r)
    ∙ (ap (λ (z : Source). old ++ (unless_slot left a ++ (unless_slot right b ++ instr.Binary op z y ∷ []))) s
    ∙ (ap (λ (z : Source). old ++ (unless_slot left a ++ (unless_slot right b ++ instr.Binary op (source_of left) z ∷ []))) t
    ∙ ap (λ (o : Option Bool). old ++ sides_code o op left right a b) d))

-- ---- branches and turns

pub choice_there : (old base one two three four new test a b : List Instr) (at jump : ℕ) →
    base ≡ old ++ test → one ≡ base ++ instr.Branch 0 ∷ [] → at ≡ length base → two ≡ one ++ a →
    Filled at two three (λ front rest. front ++ instr.Branch (length rest + 1) ∷ (rest ++ instr.Jump 0 ∷ [])) → jump ≡ length two → four ≡ three ++ b →
    Filled jump four new (λ front rest. front ++ instr.Jump (length rest) ∷ rest) → new ≡ old ++ choice_code test a b
choice_there old base one two three four new test a b at jump p q is r filled place s again =
    behind_two old base new test (instr.Branch (length a + 1) ∷ (a ++ instr.Jump (length b) ∷ b)) p
    (again before b (instr.Jump 0) (placed before three four b (instr.Jump 0) (filled base a (instr.Branch 0) whole (sym is) ∙ sym (append_assoc base (instr.Branch (length a + 1) ∷ a) (instr.Jump 0 ∷ []))) s) long
    ∙ append_assoc base (instr.Branch (length a + 1) ∷ a) (instr.Jump (length b) ∷ b))
  where
    before : List Instr
    before = base ++ instr.Branch (length a + 1) ∷ a

    whole : two ≡ base ++ instr.Branch 0 ∷ a
    whole = placed base one two a (instr.Branch 0) q r

    long : length before ≡ jump
    long = length-append base (instr.Branch (length a + 1) ∷ a) ∙ (sym (length-append base (instr.Branch 0 ∷ a)) ∙ (ap (λ (l : List Instr). length l) (sym whole) ∙ sym place))

pub loop_there : (old one two new body : List Instr) (turn : ℕ) → one ≡ old ++ instr.Items ∷ instr.Jump 0 ∷ [] → turn ≡ length old + 1 → two ≡ one ++ body →
    Filled turn two new (λ front rest. front ++ instr.Jump (length rest) ∷ (rest ++ instr.Turn (length rest) ∷ [])) → new ≡ loop_code old body
loop_there old one two new body turn p is q filled =
    filled (old ++ instr.Items ∷ []) body (instr.Jump 0)
    (placed (old ++ instr.Items ∷ []) one two body (instr.Jump 0) (p ∙ sym (append_assoc old (instr.Items ∷ []) (instr.Jump 0 ∷ []))) q)
    (length-append old (instr.Items ∷ []) ∙ sym is)
    ∙ append_assoc old (instr.Items ∷ []) (instr.Jump (length body) ∷ (body ++ instr.Turn (length body) ∷ []))

pub loop_behind : (old one new a : List Instr) (k : Known) (x : Named) (first second : List Stmt) → one ≡ old ++ a → first ≡ second →
    new ≡ loop_code one (turn_code k x (stmts_of (map stmt_view first))) → new ≡ old ++ loop_code a (turn_code k x (stmts_of (map stmt_view second)))
loop_behind old one new a k x first second p same q =
    q ∙ (ap (λ (ss : List Stmt). loop_code one (turn_code k x (stmts_of (map stmt_view ss)))) same
    ∙ (ap (λ (l : List Instr). loop_code l (turn_code k x (stmts_of (map stmt_view second)))) p
    ∙ append_assoc old a (loop_code [] (turn_code k x (stmts_of (map stmt_view second))))))

-- ---- what is known behind a block

-- the names of the outside are kept
kept : (ss : Stmts) (k : Known) (front more : List (List ℕ)) → k.names ≡ front ++ more →
    record (known_after_all k ss) { names = take (length front) (known_after_all k ss).names } ≡ record k { names = front }
kept no_stmts k front more e = ap (λ (names : List (List ℕ)). record k { names = names }) (ap (λ (l : List (List ℕ)). take (length front) l) e ∙ take_front front more)
kept (then_stmt (stmt at (declare x e)) ss) k front more is =
    kept ss (with_name k x.text) front (more ++ x.text ∷ []) (ap (λ (l : List (List ℕ)). l ++ x.text ∷ []) is ∙ append_assoc front more (x.text ∷ []))
kept (then_stmt (stmt at a) ss) k front more is = kept ss k front more is

pub forgotten : (k begun last after : Known) (more : List (List ℕ)) (ss : Stmts) (n : ℕ) →
    begun ≡ record k { names = k.names ++ more } → last ≡ known_after_all begun ss → after ≡ record last { names = take n last.names } → n ≡ length k.names → after ≡ k
forgotten k begun last after more ss n p q r is =
    r ∙ (ap (λ (j : Known). record j { names = take n j.names }) (q ∙ ap (λ (j : Known). known_after_all j ss) p)
    ∙ (ap (λ (m : ℕ). record (known_after_all (record k { names = k.names ++ more }) ss) { names = take m (known_after_all (record k { names = k.names ++ more }) ss).names }) is
    ∙ kept ss (record k { names = k.names ++ more }) k.names more refl))

pub begun_plain : (k : Known) → k ≡ record k { names = k.names ++ [] }
begun_plain k = ap (λ (names : List (List ℕ)). record k { names = names }) (sym (append-nil k.names))
