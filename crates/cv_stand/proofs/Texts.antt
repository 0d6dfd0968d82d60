-- How far lines have been written.
use Rattle.std.proofs.Common.{◌≡◌, ℕ, suc, ◌+◌, ◌<◌, ◌≤◌, List, [], ◌∷◌, ◌++◌, length, get_or, drop, Option, None, Some, zero, refl, sym, ap, ◌∙◌, append_assoc, add-one, drop-cons, arith}
use Rattle.std.specs.Prelude.{map, codes, slice_get}
use Rattle.std.proofs.lemmas.List.{drop_all, drop-map}
use Rattle.fn_tree.specs.History.{Entry, History}
use Rattle.fn_tree.specs.SyntaxTree.{ModuleTree}
use Rattle.cv_log.specs.Logs.{entry_at}
use Rattle.cv_stand.specs.EntryLines.{entry_line, entry_lines, length_line}
use Rattle.cv_stand.specs.Events.{Event, Script}
use Rattle.cv_stand.specs.Plays.{Stage, Played, after, opening, output, play}
use Rattle.cv_stand.specs.Texts.{last_lines, script_text, with_feeds, written}
use Rattle.cv_stand.proofs.Writing.{Writing, writing_none}

next_item : {X : Type 0} (xs : List X) (i : ℕ) (x : X) → i < length xs → x ≡ get_or xs i x → drop i xs ≡ x ∷ drop (i + 1) xs
next_item xs i x lt is = rw (add-one, drop-cons xs i x) (ap (λ y. y ∷ drop (suc i) xs) (sym is))

-- what is left of views, with the view of the item at this place
pub next_view : {X Y : Type 0} (f : X → Y) (xs : List X) (i : ℕ) (x : X) → i < length xs → x ≡ get_or xs i x → drop i (map f xs) ≡ f x ∷ drop (i + 1) (map f xs)
next_view f xs i x lt is = drop-map f i xs ∙ ap (map f) (next_item xs i x lt is) ∙ ap (λ ys. f x ∷ ys) (sym (drop-map f (i + 1) xs))

pub no_views : {X Y : Type 0} (f : X → Y) (xs : List X) (i : ℕ) → length xs ≤ i → drop i (map f xs) ≡ []
no_views f xs i le = drop-map f i xs ∙ ap (map f) (drop_all i xs le)

pub feeds-append : (xs ys : List (List ℕ)) → with_feeds (xs ++ ys) ≡ with_feeds xs ++ with_feeds ys
feeds-append [] ys = refl
feeds-append (x ∷ xs) ys = ap (λ (t : List ℕ). x ++ (codes "\n" ++ t)) (feeds-append xs ys) ∙ sym (append_assoc x (codes "\n" ++ with_feeds xs) (with_feeds ys))

-- ---- entries

-- what the entries from one on tell
pub entries_split : (h rest : History) (i : ℕ) (e : Entry) → drop i h ≡ e ∷ rest → with_feeds (entry_lines i (drop i h)) ≡ with_feeds (entry_line (i + 1) e ∷ []) ++ with_feeds (entry_lines (i + 1) rest)
entries_split h rest i e next = ap (λ (x : History). with_feeds (entry_lines i x)) next ∙ feeds-append (entry_line (i + 1) e ∷ []) (entry_lines (i + 1) rest)

-- ---- events

-- how far events were played: the rest of them will leave and write what the whole does
pub record Playing (m : ModuleTree) (s0 : Stage) (es : List (ℕ × Event)) (h0 h1 : Option (List ℕ)) (f0 f1 : ℕ) (s : Stage) (rest : List (ℕ × Event)) : Type 0 where
  pub last : (play m s0 es).last ≡ (play m s rest).last
  pub writing : Writing (with_feeds (play m s0 es).lines) h0 h1 f0 f1 (with_feeds (play m s rest).lines)

pub playing_none : (m : ModuleTree) (s0 : Stage) (es : List (ℕ × Event)) (h0 : Option (List ℕ)) (f0 : ℕ) → Playing m s0 es h0 h0 f0 f0 s0 es
playing_none m s0 es h0 f0 = record { last = refl; writing = writing_none _ h0 f0 }

-- what an event and the rest write
pub events_split : (m : ModuleTree) (s : Stage) (e : ℕ × Event) (rest : List (ℕ × Event)) → with_feeds (play m s (e ∷ rest)).lines ≡ with_feeds (output m s e.1) ++ with_feeds (play m (after m s e.1) rest).lines
events_split m s e rest = feeds-append (output m s e.1) (play m (after m s e.1) rest).lines

-- ---- a whole script

-- what events write from the opening, and then the end
pub script_split : (m : ModuleTree) (script : Script) (s0 s1 : Stage) → s0 ≡ opening → s1 ≡ (play m s0 script.events).last
    → script_text m script ≡ with_feeds (play m s0 script.events).lines ++ with_feeds (last_lines script.bad s1.history)
script_split m script s0 s1 opens last =
    let p : Played = play m s0 script.events in
    ap (λ (s : Stage). written script.bad (play m s script.events)) (sym opens) ∙ feeds-append p.lines (last_lines script.bad p.last.history)
    ∙ ap (λ (s : Stage). with_feeds p.lines ++ with_feeds (last_lines script.bad s.history)) (sym last)

-- the end of a script without a bad line
pub end_is : (bad : Option ℕ) (h : History) (line : List ℕ) → bad ≡ None → line ≡ length_line (length h) → with_feeds (line ∷ []) ≡ with_feeds (last_lines bad h)
end_is bad h line none is = ap (λ (l : List ℕ). with_feeds (l ∷ [])) is ∙ ap (λ (b : Option ℕ). with_feeds (last_lines b h)) (sym none)

-- nothing is told behind a bad line
pub no_end : (bad : Option ℕ) (n : ℕ) (h : History) → bad ≡ Some n → [] ≡ with_feeds (last_lines bad h)
no_end bad n h is = ap (λ (b : Option ℕ). with_feeds (last_lines b h)) (sym is)

-- what is left of a history, with the entry at this place
next_place : (h : History) (i : ℕ) (e : Entry) → slice_get h i ≡ Some e → drop i h ≡ e ∷ drop (suc i) h
next_place [] i e is = let never : ◌≡◌ {A = Option Entry} None (Some e) = is in cc
next_place (x ∷ h) zero e is = let same : x ≡ e = cc in ap (λ (y : Entry). y ∷ h) same
next_place (x ∷ h) (suc i) e is = next_place h i e is

pub next_entry : (h : History) (i : ℕ) (e : Entry) → Some e ≡ entry_at (i + 1) h → drop i h ≡ e ∷ drop (i + 1) h
next_entry h i e is =
    next_place h i e (ap (λ (n : ℕ). entry_at n h) (sym (add-one i)) ∙ sym is) ∙ ap (λ (n : ℕ). e ∷ drop n h) (sym (add-one i))

missing : (h : History) (i : ℕ) → i < length h → slice_get h i ≡ None → ⊥
missing [] i l is = omega (arith, l)
missing (x ∷ h) zero l is = let never : ◌≡◌ {A = Option Entry} (Some x) None = is in cc
missing (x ∷ h) (suc i) l is = missing h i (omega (arith, l)) is

-- each place of a history has an entry
pub no_gap : (h : History) (i : ℕ) → i < length h → None ≡ entry_at (i + 1) h → ⊥
no_gap h i l is = missing h i l (ap (λ (n : ℕ). entry_at n h) (sym (add-one i)) ∙ sym is)
