-- How a command ends.
use Rattle.std.proofs.Common.{◌≡◌, inl, inr, ℕ, List, [], ◌∷◌, length, get_or, Option, None, Some, refl, sym, ap, ◌∙◌, subst, codes, arith}
use Rattle.std.specs.Prelude.{◌≢◌, ◌⊎◌, ◌<◌, ◌≤◌, IfSome, map}
use Rattle.std.specs.Io.KnownBytes.{Appends, IsAtEnd}
use Rattle.cv_outside.specs.Causes.{Rose}
use Rattle.cv_outside.specs.declared.whole.TheConstants.{INPUT_LIMIT}
use Rattle.convexd.specs.Commands.{Ends, HasWriteCause, IsGood, Says, name_of, words_of}
use Rattle.convexd.specs.Exits.{IsDoneOrFault, IsDoneOrMemory}
use Rattle.convexd.specs.declared.command.Command.{Command}
use Rattle.convexd.specs.declared.command.Command.TheVariants.{Check, Replay}
use Rattle.convexd.specs.declared.exit.Exit.{Exit}
use Rattle.convexd.specs.declared.exit.Exit.TheVariants.{Done, Usage, Module, Script, Read, Write, Memory, TooLarge}
use Rattle.convexd.proofs.Writes.{Appends-none}

-- ---- words

-- two commands have different words
pub same_command : (a b : Command) → words_of a ≡ words_of b → a ≡ b
same_command Check Check e = cc
same_command Check Replay e = let same : codes "check" ≡ codes "replay" = cc in absurd cc
same_command Replay Check e = let same : codes "replay" ≡ codes "check" = cc in absurd cc
same_command Replay Replay e = cc

pub one_word : {X Y : Type 0} (f : X → Y) (ws : List X) (w : X) → 1 ≤ length ws → length ws < 2 → w ≡ get_or ws 0 w → map f ws ≡ f w ∷ []
one_word f [] w some few is = absurd (omega arith)
one_word f (x ∷ []) w some few is = rw is
one_word f (x ∷ y ∷ ws) w some few is = absurd (omega arith)

-- one word asks for the command that it names
pub some_words : (command : Option Command) (words : List (List ℕ)) (word : List ℕ) → words ≡ word ∷ [] → IfSome command (λ c. word ≡ name_of c) → IfSome command (λ c. words ≡ words_of c)
some_words None words word is named = tt
some_words (Some c) words word is named = is ∙ ap (λ (w : List ℕ). w ∷ []) named

pub no_words : (command : Command) (words : List (List ℕ)) (word : List ℕ) → words ≡ word ∷ [] → word ≢ name_of command → words ≢ words_of command
no_words command words word is differs e = let same : word ∷ [] ≡ name_of command ∷ [] = sym is ∙ e in differs cc

-- ---- ends

if_told : (P : List ℕ → Type 0) (o : Option (List ℕ)) (bytes : List ℕ) → IfSome o (λ all. bytes ≡ all) → P bytes → IfSome o P
if_told P None bytes same p = tt
if_told P (Some all) bytes same p = subst P same p

done_or_memory : (exit : Exit) → IsDoneOrFault exit → (exit ≢ Read) → (exit ≢ Write) → IsDoneOrMemory exit
done_or_memory Done w read write = tt
done_or_memory Memory w read write = tt
done_or_memory Read w read write = read refl
done_or_memory Write w read write = write refl
done_or_memory Usage w read write = w
done_or_memory (Module fault) w read write = w
done_or_memory (Script line) w read write = w
done_or_memory TooLarge w read write = w

-- an answer that came before the whole input was read
abbrev pub IsUnread : List ℕ → Exit → Type 0
IsUnread input Read = Unit {0}
IsUnread input Memory = Unit {0}
IsUnread input TooLarge = INPUT_LIMIT < length input
IsUnread input Done = ⊥
IsUnread input Usage = ⊥
IsUnread input (Module fault) = ⊥
IsUnread input (Script line) = ⊥
IsUnread input Write = ⊥

says_unread : (command : Command) (input : List ℕ) (h : Option (List ℕ)) (exit : Exit) → IsUnread input exit → Says command input h h exit
says_unread Check input h Read w = Appends-none h
says_unread Check input h Memory w = Appends-none h
says_unread Check input h TooLarge w = (w, Appends-none h)
says_unread Check input h Done w = absurd w
says_unread Check input h Usage w = absurd w
says_unread Check input h (Module fault) w = absurd w
says_unread Check input h (Script line) w = absurd w
says_unread Check input h Write w = absurd w
says_unread Replay input h Read w = Appends-none h
says_unread Replay input h Memory w = inl (Appends-none h)
says_unread Replay input h TooLarge w = (w, Appends-none h)
says_unread Replay input h Done w = absurd w
says_unread Replay input h Usage w = absurd w
says_unread Replay input h (Module fault) w = absurd w
says_unread Replay input h (Script line) w = absurd w
says_unread Replay input h Write w = absurd w

too_large : (command : Command) (input : List ℕ) (old new : Option (List ℕ)) (exit : Exit) → Says command input old new exit → exit ≡ TooLarge → Appends old new []
too_large Check input old new exit says e = let w : Says Check input old new TooLarge = subst (λ x. Says Check input old new x) e says in w.1
too_large Replay input old new exit says e = let w : Says Replay input old new TooLarge = subst (λ x. Says Replay input old new x) e says in w.1

each : {P : List ℕ → Type 0} (o : Option (List ℕ)) → ((x : List ℕ) → P x) → IfSome o P
each None f = tt
each (Some x) f = f x

each_told : {P Q : List ℕ → Type 0} (o : Option (List ℕ)) → ((x : List ℕ) → P x → Q x) → IfSome o P → IfSome o Q
each_told None f w = tt
each_told (Some x) f w = f x w

good_within : (command : Command) (input : List ℕ) → IsGood command input → INPUT_LIMIT < length input → ⊥
good_within Check input good large = omega (arith, good.1.reads.short, large)
good_within Replay input good large = omega (arith, good.limit, large)

module _ {I O : Type 0} (command : Command) (left : I → Option (List ℕ)) (reads : I → ℕ) (held : O → Option (List ℕ)) (writes : O → ℕ) (source source' : I) where
  -- the whole input was read, and this is the answer to it
  pub answered : (sink sink' : O) (bytes : List ℕ) (exit : Exit)
      → IfSome (left source) (λ all. bytes ≡ all)
      → IsAtEnd (left source')
      → reads source' ≡ reads source
      → Says command bytes (held sink) (held sink') exit
      → (IsGood command bytes → IsDoneOrFault exit)
      → HasWriteCause (writes sink) (writes sink') exit
      → Ends command left reads held writes source source' sink sink' exit
  answered sink sink' bytes exit told end kept says good cause = record {
    answer = if_told (λ input. Says command input (held sink) (held sink') exit) (left source) bytes told says;
    completes = if_told (λ input. IsGood command input → (Rose (reads source) (reads source') → ⊥) → (Rose (writes sink) (writes sink') → ⊥) → IsDoneOrMemory exit) (left source) bytes told
        (λ is read write. done_or_memory exit (good is) cause.read (λ e. write (cause.write e)));
    words = cause.words;
    end = λ e. end;
    read = λ e. absurd (cause.read e);
    write = cause.write;
    read_kept = λ e. kept;
    write_kept = cause.kept;
    nothing = nothing;
  }
    where
      nothing : (exit ≡ Read) ⊎ (exit ≡ TooLarge) → Appends (held sink) (held sink') []
      nothing (inl e) = absurd (cause.read e)
      nothing (inr e) = too_large command bytes (held sink) (held sink') exit says e

  -- a read failed
  pub read_failed : (sink : O) → Rose (reads source) (reads source') → Ends command left reads held writes source source' sink sink Read
  read_failed sink rose = record {
    answer = each (left source) (λ input. says_unread command input (held sink) Read tt);
    completes = each (left source) (λ input is read write. absurd (read rose));
    words = λ e. cc;
    end = λ e. cc;
    read = λ e. rose;
    write = λ e. cc;
    read_kept = λ e. absurd (e refl);
    write_kept = λ e. refl;
    nothing = λ e. Appends-none (held sink);
  }

  -- the input is too large
  pub input_too_large : (sink : O) → IfSome (left source) (λ all. INPUT_LIMIT < length all) → reads source' ≡ reads source
      → Ends command left reads held writes source source' sink sink TooLarge
  input_too_large sink large kept = record {
    answer = each_told (left source) (λ input w. says_unread command input (held sink) TooLarge w) large;
    completes = each_told (left source) (λ input w is read write. good_within command input is w) large;
    words = λ e. cc;
    end = λ e. cc;
    read = λ e. cc;
    write = λ e. cc;
    read_kept = λ e. kept;
    write_kept = λ e. refl;
    nothing = λ e. Appends-none (held sink);
  }

  -- there was no memory for the input
  pub no_memory : (sink : O) → reads source' ≡ reads source → Ends command left reads held writes source source' sink sink Memory
  no_memory sink kept = record {
    answer = each (left source) (λ input. says_unread command input (held sink) Memory tt);
    completes = each (left source) (λ input is read write. tt);
    words = λ e. cc;
    end = λ e. cc;
    read = λ e. cc;
    write = λ e. cc;
    read_kept = λ e. kept;
    write_kept = λ e. refl;
    nothing = λ e. Appends-none (held sink);
  }

-- words that ask for one command ask for no other
pub other_words : (a b : Command) (words : List (List ℕ)) → (a ≡ b → ⊥) → words ≡ words_of a → words ≢ words_of b
other_words a b words differ is e = differ (same_command a b (sym is ∙ e))
