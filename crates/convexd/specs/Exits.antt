-- What the answers of a command tell, and their statuses.
use Rattle.std.specs.Prelude.{ℕ}
use Rattle.convexd.specs.declared.exit.Exit.{Exit}
use Rattle.convexd.specs.declared.exit.Exit.TheVariants.{Done, Usage, Module, Script, Read, Write, Memory, TooLarge}

-- an answer that a good input may have: one of Done, Memory and the faults of source and sink
abbrev pub IsDoneOrFault : Exit → Type 0
IsDoneOrFault Done = Unit {0}
IsDoneOrFault Read = Unit {0}
IsDoneOrFault Write = Unit {0}
IsDoneOrFault Memory = Unit {0}
IsDoneOrFault (Module fault) = ⊥
IsDoneOrFault (Script line) = ⊥
IsDoneOrFault TooLarge = ⊥
IsDoneOrFault Usage = ⊥

-- an answer that a good input has where nothing failed outside
abbrev pub IsDoneOrMemory : Exit → Type 0
IsDoneOrMemory Done = Unit {0}
IsDoneOrMemory Memory = Unit {0}
IsDoneOrMemory Usage = ⊥
IsDoneOrMemory (Module fault) = ⊥
IsDoneOrMemory (Script line) = ⊥
IsDoneOrMemory Read = ⊥
IsDoneOrMemory Write = ⊥
IsDoneOrMemory TooLarge = ⊥

-- an answer that says what the input is
abbrev pub TellsOfInput : Exit → Type 0
TellsOfInput Done = Unit {0}
TellsOfInput (Module fault) = Unit {0}
TellsOfInput (Script line) = Unit {0}
TellsOfInput TooLarge = Unit {0}
TellsOfInput Usage = ⊥
TellsOfInput Read = ⊥
TellsOfInput Write = ⊥
TellsOfInput Memory = ⊥

-- the status that tells an answer
abbrev pub status_of : Exit → ℕ
status_of Done = 0
status_of Usage = 1
status_of (Module fault) = 2
status_of (Script line) = 3
status_of Read = 4
status_of Write = 5
status_of Memory = 6
status_of TooLarge = 7
