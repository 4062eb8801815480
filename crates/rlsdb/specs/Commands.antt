-- The exit status of the program, by its words.
use Rattle.std.specs.Prelude.{◌⊎◌, ℕ, List, Bool, Result, Ok, Err}
use Rattle.rls_session.specs.rls_script.specs.Streams.{GrewBy}
use Rattle.rls_command_line.specs.declared.words.Request.{Request}
use Rattle.rls_command_line.specs.declared.command_line.Mistake.{Mistake}
use Rattle.rls_command_line.specs.CommandLine.{Asks, IsMistaken}
use Rattle.rlsdb.specs.declared.fault.Fault.{Fault}
use Rattle.rlsdb.specs.Answers.{Answers}
use Rattle.rlsdb.specs.Faults.{EndsAnswer, EndsMistake}

-- the output took the answer, where the command comes to no fault
abbrev pub ComesTo : Request → (before now : List ℕ) → Result Bool Fault → Type 0
ComesTo request before now (Ok done) = GrewBy before now (λ written. Answers request written done)
ComesTo request before now (Err fault) = Unit {0}

-- the status: by what the words ask for came to, with what the output took, or by what is wrong with them
abbrev pub EndsWords : List (List ℕ) → (before now : List ℕ) → ℕ → Type 0
EndsWords words before now status =
    ((request : Request) × (came : Result Bool Fault) × Asks words request × ComesTo request before now came × EndsAnswer came status)
    ⊎ ((mistake : Mistake) × IsMistaken words mistake × EndsMistake mistake status)
