-- What ends a command, by what failed, and the exit status that tells it.
use Rattle.std.specs.Prelude.{◌≡◌, ◌⊎◌, ℕ, List, Bool, true, false, Option, Some, None, Result, Ok, Err}
use Rattle.std.specs.Borrow.{Bor}
use Rattle.std.specs.declared.io.Error.{Error}
use Rattle.rls_check.specs.rls_meaning.specs.rls_guard.specs.rls_catalog.specs.rls_value.specs.declared.refusal.Refusal.{Refusal}
use Rattle.rls_check.specs.rls_meaning.specs.rls_guard.specs.rls_catalog.specs.rls_value.specs.declared.refusal.Refusal.TheVariants as r
use Rattle.rls_session.specs.rls_script.specs.declared.fault.RunFault.TheVariants as run
use Rattle.rls_command_line.specs.declared.command_line.Mistake.{Mistake}
use Rattle.rls_command_line.specs.declared.command_line.Mistake.TheVariants as mistake
use Rattle.rlsdb.specs.declared.fault.Fault.{Fault}
use Rattle.rlsdb.specs.declared.fault.Fault.TheVariants as fault
use Rattle.rlsdb.specs.declared.flaw.Flaw.{Flaw}
use Rattle.rlsdb.specs.declared.flaw.Flaw.TheVariants as flaw
use Rattle.rlsdb.specs.Flaws.{IsFlaw}
use Rattle.clap.specs.Words.{kind_of}
use Rattle.clap.specs.declared.error.kind.ErrorKind.{ErrorKind}
use Rattle.clap.specs.declared.error.kind.ErrorKind.TheVariants as kind

-- the fault of a refused line of an audit
abbrev pub line_fault : Refusal → Fault
line_fault (r.BadAudit line) = fault.BadLine line
line_fault r.NoMemory = fault.Ended run.NoMemory
line_fault _ = fault.Ended run.Foreign

-- the fault with the name of the file that can't be read, and why, where it is known why
abbrev pub named_fault : Bor (List ℕ) → Option Error → Fault → Fault
named_fault name (Some error) (fault.Ended run.Read) = fault.Unread name error
named_fault name why other = other

-- the same of a file that can't be written
abbrev pub unwritten_fault : Bor (List ℕ) → Option Error → Fault → Fault
unwritten_fault name (Some error) (fault.Ended run.Write) = fault.Unwritten name error
unwritten_fault name why other = other

-- the same where answers can't be written because nobody reads them any more
abbrev pub unread_fault : Fault → Fault
unread_fault (fault.Ended run.Write) = fault.Closed
unread_fault other = other

-- The fault that is told, of a fault and of the rest of the audit: a bad line only where the rest was read, up to the end.
abbrev pub IsToldOf : Fault → Bool → Fault → Type 0
IsToldOf (fault.BadLine line) ended told = ((told ≡ fault.BadLine line) × (ended ≡ true)) ⊎ (told ≡ fault.Ended run.Read)
IsToldOf other ended told = told ≡ other

-- the fault with the name of the audit and what is wrong with the line, where a line is bad, which is this
abbrev pub IsFlawed : Bor (List ℕ) → List ℕ → Fault → Fault → Type 0
IsFlawed name line (fault.BadLine number) told = (it : Flaw) × IsFlaw number line it × (told ≡ fault.BadAudit name number it)
IsFlawed name line other told = told ≡ other

-- the same where the last line is missing
abbrev pub ended_fault : Bor (List ℕ) → Fault → Fault
ended_fault name (fault.BadLine number) = fault.BadAudit name number flaw.NoEnd
ended_fault name other = other

-- the same of a line of a file of attempts
abbrev pub attempt_fault : Bor (List ℕ) → Fault → Fault
attempt_fault name (fault.BadLine number) = fault.BadAudit name number flaw.NoAttempt
attempt_fault name other = other

-- the exit status: 3 for a bad line, or 1 where that can't be written; 2 where a file would be written over itself, or a transcript has an answer without a command; else 1
abbrev pub EndsWith : Fault → ℕ → Type 0
EndsWith (fault.BadLine line) status = (status ≡ 3) ⊎ (status ≡ 1)
EndsWith (fault.BadAudit name line it) status = (status ≡ 3) ⊎ (status ≡ 1)
EndsWith (fault.SameFile argument) status = status ≡ 2
EndsWith (fault.Loose name line) status = status ≡ 2
EndsWith other status = status ≡ 1

-- the same by what a command came to: 0 where it is done or answers yes, 3 where it answers no
abbrev pub EndsAnswer : Result Bool Fault → ℕ → Type 0
EndsAnswer (Ok true) status = status ≡ 0
EndsAnswer (Ok false) status = status ≡ 3
EndsAnswer (Err fault) status = EndsWith fault status

-- the same by what `clap` says: 1 for want of memory, 0 for help and the version, or 1 where they can't be written, and else 2
abbrev pub EndsWithKind : ErrorKind → ℕ → Type 0
EndsWithKind kind.OutOfMemory status = status ≡ 1
EndsWithKind kind.DisplayHelp status = (status ≡ 0) ⊎ (status ≡ 1)
EndsWithKind kind.DisplayVersion status = (status ≡ 0) ⊎ (status ≡ 1)
EndsWithKind other status = status ≡ 2

-- the same of a mistake in the words: 2 where it isn't `clap` that found it
abbrev pub EndsMistake : Mistake → ℕ → Type 0
EndsMistake (mistake.Words error) status = EndsWithKind (kind_of error) status
EndsMistake other status = status ≡ 2
