use Rattle.std.proofs.Common.{ℕ, List, length}
use Rattle.rls_check.specs.Attempts.{HasReadAttempts}
use Rattle.rlsdb.proofs.LineLemmas.{SoFar}
use Rattle.rlsdb.proofs.shown_attempts.read_lines.Given as goal

-- what was read so far are lines that the reader has read
abbrev pub invariant-loop : goal.invariant-loop
invariant-loop g l = (texts : List (List ℕ)) × SoFar (g.I.ScriptIn.given l.fn.input.input) (g.I.ScriptIn.given l.input.input) texts × HasReadAttempts (length l.audit.transactions) texts l.reader
