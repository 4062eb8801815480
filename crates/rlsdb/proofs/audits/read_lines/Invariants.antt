use Rattle.std.proofs.Common.{ℕ, List}
use Rattle.rls_check.specs.Wholes.{HasRead}
use Rattle.rlsdb.proofs.LineLemmas.{SoFar}
use Rattle.rlsdb.proofs.audits.read_lines.Given as goal

-- what was read so far are lines that the reader has read
abbrev pub invariant-loop : goal.invariant-loop
invariant-loop g l = (texts : List (List ℕ)) × SoFar (g.I.ScriptIn.given l.fn.input.input) (g.I.ScriptIn.given l.input.input) texts × HasRead texts l.reader
