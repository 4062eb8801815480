use Rattle.std.proofs.Common.{◌≡◌, ◌++◌, ℕ, List}
use Rattle.rls_check.specs.Wholes.{HasConverted}
use Rattle.rlsdb.specs.AuditLines.{ended_lines}
use Rattle.rlsdb.proofs.LineLemmas.{SoFar}
use Rattle.rlsdb.proofs.audits.convert_lines.Given as goal

-- what was read so far are lines, and what was written is what the converter made of them
abbrev pub invariant-loop : goal.invariant-loop
invariant-loop g l = (texts : List (List ℕ)) × (written : List (List ℕ)) × SoFar (g.I.ScriptIn.given l.fn.input.input) (g.I.ScriptIn.given l.input.input) texts
    × (g.O.ScriptOut.taken l.output ≡ g.O.ScriptOut.taken l.fn.output ++ ended_lines written) × HasConverted texts written l.converter
