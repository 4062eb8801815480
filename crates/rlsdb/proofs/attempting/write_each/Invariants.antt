use Rattle.std.proofs.Common.{◌≡◌, ◌++◌, length, map}
use Rattle.rlsdb.specs.Attempts.{attempted_text}
use Rattle.rlsdb.specs.AuditLines.{ended_lines}
use Rattle.rlsdb.proofs.attempting.write_each.Given as goal

-- what is written, and what is left, make the whole
abbrev pub invariant-loop-attempts : goal.invariant-loop-attempts
invariant-loop-attempts g l = g.O.ScriptOut.taken l.output ++ ended_lines (map attempted_text l.attempts) ≡ g.O.ScriptOut.taken l.initial.output ++ ended_lines (map attempted_text l.fn.attempts)

abbrev pub decreases-loop-attempts : goal.decreases-loop-attempts
decreases-loop-attempts g l = length l.attempts
