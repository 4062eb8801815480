use Rattle.std.proofs.Common.{map, length}
use Rattle.rlsdb.proofs.CheckLemmas.{SoFar}
use Rattle.rlsdb.proofs.audits.check_each.Given as goal

-- what was written so far, and what the audits that are left will come to, make the whole
abbrev pub invariant-loop-rest : goal.invariant-loop-rest
invariant-loop-rest g l = SoFar l.named (map (λ name. name.now) l.names) (map (λ name. name.now) l.rest) (g.O.ScriptOut.taken l.initial.output) (g.O.ScriptOut.taken l.output) l.hold

abbrev pub decreases-loop-rest : goal.decreases-loop-rest
decreases-loop-rest g l = length l.rest
