use Rattle.std.proofs.Common.{◌≡◌, ◌+◌, ◌++◌, drop}
use Rattle.rls_transcript.specs.Numbers.{numbered_from}
use Rattle.rls_transcript.proofs.numbered.write_numbered.Given as goal

-- what is written, and what is written of the answers that are left, make the whole
abbrev pub invariant-loop-place : goal.invariant-loop-place
invariant-loop-place g l = g.O.ScriptOut.taken l.output ++ numbered_from (l.place + 1) (drop l.place l.tolds) (drop l.place l.wheres) ≡ g.O.ScriptOut.taken l.fn.output ++ numbered_from 1 l.tolds l.wheres
