use Rattle.std.proofs.Common.{◌≡◌, ◌++◌, length}
use Rattle.std.specs.List.{flat_map}
use Rattle.rls_transcript.specs.Told.{Told}
use Rattle.rlsdb.proofs.stopping.write_tolds.Given as goal

-- what is written, and what is left, make the whole
abbrev pub invariant-loop-rest : goal.invariant-loop-rest
invariant-loop-rest g l = g.O.ScriptOut.taken l.output ++ flat_map (λ (told : Told). told.text) l.rest ≡ g.O.ScriptOut.taken l.initial.output ++ flat_map (λ (told : Told). told.text) l.tolds

abbrev pub decreases-loop-rest : goal.decreases-loop-rest
decreases-loop-rest g l = length l.rest
