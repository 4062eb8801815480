use Rattle.std.proofs.Common.{arith}
use Rattle.std.proofs.lemmas.Bool.Decides.{nat_tests}
use Rattle.rls_transcript.proofs.NumberLemmas.{wheres_all}
use Rattle.rls_transcript.proofs.numbered.write_numbered.Goals as goal

-- of no further answer it is told where it was
pub returns-then-place-wheres : goal.returns-then-place-wheres
returns-then-place-wheres g c = wheres_all c.loop-place.place c.args.tolds.now c.args.wheres.now _ _ (grind (arith, nat_tests)) c.loop-place.invariant
