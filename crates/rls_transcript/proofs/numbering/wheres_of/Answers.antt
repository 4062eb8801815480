use Rattle.std.proofs.Common.{arith, map}
use Rattle.std.proofs.lemmas.Bool.Decides.{nat_tests}
use Rattle.rls_transcript.proofs.NumberLemmas.{numbered_all, numbered_more}
use Rattle.rls_transcript.proofs.numbering.wheres_of.Goals as goal

-- a line more
pub loop-place-preserved : goal.loop-place-preserved
loop-place-preserved c =
    numbered_more c.args.lines.now _ (map (λ it. it.now) c.args.lines.now) c.loop-place.numbering c.next.new.self c.index-tolds-place.result c.args.tolds.now c.loop-place.place c.in_ok-at.at c.loop-place.wheres.items c.push.new.self.items
    (grind (arith, nat_tests)) (grind (arith, nat_tests)) c.index-tolds-place.is c.in_ok-at.ensures c.in_ok-push.ensures.items c.loop-place.invariant

-- no answer is left
pub returns : goal.returns
returns c =
    numbered_all c.args.lines.now (map (λ it. it.now) c.args.lines.now) c.loop-place.numbering c.args.tolds.now c.loop-place.place c.loop-place.wheres.items (grind (arith, nat_tests)) c.loop-place.invariant
