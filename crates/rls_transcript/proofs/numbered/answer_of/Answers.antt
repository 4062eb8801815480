use Rattle.std.proofs.Common.{arith, ◌∙◌}
use Rattle.std.proofs.lemmas.Bool.Decides.{nat_tests}
use Rattle.rls_transcript.proofs.NumberLemmas.{lines_more}
use Rattle.rls_transcript.proofs.numbered.answer_of.Goals as goal

-- a line more, behind the mark
pub loop-rest-preserved : goal.loop-rest-preserved
loop-rest-preserved c = record {
  text = lines_more c.args.number c.args.at c.as_bytes.result.now _ _ _ _ c.loop-rest.rest.now _ _ (grind (arith, nat_tests)) (c.as_bytes.ensures.value ∙ c.loop-rest.invariant.mark) c.in_ok-extend_from_slice.ensures.items c.in_ok-push_line.ensures c.first_line.ensures.line c.first_line.ensures.behind c.loop-rest.invariant.text;
  mark = c.loop-rest.invariant.mark;
}
