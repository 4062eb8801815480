use Rattle.std.proofs.Common.{arith}
use Rattle.std.proofs.lemmas.Bool.Decides.{nat_tests}
use Rattle.rls_transcript.proofs.TranscriptLemmas.{passed_line}
use Rattle.rls_transcript.proofs.line.split_lines.Goals as goal

pub loop-rest-preserved : goal.loop-rest-preserved
loop-rest-preserved c = passed_line _ _ _ c.loop-rest.rest.now _ c.args.text.now (grind (arith, nat_tests)) c.in_ok-push.ensures.items c.first_line.ensures.line c.first_line.ensures.behind c.loop-rest.invariant
