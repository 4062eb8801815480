use Rattle.std.proofs.Common.{arith}
use Rattle.std.proofs.lemmas.Bool.Decides.{nat_tests}
use Rattle.rls_transcript.proofs.TranscriptLemmas.{told_more}
use Rattle.rls_transcript.proofs.told.Told.lines.Goals as goal

pub loop-rest-preserved : goal.loop-rest-preserved
loop-rest-preserved c = told_more _ _ _ _ c.loop-rest.rest.now _ c.args.self.now.text (grind (arith, nat_tests)) c.in_ok-push.ensures.items c.without_label.ensures c.first_line.ensures.line c.first_line.ensures.behind c.loop-rest.invariant
