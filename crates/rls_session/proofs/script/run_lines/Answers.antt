use Rattle.std.proofs.Common.{arith, ◌∙◌, refl}
use Rattle.std.proofs.lemmas.Bool.Decides.{nat_tests}
use Rattle.rls_session.proofs.ScriptLemmas.{makes_all, passed_line, finished}
use Rattle.rls_session.proofs.script.run_lines.Goals as goal

pub loop-rest-init : goal.loop-rest-init
loop-rest-init g c = (refl, makes_all _ _ _ c.args.script.now c.args.labels.now c.args.notes.now c.requires.fresh.0 c.requires.fresh.1)

pub loop-rest-preserved : goal.loop-rest-preserved
loop-rest-preserved g c = (c.in_ok-run_line.ensures.ok ∙ c.loop-rest.invariant.0, passed_line _ _ _ _ _ c.args.script.now c.loop-rest.rest.now _ _ _ _ _ (grind (arith, nat_tests)) c.first_line.ensures.line c.first_line.ensures.behind c.read_line.ensures c.in_ok-run_line.ensures.text c.loop-rest.invariant.1)

pub returns-clause-text : goal.returns-clause-text
returns-clause-text g c = finished _ _ _ _ c.args.script.now c.loop-rest.rest.now c.loop-rest.labels c.loop-rest.notes (grind (arith, nat_tests)) c.loop-rest.invariant.1
