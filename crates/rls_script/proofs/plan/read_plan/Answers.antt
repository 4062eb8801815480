use Rattle.std.proofs.Common.{arith}
use Rattle.std.proofs.lemmas.Bool.Decides.{nat_tests}
use Rattle.rls_script.specs.Plans.{opening_plan}
use Rattle.rls_script.proofs.PlanLemmas.{read_more, read_all}
use Rattle.rls_script.proofs.plan.read_plan.Goals as goal

pub loop-rest-preserved : goal.loop-rest-preserved
loop-rest-preserved c = read_more opening_plan _ _ c.args.script.now c.loop-rest.rest.now _ _ _ (grind (arith, nat_tests)) c.first_line.ensures.line c.first_line.ensures.behind c.read_line.ensures c.in_ok-put.ensures c.loop-rest.invariant

pub returns : goal.returns
returns c = read_all opening_plan _ c.args.script.now c.loop-rest.rest.now (grind (arith, nat_tests)) c.loop-rest.invariant
