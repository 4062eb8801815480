use Rattle.std.proofs.Common.{subst}
use Rattle.rls_guard.specs.rls_source.specs.Answering.{Tells}
use Rattle.rls_judging.specs.Handed.{items_now}
use Rattle.rls_judging.specs.Judging as spec
use Rattle.rls_dml.proofs.checking_rows.judged_under.Goals as goal

pub returns : goal.returns
returns c =
    subst (λ row_checks. Tells (spec.decisions_of row_checks c.args.expansion.now.relations c.args.role.now c.args.rows.now) c.args.asker.now c.judged.new.asker (items_now c.judged.result)) c.as_slice.ensures
    (subst (λ relations. Tells (spec.decisions_of c.as_slice.result.now relations c.args.role.now c.args.rows.now) c.args.asker.now c.judged.new.asker (items_now c.judged.result)) c.as_slice-2.ensures
    (subst (λ rows. Tells (spec.decisions_of c.as_slice.result.now c.as_slice-2.result.now c.args.role.now rows) c.args.asker.now c.judged.new.asker (items_now c.judged.result)) c.as_slice-3.ensures c.judged.ensures))
