use Rattle.std.proofs.Common.{subst}
use Rattle.rls_guard.specs.rls_source.specs.Answering.{Tells}
use Rattle.rls_judging.specs.Handed.{judged_now}
use Rattle.rls_judging.specs.Judging as spec
use Rattle.rls_dml.proofs.checking_rows.qualifying_rows_under.Goals as goal

pub returns : goal.returns
returns c =
    subst (λ row_checks. Tells (spec.qualifying_rows_of row_checks c.args.expansion.now.relations c.args.role.now c.args.condition.now c.args.scanned_rows.now) c.args.asker.now c.qualifying_rows_of.new.asker (judged_now c.qualifying_rows_of.result)) c.as_slice.ensures
    (subst (λ relations. Tells (spec.qualifying_rows_of c.as_slice.result.now relations c.args.role.now c.args.condition.now c.args.scanned_rows.now) c.args.asker.now c.qualifying_rows_of.new.asker (judged_now c.qualifying_rows_of.result)) c.as_slice-2.ensures c.qualifying_rows_of.ensures)
