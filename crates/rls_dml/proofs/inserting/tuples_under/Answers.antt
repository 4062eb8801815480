use Rattle.std.proofs.Common.{subst}
use Rattle.rls_guard.specs.rls_source.specs.Answering.{Tells}
use Rattle.rls_judging.specs.Handed.{datum_values_each}
use Rattle.rls_judging.specs.Valuing.{tuples_of}
use Rattle.rls_dml.proofs.inserting.tuples_under.Goals as goal

pub returns : goal.returns
returns c =
    subst (λ relations. Tells (tuples_of relations c.args.ctx.now.role c.args.analysed_insert.now.tuples) c.args.asker.now c.tuples_of.new.asker (datum_values_each c.tuples_of.result)) c.as_slice.ensures
    (subst (λ tuples. Tells (tuples_of c.as_slice.result.now c.args.ctx.now.role tuples) c.args.asker.now c.tuples_of.new.asker (datum_values_each c.tuples_of.result)) c.as_slice-2.ensures c.tuples_of.ensures)
