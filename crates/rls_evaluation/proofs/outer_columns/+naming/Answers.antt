use Rattle.std.proofs.Common.{rules, arith}
use Rattle.rls_source.specs.rls_catalog.specs.rls_expr.proofs.TermSizes.{size_at}
use Rattle.rls_evaluation.proofs.outer_columns.+naming.Goals as goal

pub stay_in-stays_in-requires : goal.stay_in-stays_in-requires
stay_in-stays_in-requires t c = (omega (arith, size_at _ _ _ c.loop-part-test.true c.part-item.is), search rules)
