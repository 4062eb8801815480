use Rattle.std.proofs.Common.{arith}
use Rattle.rls_source.specs.rls_catalog.specs.rls_expr.proofs.TermSizes.{size_at}
use Rattle.rls_evaluation.proofs.outer_columns.+putting.Goals as goal

pub put_of_parts-put_of-requires : goal.put_of_parts-put_of-requires
put_of_parts-put_of-requires t c = omega (arith, size_at _ _ _ c.loop-part-test.true c.part-item.is)
