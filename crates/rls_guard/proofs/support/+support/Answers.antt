use Rattle.std.proofs.Common.{rules, arith}
use Rattle.rls_evaluation.specs.rls_catalog.specs.rls_expr.proofs.TermSizes.{size_at}
use Rattle.rls_guard.proofs.support.+support.Goals as goal

pub are_unsupported-is_unsupported_with-requires : goal.are_unsupported-is_unsupported_with-requires
are_unsupported-is_unsupported_with-requires t c = (omega (arith, size_at _ _ _ c.loop-part-test.true c.part-item.is), search rules)
