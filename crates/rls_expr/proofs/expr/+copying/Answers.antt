use Rattle.std.proofs.Common.{rules, arith}
use Rattle.rls_expr.proofs.TermSizes.{size_at}
use Rattle.rls_expr.proofs.expr.+copying.Goals as goal

pub copy_parts-copy-requires : goal.copy_parts-copy-requires
copy_parts-copy-requires t c = (omega (arith, size_at _ _ _ c.loop-part-test.true c.part-item.is), search rules)
