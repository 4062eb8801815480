use Rattle.std.proofs.Common.{rules, arith}
use Rattle.rls_expr.proofs.TermSizes.{size_at}
use Rattle.rls_expr.proofs.parts.+sums.Goals as goal

pub have_sum-has_sum-requires : goal.have_sum-has_sum-requires
have_sum-has_sum-requires t c = (omega (arith, size_at _ _ _ c.loop-part-test.true c.part-item.is), search rules)
