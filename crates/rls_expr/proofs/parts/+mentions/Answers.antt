use Rattle.std.proofs.Common.{rules, arith}
use Rattle.rls_expr.proofs.TermSizes.{size_at}
use Rattle.rls_expr.proofs.parts.+mentions.Goals as goal

pub some_mentions-is_mentioned-requires : goal.some_mentions-is_mentioned-requires
some_mentions-is_mentioned-requires t c = (omega (arith, size_at _ _ _ c.loop-part-test.true c.part-item.is), search rules)
