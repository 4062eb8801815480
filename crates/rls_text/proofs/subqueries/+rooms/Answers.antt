use Rattle.std.proofs.Common.{rules, arith}
use Rattle.rls_expr.proofs.TermSizes.{size_at}
use Rattle.rls_text.proofs.subqueries.+rooms.Goals as goal

pub parts_fit-fits-requires : goal.parts_fit-fits-requires
parts_fit-fits-requires t c = (omega (arith, size_at _ _ _ c.loop-part-test.true c.part-item.is), search rules)
