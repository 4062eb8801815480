use Rattle.std.proofs.Common.{rules, arith}
use Rattle.rls_expr.proofs.TermSizes.{size_at}
use Rattle.rls_expr.proofs.selecting.+selected.Goals as goal

pub put_all_selected-put_selected-requires : goal.put_all_selected-put_selected-requires
put_all_selected-put_selected-requires t c = (omega (arith, size_at _ _ _ c.loop-part-test.true c.part-item.is), search rules)
