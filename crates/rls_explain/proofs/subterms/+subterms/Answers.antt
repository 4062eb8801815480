use Rattle.std.proofs.Common.{rules, arith}
use Rattle.rls_expr.proofs.TermSizes.{size_at}
use Rattle.rls_explain.proofs.subterms.+subterms.Goals as goal

pub put_each-put_parts-requires : goal.put_each-put_parts-requires
put_each-put_parts-requires t c = (omega (arith, size_at _ _ _ c.loop-part-test.true c.part-item.is), search rules)
