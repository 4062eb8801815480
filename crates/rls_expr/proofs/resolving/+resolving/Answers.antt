use Rattle.std.proofs.Common.{rules, arith, ◌∙◌}
use Rattle.rls_expr.specs.Resolving.{names_in}
use Rattle.rls_expr.proofs.TermSizes.{size_at}
use Rattle.rls_expr.proofs.ResolvingLemmas.{resolved_turn, resolved_end}
use Rattle.rls_expr.proofs.resolving.+resolving.Goals as goal

pub resolve_all-resolve_columns-requires : goal.resolve_all-resolve_columns-requires
resolve_all-resolve_columns-requires t c = (omega (arith, size_at _ _ _ c.loop-part-test.true c.part-item.is), search rules)

pub resolve_all-loop-part-preserved : goal.resolve_all-loop-part-preserved
resolve_all-loop-part-preserved t c =
    resolved_turn c.loop-part.all c.push.new.self c.args.parts.now c.loop-part.part-index c.part-item.result c.in_ok-part.part (names_in c.args.scope.now) c.loop-part-test.true c.part-item.is c.in_ok-part.ensures c.in_ok-push.ensures.ok
    ∙ c.loop-part.invariant

pub resolve_all-returns : goal.resolve_all-returns
resolve_all-returns t c =
    resolved_end c.loop-part.all c.args.parts.now c.loop-part.part-index (names_in c.args.scope.now) (omega (arith, c.loop-part-test.false, c.loop-part.auto.part-index-end))
    ∙ c.loop-part.invariant
