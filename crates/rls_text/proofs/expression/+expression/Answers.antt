use Rattle.std.proofs.Common.{length, sym, ◌∙◌, arith}
use Rattle.rls_text.proofs.Loops.{fold_stops, fold_ends, fold_goes_on}
use Rattle.rls_text.proofs.expression.+expression.Goals as goal

pub and_more-returns-then-not-sees_word : goal.and_more-returns-then-not-sees_word
and_more-returns-then-not-sees_word t c = c.loop-turn.invariant ∙ fold_stops _ _ _ c.loop-turn.operands c.loop-turn._turn (length c.args.tokens.now) c.loop-turn.rest.now c.loop-turn-test.true (sym c.if-not-sees_word.ensures)

pub and_more-loop-turn-preserved : goal.and_more-loop-turn-preserved
and_more-loop-turn-preserved t c = rw c.in-Ok-with_operand.ensures (c.loop-turn.invariant ∙ fold_goes_on _ _ _ c.loop-turn.operands c.loop-turn._turn (length c.args.tokens.now) c.loop-turn.rest.now c.in-Ok.behind.now c.in-Ok.next c.loop-turn-test.true (sym c.if-not-sees_word.ensures) c.in-Ok.ensures)

pub and_more-returns : goal.and_more-returns
and_more-returns t c = c.loop-turn.invariant ∙ fold_ends _ _ _ c.loop-turn.operands c.loop-turn._turn (length c.args.tokens.now) c.loop-turn.rest.now (omega (arith, c.loop-turn-test.false))

pub more_parts-returns-then-not-sees_symbol : goal.more_parts-returns-then-not-sees_symbol
more_parts-returns-then-not-sees_symbol t c = c.loop-turn.invariant ∙ fold_stops _ _ _ c.loop-turn.all c.loop-turn._turn (length c.args.tokens.now) c.loop-turn.rest.now c.loop-turn-test.true (sym c.if-not-sees_symbol.ensures)

pub more_parts-loop-turn-preserved : goal.more_parts-loop-turn-preserved
more_parts-loop-turn-preserved t c = rw c.in-Ok-with_part.ensures (c.loop-turn.invariant ∙ fold_goes_on _ _ _ c.loop-turn.all c.loop-turn._turn (length c.args.tokens.now) c.loop-turn.rest.now c.in-Ok.behind.now c.in-Ok.next c.loop-turn-test.true (sym c.if-not-sees_symbol.ensures) c.in-Ok.ensures)

pub more_parts-returns : goal.more_parts-returns
more_parts-returns t c = c.loop-turn.invariant ∙ fold_ends _ _ _ c.loop-turn.all c.loop-turn._turn (length c.args.tokens.now) c.loop-turn.rest.now (omega (arith, c.loop-turn-test.false))

pub or_more-returns-then-not-sees_word : goal.or_more-returns-then-not-sees_word
or_more-returns-then-not-sees_word t c = c.loop-turn.invariant ∙ fold_stops _ _ _ c.loop-turn.operands c.loop-turn._turn (length c.args.tokens.now) c.loop-turn.rest.now c.loop-turn-test.true (sym c.if-not-sees_word.ensures)

pub or_more-loop-turn-preserved : goal.or_more-loop-turn-preserved
or_more-loop-turn-preserved t c = rw c.in-Ok-with_operand.ensures (c.loop-turn.invariant ∙ fold_goes_on _ _ _ c.loop-turn.operands c.loop-turn._turn (length c.args.tokens.now) c.loop-turn.rest.now c.in-Ok.behind.now c.in-Ok.next c.loop-turn-test.true (sym c.if-not-sees_word.ensures) c.in-Ok.ensures)

pub or_more-returns : goal.or_more-returns
or_more-returns t c = c.loop-turn.invariant ∙ fold_ends _ _ _ c.loop-turn.operands c.loop-turn._turn (length c.args.tokens.now) c.loop-turn.rest.now (omega (arith, c.loop-turn-test.false))

pub sum_more-returns-then-not-starts_sign : goal.sum_more-returns-then-not-starts_sign
sum_more-returns-then-not-starts_sign t c = c.loop-turn.invariant ∙ fold_stops _ _ _ c.loop-turn.sum c.loop-turn._turn (length c.args.tokens.now) c.loop-turn.rest.now c.loop-turn-test.true (sym c.if-not-starts_sign.ensures)

pub sum_more-loop-turn-preserved : goal.sum_more-loop-turn-preserved
sum_more-loop-turn-preserved t c = rw c.in-Ok-with_summand.ensures (c.loop-turn.invariant ∙ fold_goes_on _ _ _ c.loop-turn.sum c.loop-turn._turn (length c.args.tokens.now) c.loop-turn.rest.now c.in-Ok.behind.now c.in-Ok.next c.loop-turn-test.true (sym c.if-not-starts_sign.ensures) c.in-Ok.ensures)

pub sum_more-returns : goal.sum_more-returns
sum_more-returns t c = c.loop-turn.invariant ∙ fold_ends _ _ _ c.loop-turn.sum c.loop-turn._turn (length c.args.tokens.now) c.loop-turn.rest.now (omega (arith, c.loop-turn-test.false))
