use Rattle.std.proofs.Common.{length, sym, ◌∙◌, arith}
use Rattle.rls_text.proofs.Loops.{fold_stops, fold_ends, fold_goes_on}
use Rattle.rls_text.proofs.selecting.more_tuples.Goals as goal

pub returns-then-not-sees_symbol : goal.returns-then-not-sees_symbol
returns-then-not-sees_symbol c = c.loop-turn.invariant ∙ fold_stops _ _ _ c.loop-turn.all c.loop-turn._turn (length c.args.tokens.now) c.loop-turn.rest.now c.loop-turn-test.true (sym c.if-not-sees_symbol.ensures)

pub loop-turn-preserved : goal.loop-turn-preserved
loop-turn-preserved c = rw c.in-Ok-with_tuple.ensures (c.loop-turn.invariant ∙ fold_goes_on _ _ _ c.loop-turn.all c.loop-turn._turn (length c.args.tokens.now) c.loop-turn.rest.now c.in-Ok.behind.now c.in-Ok.next c.loop-turn-test.true (sym c.if-not-sees_symbol.ensures) c.in-Ok.ensures)

pub returns : goal.returns
returns c = c.loop-turn.invariant ∙ fold_ends _ _ _ c.loop-turn.all c.loop-turn._turn (length c.args.tokens.now) c.loop-turn.rest.now (omega (arith, c.loop-turn-test.false))
