use Rattle.std.proofs.Common.{length, sym, ◌∙◌, arith}
use Rattle.rls_text.proofs.Loops.{loop_stops, loop_ends}
use Rattle.rls_text.proofs.transactions.more_modes.Goals as goal

pub returns-then-not-starts_next : goal.returns-then-not-starts_next
returns-then-not-starts_next c = c.loop-turn.invariant ∙ loop_stops _ _ c.loop-turn.all c.loop-turn._turn (length c.args.tokens.now) c.loop-turn.rest.now c.loop-turn-test.true (sym c.if-not-starts_next.ensures)

pub returns : goal.returns
returns c = c.loop-turn.invariant ∙ loop_ends _ _ c.loop-turn.all c.loop-turn._turn (length c.args.tokens.now) c.loop-turn.rest.now (omega (arith, c.loop-turn-test.false))
