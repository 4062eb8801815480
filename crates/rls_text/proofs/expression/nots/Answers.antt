use Rattle.std.proofs.Common.{length, arith, sym, ◌∙◌, ◌∷◌, []}
use Rattle.std.specs.Prelude.{codes}
use Rattle.rls_text.specs.Parses.{read_token}
use Rattle.rls_text.specs.declared.token.Token.TheVariants.{Word}
use Rattle.rls_text.specs.Heads.{Keyword}
use Rattle.rls_text.proofs.Loops.{count_goes_on}
use Rattle.rls_text.proofs.expression.nots.Goals as goal

pub loop-turn-preserved : goal.loop-turn-preserved
loop-turn-preserved c = (
  omega arith,
  c.loop-turn.invariant.1 ∙ count_goes_on (Keyword (codes "not") ∷ []) (read_token (Word (codes "not"))) c.loop-turn.count c.loop-turn._turn (length c.args.tokens.now) c.loop-turn.rest.now c.in-Some.behind.now tt c.loop-turn-test.true (sym c.in-Some.ensures.seen) c.in-Some.ensures.read,
)
