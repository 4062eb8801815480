use Rattle.std.proofs.Common.{rules, ◌≡◌, [], ◌∷◌, length, false, ◌∙◌, arith}
use Rattle.rls_text.specs.declared.token.Symbol.TheVariants as s
use Rattle.rls_text.specs.Heads.{Sign, sees}
use Rattle.rls_text.specs.Parses.{behind_comma}
use Rattle.rls_text.proofs.Loops.{loop_stops, loop_ends}
use Rattle.rls_text.proofs.phrase.listed.Goals as goal

pub returns-in_default : goal.returns-in_default
returns-in_default g c =
    let unseen : sees (Sign s.Comma ∷ []) c.loop-turn.rest.now ≡ false = search rules in
    c.loop-turn.invariant ∙ loop_stops _ (behind_comma g.P.Phrase.reader) c.loop-turn.all c.loop-turn._turn (length c.in_ok-first.rest.now) c.loop-turn.rest.now c.loop-turn-test.true unseen

pub returns : goal.returns
returns g c = c.loop-turn.invariant ∙ loop_ends _ (behind_comma g.P.Phrase.reader) c.loop-turn.all c.loop-turn._turn (length c.in_ok-first.rest.now) c.loop-turn.rest.now (omega (arith, c.loop-turn-test.false))
