use Rattle.std.proofs.Common.{subst}
use Rattle.std.specs.Prelude.{IfSome}
use Rattle.rls_check.specs.declared.walking.Turn.{Turn}
use Rattle.rls_check.specs.Walking.{IsNext, left}
use Rattle.rls_check.proofs.GraphWorkLemmas.{found_on, noted_on}
use Rattle.rls_check.proofs.SurveyLemmas.{tallied_on}
use Rattle.rls_check.proofs.survey.count_all.Goals as goal

-- one statement more is counted and noted, and what it comes to is compared
pub loop-turn-preserved : goal.loop-turn-preserved
loop-turn-preserved g c =
    let turn = c.in-Some.turn in
    let before = left c.loop-turn.walk in
    let after = left c.next.new.self in
    let next : IsNext before turn after = subst (λ found. IfSome found (λ (turn : Turn). IsNext before turn after)) c.in-Some.is c.in_ok-turn.ensures.turn in
    record {
      works = noted_on turn before after c.loop-turn.works.items _ _ next c.in_ok-note.ensures c.loop-turn.invariant.works;
      tallies = tallied_on c.args.wanted.now turn before after c.loop-turn.tallies.items _ _ next c.in_ok-count_turn.ensures c.loop-turn.invariant.tallies;
      differs = found_on turn before after (left c.args.walk.now) c.loop-turn.found c.first_of-found.result next c.first_of-found.ensures c.loop-turn.invariant.differs;
    }
