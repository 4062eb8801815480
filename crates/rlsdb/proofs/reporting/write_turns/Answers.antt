use Rattle.std.proofs.Common.{◌∙◌, Ok, ap, subst}
use Rattle.std.specs.Prelude.{IfSome}
use Rattle.rls_check.specs.declared.walking.Turn.{Turn}
use Rattle.rls_check.specs.Walking.{IsNext, left}
use Rattle.rlsdb.proofs.ReportLemmas.{none_left, turn_written}
use Rattle.rlsdb.proofs.reporting.write_turns.Goals as goal

-- one statement more is written
pub loop-turn-preserved : goal.loop-turn-preserved
loop-turn-preserved g c =
    let turn = c.in-Some.turn in
    let before = left c.loop-turn.walk in
    let after = left c.next.new.self in
    let next : IsNext before turn after = subst (λ found. IfSome found (λ (turn : Turn). IsNext before turn after)) c.in-Some.is c.in_ok-turn.ensures.turn in
    record {
      text = turn_written c.loop-turn.page c.write_turn.new.page turn before after (g.O.ScriptOut.taken c.loop-turn.output) _ _ c.in_ok-write_turn.ensures.page next c.in_ok-write_turn.ensures.text c.loop-turn.invariant.text;
      found = c.write_turn.ensures.found ∙ c.loop-turn.invariant.found;
    }

-- none is left
pub returns-clause-text : goal.returns-clause-text
returns-clause-text g c =
    none_left c.loop-turn.page (left c.loop-turn.walk) (g.O.ScriptOut.taken c.loop-turn.output) _ (c.in_ok-turn.ensures.end (ap Ok c.in_default.is)) c.loop-turn.invariant.text
