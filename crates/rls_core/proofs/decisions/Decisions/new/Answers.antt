use Rattle.std.proofs.Common.{refl}
use Rattle.rls_core.specs.Decided.{Decided, said_by, rows_of}
use Rattle.rls_core.proofs.DecidedLemmas.{kept_more, said_more}
use Rattle.rls_core.proofs.decisions.Decisions.new.Goals as goal

pub loop-decision-preserved : goal.loop-decision-preserved
loop-decision-preserved c =
    let row : Decided = record { id = c.decision-item.result.id; said = c.in_ok-last.last } in
    record {
      kept = kept_more c.loop-decision.said.items c.place_in.new.said.items (rows_of c.loop-decision.spans.items) (rows_of c.put_row.new.spans.items) row c.args.decisions.now c.loop-decision.decision-index c.decision-item.result
          c.in_ok-last.ensures.kept c.loop-decision.invariant.places c.in_ok-last.ensures.place refl c.in_ok-put_row.ensures.rows c.loop-decision.invariant.kept c.loop-decision-test.true c.decision-item.is;
      places = said_more c.loop-decision.said.items c.place_in.new.said.items (rows_of c.loop-decision.spans.items) (rows_of c.put_row.new.spans.items) row (said_by c.decision-item.result)
          c.in_ok-last.ensures.kept c.loop-decision.invariant.places c.in_ok-last.ensures.place c.in_ok-put_row.ensures.rows;
      spans = c.in_ok-put_row.ensures.spans;
    }
