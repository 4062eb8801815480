use Rattle.std.proofs.Common.{Some}
use Rattle.rls_check.specs.Walking.{left_alone}
use Rattle.rls_check.proofs.GraphWorkLemmas.{found_on}
use Rattle.rls_check.proofs.ShownAttemptLemmas.{written_on}
use Rattle.rls_check.proofs.shown_attempts.push_statements.Goals as goal

-- a statement more
pub loop-alloc-preserved : goal.loop-alloc-preserved
loop-alloc-preserved c = record {
  text = written_on (Some c.args.end.now) c.args.wanted.now c.in_ok-turn.turn (left_alone c.loop-alloc.running) (left_alone c.next.new.self) c.loop-alloc.text.items c.push_shown-pushed.new.text.items _ c.in_ok-turn.ensures.turn c.in_ok-pushed.ensures c.loop-alloc.invariant.text;
  found = found_on c.in_ok-turn.turn (left_alone c.loop-alloc.running) (left_alone c.next.new.self) (left_alone c.args.running.now) c.loop-alloc.found c.first_of-found.result c.in_ok-turn.ensures.turn c.first_of-found.ensures c.loop-alloc.invariant.found;
}
