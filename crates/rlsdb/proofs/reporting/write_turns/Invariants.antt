use Rattle.std.proofs.Common.{◌≡◌, ◌++◌, length}
use Rattle.rls_check.specs.Pages.{found_of, rest_of}
use Rattle.rls_check.specs.Pieces.{page_text}
use Rattle.rls_check.specs.Walking.{left}
use Rattle.rlsdb.proofs.reporting.write_turns.Given as goal

-- what is written, with what is written of the statements that are left, is the whole
abbrev pub invariant-loop-turn : goal.invariant-loop-turn
invariant-loop-turn g l = record {
  text : g.O.ScriptOut.taken l.output ++ page_text (rest_of l.page (left l.walk)) ≡ g.O.ScriptOut.taken l.fn.output ++ page_text (rest_of l.fn.page (left l.fn.walk));
  found : found_of l.page ≡ found_of l.fn.page;
}

abbrev pub decreases-loop-turn : goal.decreases-loop-turn
decreases-loop-turn g l = length (left l.walk)
