use Rattle.std.proofs.Common.{◌≡◌, ◌++◌, Option, length}
use Rattle.rls_check.specs.declared.finding.Finding.{Finding}
use Rattle.rls_check.specs.ShownAudits.{FirstDiffers}
use Rattle.rls_check.specs.ShownTexts.{shown_text}
use Rattle.rls_check.specs.Walking.{left}
use Rattle.rlsdb.proofs.ShownLemmas.{first_or}
use Rattle.rlsdb.proofs.shown.show_turns.Given as goal

-- what is written, and what is written of the statements that are left, make the whole; what was found, or else what is found of these, is found first
abbrev pub invariant-loop-turn : goal.invariant-loop-turn
invariant-loop-turn g l = record {
  text : g.O.ScriptOut.taken l.output ++ shown_text l.wanted (left l.walk) ≡ g.O.ScriptOut.taken l.fn.output ++ shown_text l.wanted (left l.fn.walk);
  found : (rest : Option Finding) → FirstDiffers (left l.walk) rest → FirstDiffers (left l.fn.walk) (first_or l.found rest);
}

abbrev pub decreases-loop-turn : goal.decreases-loop-turn
decreases-loop-turn g l = length (left l.walk)
