use Rattle.std.proofs.Common.{◌≡◌, ◌++◌, Option, length}
use Rattle.std.specs.List.{flat_map}
use Rattle.rls_check.specs.declared.finding.Finding.{Finding}
use Rattle.rls_check.specs.Listing.{ended_all, first_or, standing_lines}
use Rattle.rls_check.specs.ShownAudits.{FirstDiffers}
use Rattle.rls_check.specs.Walking.{left_alone, state_to_come}
use Rattle.rls_check.proofs.listing.push_statements.Given as goal

-- what is written, and what is written of the statements that are left, make the whole; what was found, or else what is found of
-- these, is found first; they lead to the same state
abbrev pub invariant-loop-alloc : goal.invariant-loop-alloc
invariant-loop-alloc l = record {
  text : l.text.items ++ ended_all (flat_map standing_lines (left_alone l.running)) ≡ l.fn.text.items ++ ended_all (flat_map standing_lines (left_alone l.fn.running));
  found : (rest : Option Finding) → FirstDiffers (left_alone l.running) rest → FirstDiffers (left_alone l.fn.running) (first_or l.found rest);
  state : state_to_come l.running ≡ state_to_come l.fn.running;
}

abbrev pub decreases-loop-alloc : goal.decreases-loop-alloc
decreases-loop-alloc l = length (left_alone l.running)
