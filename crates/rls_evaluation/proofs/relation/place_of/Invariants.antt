use Rattle.std.proofs.Common.{◌≡◌, ◌-◌, drop, length}
use Rattle.rls_evaluation.specs.Showing.{place_from}
use Rattle.rls_evaluation.proofs.relation.place_of.Given as goal

-- what is left has the place
abbrev pub invariant-loop-place : goal.invariant-loop-place
invariant-loop-place l = place_from l.place (drop l.place l.relations) l.table ≡ place_from l.from (drop l.from l.relations) l.table

abbrev pub decreases-loop-place : goal.decreases-loop-place
decreases-loop-place l = length l.relations - l.place
