use Rattle.std.proofs.Common.{ℕ, length}
use Rattle.std.specs.Str.Lines.{lines}
use Rattle.rls_script.specs.Plans.{Plan, ReadsLines, opening_plan}
use Rattle.rls_script.proofs.plan.read_plan.Given as goal

-- what the lines that are left make of the plan, the whole script makes
abbrev pub invariant-loop-rest : goal.invariant-loop-rest
invariant-loop-rest l = (after : Plan) → ReadsLines (lines l.rest) l.plan after → ReadsLines (lines l.script) opening_plan after

abbrev pub decreases-loop-rest : goal.decreases-loop-rest
decreases-loop-rest l = length l.rest
