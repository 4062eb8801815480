use Rattle.std.proofs.Common.{◌≡◌, drop}
use Rattle.std.specs.Prelude.{None}
use Rattle.std.specs.Option.{option_copied}
use Rattle.rls_verdict.specs.rls_catalog.specs.State.{State}
use Rattle.rls_evaluation.specs.Eval.{Shows}
use Rattle.rls_evaluation.proofs.DecidingLemmas.{verdict_beside}
use Rattle.rls_evaluation.proofs.deciding.deciding_on.Given as goal

-- what is left decides with those so far
abbrev pub invariant-loop-policy : goal.invariant-loop-policy
invariant-loop-policy l =
    (sees : Shows) (s : State) → (verdict_beside None None l.conditions sees l.user l.row).in_state s
    ≡ (verdict_beside (option_copied l.deciding.passing) (option_copied l.deciding.failing) (drop l.policy-index l.conditions) sees l.user l.row).in_state s
