use Rattle.std.proofs.Common.{◌≡◌, ◌++◌, drop, map}
use Rattle.rls_meaning.specs.rls_guard.specs.rls_evaluation.specs.Showing.{shows}
use Rattle.rls_explain.specs.Found.{judgement_found}
use Rattle.rls_explain.proofs.judging.judgements_on.Given as goal

-- what was told so far, and of the conditions that are left, is all
abbrev pub invariant-loop-condition : goal.invariant-loop-condition
invariant-loop-condition l =
    let tells = judgement_found l.catalog (shows l.relations l.role) l.role l.row in
    l.judgements.items ++ map tells (drop l.condition-index l.conditions) ≡ map tells l.conditions
