use Rattle.std.proofs.Common.{ap, sym, ◌∙◌, ◌+◌, true, false, drop}
use Rattle.std.specs.Prelude.{refl}
use Rattle.std.proofs.lemmas.List.{drop_all}
use Rattle.std.specs.Option.{option_copied}
use Rattle.rls_evaluation.specs.Deciding.{named_if}
use Rattle.rls_evaluation.proofs.DecidingLemmas.{policy_told, verdict_beside}
use Rattle.rls_evaluation.proofs.deciding.deciding_on.Goals as goal

pub loop-policy-init : goal.loop-policy-init
loop-policy-init c = λ sees s. refl

pub loop-policy-preserved : goal.loop-policy-preserved
loop-policy-preserved c =
    λ sees s. c.loop-policy.invariant sees s
    ∙ policy_told (option_copied c.loop-policy.deciding.passing) (option_copied c.loop-policy.deciding.failing) c.args.conditions.now c.loop-policy.policy-index c.loop-policy-item.result c.in-Some.truth sees c.args.user.now c.args.row.now s
    c.loop-policy-test.true c.loop-policy-item.is c.in-Some.ensures
    ∙ ap (λ p. (verdict_beside p (named_if false false (option_copied c.loop-policy.deciding.failing) c.loop-policy-item.result.0 c.in-Some.truth) (drop (c.loop-policy.policy-index + 1) c.args.conditions.now) sees c.args.user.now c.args.row.now).in_state s)
    (sym (c.with-deciding.ensures.passing ∙ ap (λ it. named_if true true (option_copied c.loop-policy.deciding.passing) it c.in-Some.truth) c.get.ensures))
    ∙ ap (λ f. (verdict_beside (option_copied c.with-deciding.result.passing) f (drop (c.loop-policy.policy-index + 1) c.args.conditions.now) sees c.args.user.now c.args.row.now).in_state s)
    (sym (c.with-deciding.ensures.failing ∙ ap (λ it. named_if false false (option_copied c.loop-policy.deciding.failing) it c.in-Some.truth) c.get.ensures))

pub returns : goal.returns
returns c =
    λ sees s. c.loop-policy.invariant sees s
    ∙ ap (λ left. (verdict_beside (option_copied c.loop-policy.deciding.passing) (option_copied c.loop-policy.deciding.failing) left sees c.args.user.now c.args.row.now).in_state s)
    (drop_all c.loop-policy.policy-index c.args.conditions.now c.loop-policy-test.false)
