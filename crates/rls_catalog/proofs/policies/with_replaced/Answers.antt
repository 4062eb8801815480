use Rattle.std.proofs.Common.{◌≡◌, IfOk, subst, sym}
use Rattle.rls_catalog.proofs.PolicyListLaws.{put_there}
use Rattle.rls_catalog.proofs.policies.with_replaced.Goals as goal

pub returns-in-Some : goal.returns-in-Some
returns-in-Some c =
    subst (λ l. IfOk c.with_one.result (λ all. all ≡ l))
    (put_there c.args.policies.now c.args.policy c.in-Some.field-0.now c.in-Some.ensures.ordered (sym c.in-Some.ensures.found)) c.with_one.ensures
