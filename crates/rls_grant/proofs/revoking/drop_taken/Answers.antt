use Rattle.std.proofs.Common.{◌≡◌, [], ap, drop, sym, ◌∙◌}
use Rattle.std.proofs.lemmas.List.{drop_all}
use Rattle.rls_grant.specs.Revoking.{without_by}
use Rattle.rls_grant.proofs.RevokedLemmas.{dropped_of_all}
use Rattle.rls_grant.proofs.revoking.drop_taken.Goals as goal

pub returns : goal.returns
returns c =
    let none : drop c.loop-grantor.grantor-index c.args.grantors.now ≡ [] = drop_all c.loop-grantor.grantor-index c.args.grantors.now c.loop-grantor-test.false in
    ap (λ by. without_by c.args.revoke.now by c.loop-grantor.rest) (sym none) ∙ c.loop-grantor.invariant ∙ dropped_of_all c.args.revoke.now c.args.grantors.now c.args.grants.now
