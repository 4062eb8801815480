-- Who grants, told by whose privileges a role has, is what the rule over a state says.
use Rattle.std.specs.Prelude.{◌≡◌, refl, ℕ, List}
use Rattle.rls_value.specs.Names.{one_of}
use Rattle.rls_verdict.specs.rls_catalog.specs.State.{State}
use Rattle.rls_verdict.specs.rls_catalog.specs.GrantOptions.{grantor_of}
use Rattle.rls_role.specs.Reaching.{effective_roles_in}
use Rattle.rls_grant.specs.Grantors.{grantor_by}

pub grantor_means : (s : State) (role owner : List ℕ) (holders : List (List ℕ)) → grantor_by (effective_roles_in s role) role owner (one_of holders) ≡ grantor_of s role owner holders
unfolding effective_roles_in
grantor_means s role owner holders = refl
