-- Who holds a grant option, found in rounds: each adds those to whom one that was found granted the option. As many rounds
-- as there are grantees find the least set.
use Rattle.std.specs.Prelude.{ℕ, zero, suc, List, [], ◌∷◌, ◌++◌, length}
use Rattle.std.specs.List.{flat_map}
use Rattle.rls_value.specs.declared.verb.Privilege.{Privilege}
use Rattle.rls_verdict.specs.rls_catalog.specs.declared.grant.Grant.{Grant}
use Rattle.rls_verdict.specs.rls_catalog.specs.Membership.{fresh}
use Rattle.rls_verdict.specs.rls_catalog.specs.Privileges.{roles_in, optioned_by}

-- those to whom one of the names granted the option
abbrev pub optioned_by_all : List Grant → Privilege → List (List ℕ) → List (List ℕ)
optioned_by_all grants privilege names = flat_map (optioned_by grants privilege) names

-- the names, after so many rounds
abbrev pub rounds : ℕ → List Grant → Privilege → List (List ℕ) → List (List ℕ)
rounds zero grants privilege names = names
rounds (suc n) grants privilege names = rounds n grants privilege (names ++ fresh names (optioned_by_all grants privilege names))

-- the roles that are granted anything
abbrev pub grantees_of : List Grant → List (List ℕ)
grantees_of grants = flat_map (λ grant. roles_in grant.grantee) grants

-- who holds the grant option, each once
unfoldable pub holders_of : List ℕ → List Grant → Privilege → List (List ℕ)
holders_of owner grants privilege = rounds (length (grantees_of grants)) grants privilege (owner ∷ [])
