-- Grants seen without the grant options of one grantee.
use Rattle.std.specs.Prelude.{ℕ, List, Option, Some, None, Bool, false, ◌&&◌, not, map}
use Rattle.rls_verdict.specs.rls_expr.specs.declared.policy.Grantee.{Grantee}
use Rattle.rls_verdict.specs.rls_expr.specs.declared.policy.Grantee.TheVariants as g
use Rattle.rls_verdict.specs.rls_catalog.specs.declared.grant.Grant.{Grant}
use Rattle.rls_verdict.specs.rls_catalog.specs.GrantOptions.{is_same_grantee}

-- the grantee is the one that is left out, if one is
abbrev pub is_left_out : Option (List ℕ) → Grantee → Bool
is_left_out (Some name) grantee = is_same_grantee grantee (g.Role name)
is_left_out None grantee = false

-- a grant without its option, if it is to the role that is left out
abbrev pub considered_one : Option (List ℕ) → Grant → Grant
considered_one without grant = record grant { option = grant.option && not (is_left_out without grant.grantee) }

-- the grants, with the options of the role that is left out not counted
abbrev pub considered : Option (List ℕ) → List Grant → List Grant
considered without grants = map (considered_one without) grants
