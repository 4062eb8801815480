-- What of a table's row security is likely not meant so.
use Rattle.std.specs.Prelude.{ℕ, List, [], ◌∷◌, Bool, true, ◌&&◌, not, filter, if◌then◌else◌, length}
use Rattle.std.specs.List.{list_any}
use Rattle.rls_expr.specs.{declared.policy.Policy.Policy, declared.table.TableDef.TableDef}
use Rattle.rls_catalog.specs.{Membership.attributes_of, Membership.has_privileges_of, State.State}
use Rattle.rls_lint.specs.declared.finding.Mistake.{Mistake}
use Rattle.rls_lint.specs.declared.finding.Mistake.TheVariants as m
use Rattle.rls_lint.specs.Commands.{has_policies}
use Rattle.rls_lint.specs.Users.{is_login}

-- ---- `owner-unbound`

-- the role may log in, is no superuser, has no BYPASSRLS, and has the privileges of the table's owner
abbrev pub is_unbound : State → TableDef → List ℕ → Bool
is_unbound s table role = is_login s role && (not (attributes_of s role).bypass_rls && has_privileges_of s role table.owner)

-- row security is enabled and not forced, so that it doesn't bind these
abbrev pub unbound_of : State → List (List ℕ) → TableDef → List (List ℕ)
unbound_of s roles table = if table.enabled && not table.forced then filter (is_unbound s table) roles else []

abbrev pub owner_mistakes : State → List (List ℕ) → TableDef → List Mistake
owner_mistakes s roles table =
    let unbound : List (List ℕ) = unbound_of s roles table in
    if list_any (λ role. true) unbound then m.OwnerUnbound unbound ∷ [] else []

-- ---- `rls-off`

-- a table with policies, whose row security isn't enabled
abbrev pub off_mistakes : TableDef → List Policy → List Mistake
off_mistakes table policies = if not table.enabled && has_policies policies then m.Off (length policies) ∷ [] else []
