-- What a policy of a table says that it is likely not meant to say.
use Rattle.std.specs.Prelude.{ℕ, List, [], ◌∷◌, Option, Some, Bool, true, false, ◌&&◌, not, filter, if◌then◌else◌, is_some}
use Rattle.std.specs.List.{flat_map, list_any}
use Rattle.std.specs.Str.{bytes_eq}
use Rattle.rls_value.specs.declared.value.Value.TheVariants as v
use Rattle.rls_value.specs.declared.verb.Kind.TheVariants as k
use Rattle.rls_value.specs.declared.verb.PolicyKind.{PolicyKind}
use Rattle.rls_value.specs.declared.verb.PolicyKind.TheVariants as pk
use Rattle.rls_expr.specs.{declared.policy.Grantee.Grantee, declared.policy.Policy.Policy, Terms.Literal, Terms.Term}
use Rattle.rls_expr.specs.declared.policy.Grantee.TheVariants as g
use Rattle.rls_catalog.specs.{State.State, Verdict.is_to, Verdict.is_to_everyone}
use Rattle.rls_lint.specs.declared.finding.Mistake.{Mistake}
use Rattle.rls_lint.specs.declared.finding.Mistake.TheVariants as m

-- ---- `no-check`

-- it is FOR INSERT alone
abbrev pub is_for_insert : PolicyKind → Bool
is_for_insert (pk.Only k.Insert) = true
is_for_insert (pk.Only _) = false
is_for_insert pk.All = false

-- a policy FOR INSERT without WITH CHECK
abbrev pub has_no_check : Policy → Bool
has_no_check policy = is_for_insert policy.kind && not (is_some policy.check)

abbrev pub no_check_mistakes : List Policy → List Mistake
no_check_mistakes policies = flat_map (λ policy. if has_no_check policy then m.NoCheck policy.name policy.permissive ∷ [] else []) policies

-- ---- `check-true`

-- the literal TRUE
abbrev pub is_true_literal : Option Term → Bool
is_true_literal (Some (Literal (v.Bool true))) = true
is_true_literal _ = false

-- a permissive policy whose WITH CHECK is the literal TRUE, and whose USING isn't
abbrev pub has_true_check : Policy → Bool
has_true_check policy = policy.permissive && (is_true_literal policy.check && not (is_true_literal policy.using))

abbrev pub check_true_mistakes : List Policy → List Mistake
check_true_mistakes policies = flat_map (λ policy. if has_true_check policy then m.CheckTrue policy.name ∷ [] else []) policies

-- ---- `to-nobody`

-- the policy is for none of those that can be the current role of a session that logs in as no superuser
abbrev pub is_to_nobody : State → List (List ℕ) → Policy → Bool
is_to_nobody s users policy = not (is_to_everyone policy) && not (list_any (λ role. is_to s role policy) users)

-- the role is the grantee
abbrev pub is_grantee : List ℕ → Grantee → Bool
is_grantee role g.Public = false
is_grantee role (g.Role name) = bytes_eq name role

-- the policy is to the role itself
unfoldable pub names_role : Policy → List ℕ → Bool
names_role policy role = list_any (is_grantee role) policy.to

-- the roles that the policy is to
abbrev pub roles_to : List (List ℕ) → Policy → List (List ℕ)
roles_to roles policy = filter (names_role policy) roles

abbrev pub to_nobody_mistakes : State → List (List ℕ) → List (List ℕ) → List Policy → List Mistake
to_nobody_mistakes s roles users policies = flat_map (λ policy. if is_to_nobody s users policy then m.ToNobody policy.name (roles_to roles policy) ∷ [] else []) policies
