-- Row security (PostgreSQL manual, 5.8, "Row Security Policies", and CREATE POLICY): who is exempt, which policies
-- apply, and what they say of a row.
use Rattle.std.specs.Prelude.{ℕ, List, [], ◌∷◌, Option, Some, None, Bool, true, false, ◌&&◌, ◌||◌, not, if◌then◌else◌, map, filter, is_some}
use Rattle.std.specs.List.{list_any, list_all}
use Rattle.std.specs.Ordering.{is_gt}
use Rattle.rls_expr.specs.rls_value.specs.{declared.verb.Kind.Kind, declared.verb.PolicyKind.PolicyKind, declared.truth.Truth.Truth, Truths.is_true, Values.same_flag, declared.object.Object.Object}
use Rattle.rls_expr.specs.rls_value.specs.declared.verb.Kind.TheVariants as k
use Rattle.rls_expr.specs.rls_value.specs.declared.verb.PolicyKind.TheVariants as pk
use Rattle.rls_expr.specs.rls_value.specs.declared.object.Object.TheVariants as o
use Rattle.rls_expr.specs.{declared.table.TableDef.TableDef, Terms.Term, declared.policy.Grantee.Grantee, declared.policy.Policy.Policy}
use Rattle.rls_catalog.specs.{declared.role.RoleDef.RoleDef, declared.verdict.Side.Side, declared.verdict.Verdict.Verdict, State.State, State.policies_of, State.name_order, Membership.attributes_of, Membership.has_privileges_of, Membership.effective_roles_reads, Privileges.includes, Privileges.concerns}
use Rattle.rls_expr.specs.declared.policy.Grantee.TheVariants as g
use Rattle.rls_catalog.specs.declared.verdict.Side.TheVariants as side
use Rattle.rls_catalog.specs.declared.verdict.Verdict.TheVariants as v

-- row security is off, or the role is SUPERUSER or BYPASSRLS itself, or it has the owner's privileges and the table
-- isn't under FORCE
abbrev pub exempts : RoleDef → TableDef → Bool → Bool
exempts role table has_owner = not table.enabled || (role.superuser || (role.bypass_rls || (has_owner && not table.forced)))

-- whether row security doesn't apply to the role on the table
abbrev pub is_exempt : State → List ℕ → TableDef → Bool
is_exempt s role table = exempts (attributes_of s role) table (has_privileges_of s role table.owner)

-- what it reads to tell whether a role is exempt, the table's definition being known
abbrev pub exempt_reads : State → List ℕ → TableDef → List Object
exempt_reads s role table =
    if table.enabled
    then (o.Role role ∷ (if (attributes_of s role).superuser || ((attributes_of s role).bypass_rls || table.forced) then [] else effective_roles_reads s role))
    else []

-- the same type of command
abbrev pub is_same_kind : Kind → Kind → Bool
is_same_kind k.Select k.Select = true
is_same_kind k.Insert k.Insert = true
is_same_kind k.Update k.Update = true
is_same_kind k.Delete k.Delete = true
is_same_kind _ _ = false

-- a policy FOR ALL is for each type of command
abbrev pub is_for_kind : PolicyKind → Kind → Bool
is_for_kind pk.All kind = true
is_for_kind (pk.Only own) kind = is_same_kind own kind

-- WITH CHECK; a policy FOR ALL or UPDATE that has none uses USING
abbrev pub check_or_using : PolicyKind → Option Term → Option Term → Option Term
check_or_using kind (Some check) using = Some check
check_or_using pk.All None using = using
check_or_using (pk.Only k.Update) None using = using
check_or_using (pk.Only _) None using = None

-- the expression that a policy is asked for: USING for SELECT, DELETE and the old row of UPDATE, else WITH CHECK
abbrev pub expression_of : Policy → Kind → Side → Option Term
expression_of policy k.Select which = policy.using
expression_of policy k.Insert which = check_or_using policy.kind policy.check policy.using
expression_of policy k.Update side.Old = policy.using
expression_of policy k.Update side.New = check_or_using policy.kind policy.check policy.using
expression_of policy k.Delete which = policy.using

-- the policy is for that type of command, and has the expression asked for
abbrev pub is_asked : Kind → Side → Policy → Bool
is_asked kind which policy = is_for_kind policy.kind kind && is_some (expression_of policy kind which)

-- the policies of the table that are for that type of command and have the expression asked for
abbrev pub asked_of : State → List ℕ → Kind → Side → List Policy
asked_of s table kind which = filter (is_asked kind which) (policies_of s table)

-- the policy is TO PUBLIC, or to a role whose privileges the role has
abbrev pub is_to : State → List ℕ → Policy → Bool
is_to s role policy = list_any (concerns s role) policy.to

-- of these policies those that apply to a role that isn't exempt, by whose privileges the role has
abbrev pub chosen : Bool → List (List ℕ) → Kind → Side → List Policy → List Policy
chosen superuser names kind which policies = filter (λ policy. list_any (includes superuser names) policy.to) (filter (is_asked kind which) policies)

-- the policies that apply to a role that isn't exempt, in byte order of their names
abbrev pub applying_of : State → List ℕ → List ℕ → Kind → Side → List Policy
applying_of s role table kind which = filter (is_to s role) (asked_of s table kind which)

-- it is PUBLIC
abbrev pub is_everyone : Grantee → Bool
is_everyone g.Public = true
is_everyone (g.Role name) = false

-- PUBLIC is among those that the policy is for
abbrev pub is_to_everyone : Policy → Bool
is_to_everyone policy = list_any is_everyone policy.to

-- what it reads to tell which policies apply: a policy TO PUBLIC asks nobody's memberships
abbrev pub applying_reads : State → List ℕ → List ℕ → Kind → Side → List Object
applying_reads s role table kind which = o.Policies table ∷ (if list_all is_to_everyone (asked_of s table kind which) then [] else effective_roles_reads s role)

-- the policy is permissive or not, and its condition is true or not
abbrev pub is_such : Bool → Bool → Policy × Truth → Bool
is_such permissive passes judgement = same_flag judgement.0.permissive permissive && same_flag (is_true judgement.1) passes

-- the names of the permissive, or restrictive, policies that are true, or aren't
abbrev pub names_where : Bool → Bool → List (Policy × Truth) → List (List ℕ)
names_where permissive passes judgements = map (λ judgement. judgement.0.name) (filter (is_such permissive passes) judgements)

-- the lesser of two names by their bytes, where the first may be none
abbrev pub lesser : Option (List ℕ) → List ℕ → List ℕ
lesser None name = name
lesser (Some best) name = if is_gt (name_order best name) then name else best

-- the least of the names and of the best so far, by their bytes
abbrev pub least : Option (List ℕ) → List (List ℕ) → Option (List ℕ)
least best [] = best
least best (name ∷ names) = least (Some (lesser best name)) names

-- the verdict by the least permissive policy that is true and the least restrictive one that isn't
abbrev pub verdict_by : Option (List ℕ) → Option (List ℕ) → Verdict
verdict_by None failing = v.NoPermissive
verdict_by (Some passing) (Some failing) = v.Restrictive failing
verdict_by (Some passing) None = v.By passing

-- what policies say of a row, by what each says: one permissive policy must be true, and every restrictive one
abbrev pub verdict_of : List (Policy × Truth) → Verdict
verdict_of judgements = verdict_by (least None (names_where true true judgements)) (least None (names_where false false judgements))
