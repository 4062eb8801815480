-- Types of command for which row security lets a role do nothing with a table: the role holds the privilege, and no permissive policy
-- applies to it.
use Rattle.std.specs.Prelude.{ℕ, List, [], ◌∷◌, ◌++◌, Bool, true, ◌&&◌, ◌||◌, not, filter, fold, if◌then◌else◌, map}
use Rattle.std.specs.List.{list_any}
use Rattle.rls_value.specs.{declared.verb.Kind.Kind, Values.same_flag}
use Rattle.rls_value.specs.declared.verb.Kind.TheVariants as k
use Rattle.rls_expr.specs.{declared.policy.Policy.Policy, Scopes.InScope}
use Rattle.rls_catalog.specs.{declared.verdict.Side.Side, Privileges.holds, State.State, Verdict.applying_of}
use Rattle.rls_catalog.specs.declared.verdict.Side.TheVariants as side
use Rattle.rls_meaning.specs.Commands.{privilege_of}
use Rattle.rls_lint.specs.declared.commands.Commands.{Commands}
use Rattle.rls_lint.specs.declared.commands.Denied.{Denied}
use Rattle.rls_lint.specs.declared.finding.Mistake.{Mistake}
use Rattle.rls_lint.specs.declared.finding.Mistake.TheVariants as m
use Rattle.rls_lint.specs.Users.{is_bound}

-- ---- sets of types of command

-- those for which the test is true
abbrev pub commands_where : (Kind → Bool) → Commands
commands_where test = record { select = test k.Select; insert = test k.Insert; update = test k.Update; delete = test k.Delete }

-- one at least
abbrev pub has_command : Commands → Bool
has_command commands = commands.select || (commands.insert || (commands.update || commands.delete))

-- the same ones
abbrev pub is_same_commands : Commands → Commands → Bool
is_same_commands a b = same_flag a.select b.select && (same_flag a.insert b.insert && (same_flag a.update b.update && same_flag a.delete b.delete))

-- ---- what is denied

-- the rows that a command's policies are asked about first: new ones of an INSERT, else those that stand
abbrev pub side_of : Kind → Side
side_of k.Select = side.Old
side_of k.Insert = side.New
side_of k.Update = side.Old
side_of k.Delete = side.Old

-- a policy is there
abbrev pub has_policies : List Policy → Bool
has_policies policies = list_any (λ policy. true) policies

-- one of them is permissive
abbrev pub has_permissive : List Policy → Bool
has_permissive policies = list_any (λ policy. policy.permissive) policies

-- none of the policies is permissive; `alone` says whether there are restrictive ones
abbrev pub is_denying : Bool → List Policy → Bool
is_denying alone policies = not (has_permissive policies) && same_flag (has_policies policies) alone

-- row security binds the role on the table, it holds the privilege for the type of command, and no permissive policy applies to it:
-- none at all or, where `alone`, restrictive ones alone
abbrev pub is_denied : Bool → State → InScope → List ℕ → Kind → Bool
is_denied alone s from role kind = is_bound s role from && (holds s role (privilege_of kind) from.0 && is_denying alone (applying_of s role from.0 kind (side_of kind)))

-- ---- the mistakes `no-policy` and `restrictive-alone`

-- of each role, for which types of command that is so
abbrev pub denied_of : Bool → State → InScope → List (List ℕ) → List Denied
denied_of alone s from users = map (λ role. record { role = role; commands = commands_where (is_denied alone s from role) }) users

-- one set more, unless it is there or has none
abbrev pub with_commands : List Commands → Denied → List Commands
with_commands sets it = if has_command it.commands && not (list_any (is_same_commands it.commands) sets) then sets ++ it.commands ∷ [] else sets

-- the sets that some role has, in the order of the first of their roles
abbrev pub sets_of : List Denied → List Commands
sets_of denied = fold with_commands [] denied

-- the roles that have just that set
abbrev pub roles_with : Commands → List Denied → List (List ℕ)
roles_with commands denied = map (λ it. it.role) (filter (λ it. is_same_commands it.commands commands) denied)

-- a line for each of the sets
abbrev pub denied_mistakes : Bool → State → InScope → List (List ℕ) → List Mistake
denied_mistakes alone s from users =
    let denied : List Denied = denied_of alone s from users in
    map (λ commands. m.Denied alone (roles_with commands denied) commands) (sets_of denied)
