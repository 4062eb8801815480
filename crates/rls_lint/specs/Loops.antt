-- Policies that lead back to a table that they came from (PostgreSQL: SQLSTATE 42P17).
use Rattle.std.specs.Prelude.{ℕ, List, [], ◌∷◌, true, ◌&&◌, Option, None, filter, if◌then◌else◌, map}
use Rattle.std.specs.List.{flat_map, list_any}
use Rattle.std.specs.Option.{option_to_list}
use Rattle.rls_value.specs.{declared.verb.Kind.Kind, Names.one_of}
use Rattle.rls_expr.specs.Scopes.{InScope}
use Rattle.rls_catalog.specs.{Privileges.holds, State.State}
use Rattle.rls_meaning.specs.Commands.{Command, closing_in, privilege_of}
use Rattle.rls_lint.specs.declared.loops.Closed.{Closed}
use Rattle.rls_lint.specs.declared.finding.Mistake.{Mistake}
use Rattle.rls_lint.specs.declared.finding.Mistake.TheVariants as m
use Rattle.rls_lint.specs.Users.{is_bound, kinds}

-- a command of that type on the table that reads nothing beside it
abbrev pub command_of : List ℕ → InScope → Kind → Command
command_of role from kind = record { role = role; name = from.0; table = from.1; kind = kind; own = []; read = []; queries = [] }

-- the table that the chains of the role's command close on, where row security binds it and it holds the privilege
abbrev pub closed_for : State → InScope → List ℕ → Kind → Option (List ℕ)
closed_for s from role kind = if is_bound s role from && holds s role (privilege_of kind) from.0 then closing_in s (command_of role from kind) else None

-- of each role, those tables
abbrev pub closed_of : State → InScope → List (List ℕ) → List Closed
closed_of s from users = map (λ role. record { role = role; tables = flat_map (λ kind. option_to_list (closed_for s from role kind)) kinds }) users

-- the roles whose chains close on that table
abbrev pub roles_on : List ℕ → List Closed → List (List ℕ)
roles_on table closed = map (λ it. it.role) (filter (λ it. one_of it.tables table) closed)

-- a line, where there are any
abbrev pub loop_of : List Closed → InScope → List Mistake
loop_of closed other = if list_any (λ role. true) (roles_on other.0 closed) then m.Loop other.0 (roles_on other.0 closed) ∷ [] else []

-- a line for each of the tables
abbrev pub loop_mistakes : State → InScope → List (List ℕ) → List InScope → List Mistake
loop_mistakes s from users tables =
    let closed : List Closed = closed_of s from users in
    flat_map (loop_of closed) tables
