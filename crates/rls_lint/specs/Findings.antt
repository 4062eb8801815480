-- What in a state is likely a mistake: by table, by the rule's name, by policy.
use Rattle.std.specs.Prelude.{ℕ, List, ◌++◌, true, false, map}
use Rattle.std.specs.List.{flat_map}
use Rattle.rls_expr.specs.Scopes.{InScope}
use Rattle.rls_catalog.specs.State.{State, policies_of}
use Rattle.rls_lint.specs.declared.finding.Finding.{Finding}
use Rattle.rls_lint.specs.declared.finding.Lookup.TheVariants as l
use Rattle.rls_lint.specs.declared.finding.Mistake.{Mistake}
use Rattle.rls_lint.specs.{Commands.denied_mistakes, Lookups.lookup_mistakes, Loops.loop_mistakes, Nulls.null_mistakes, Users.roles_of, Users.users_of}
use Rattle.rls_lint.specs.PolicyMistakes.{check_true_mistakes, no_check_mistakes, to_nobody_mistakes}
use Rattle.rls_lint.specs.TableMistakes.{off_mistakes, owner_mistakes}

-- the mistakes of a table: `blind-lookup`, `check-true`, `loop`, `no-check`, `no-policy`, `null-compared`, `open-lookup`,
-- `owner-unbound`, `restrictive-alone`, `rls-off`, `to-nobody`, `unreadable`
abbrev pub mistakes_of : State → List (List ℕ) → List (List ℕ) → List InScope → InScope → List Mistake
mistakes_of s roles users tables from =
    lookup_mistakes l.Blind s from users tables
    ++ (check_true_mistakes (policies_of s from.0)
    ++ (loop_mistakes s from users tables
    ++ (no_check_mistakes (policies_of s from.0)
    ++ (denied_mistakes false s from users
    ++ (null_mistakes (policies_of s from.0)
    ++ (lookup_mistakes l.Open s from users tables
    ++ (owner_mistakes s roles from.1
    ++ (denied_mistakes true s from users
    ++ (off_mistakes from.1 (policies_of s from.0)
    ++ (to_nobody_mistakes s roles users (policies_of s from.0)
    ++ lookup_mistakes l.Unreadable s from users tables))))))))))

-- mistakes, as findings about the table
abbrev pub told_of : InScope → List Mistake → List Finding
told_of from mistakes = map (λ mistake. record { table = from.0; mistake = mistake }) mistakes

-- the findings about a table
unfoldable pub findings_on : State → List (List ℕ) → List (List ℕ) → List InScope → InScope → List Finding
findings_on s roles users tables from = told_of from (mistakes_of s roles users tables from)

-- of each table, of these roles and tables
abbrev pub findings_among : State → List (List ℕ) → List InScope → List Finding
findings_among s roles tables = flat_map (findings_on s roles (users_of s roles) tables) tables

-- of those of the state
abbrev pub findings_of : State → List Finding
findings_of s = findings_among s (roles_of s) s.tables
