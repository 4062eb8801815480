-- The conditions of a policy, USING and WITH CHECK, over its table (PostgreSQL manual, CREATE POLICY).
use Rattle.std.specs.Prelude.{List, ◌++◌, Option, Some, None, Result, Ok, Err, if◌then◌else◌}
use Rattle.rls_value.specs.declared.refusal.Refusal.{Refusal}
use Rattle.rls_value.specs.declared.refusal.Refusal.TheVariants.{TypeFault, Unsupported}
use Rattle.rls_value.specs.Giving.{and_then}
use Rattle.rls_expr.specs.Naming.{Step, names_all}
use Rattle.rls_expr.specs.Resolving.{Names, resolved}
use Rattle.rls_expr.specs.Terms.{Term, maybe_term}
use Rattle.rls_expr.specs.Typing.{type_of, takes_boolean}
use Rattle.rls_guard.specs.Checks.{is_unsupported}

-- the names in them, which have to be there
abbrev pub condition_names : Option Term → Option Term → List Step
condition_names using check = names_all (maybe_term using) ++ names_all (maybe_term check)

-- it has to be a boolean, if there is one
abbrev pub condition_fits : Names → Option Term → Result (Unit {0}) Refusal
condition_fits names None = Ok tt
condition_fits names (Some term) = if takes_boolean (type_of (resolved term names)) then Ok tt else Err TypeFault

-- nothing may stand in it that isn't supported, if there is one
abbrev pub is_supported : Names → Option Term → Result (Unit {0}) Refusal
is_supported names None = Ok tt
is_supported names (Some term) = if is_unsupported (resolved term names) then Err Unsupported else Ok tt

-- USING, then WITH CHECK
abbrev pub both_conditions : (Option Term → Result (Unit {0}) Refusal) → Option Term → Option Term → Result (Unit {0}) Refusal
both_conditions test using check = and_then (test using) (λ _. test check)
