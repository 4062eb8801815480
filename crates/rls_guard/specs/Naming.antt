-- The names in a statement have to be there (PostgreSQL manual, 4.2.1 and appendix A: 42P01, 42703): each column, and the
-- table of each subquery, in text order. What stands in a subquery is looked for once its table is found.
use Rattle.std.specs.Prelude.{◌≡◌, List, [], ◌∷◌, ◌++◌, drop, Some, Result, Ok, Err}
use Rattle.std.specs.List.{AllByRecursion}
use Rattle.rls_evaluation.specs.rls_catalog.specs.rls_expr.specs.rls_value.specs.declared.refusal.Refusal.{Refusal}
use Rattle.rls_evaluation.specs.rls_catalog.specs.rls_expr.specs.rls_value.specs.declared.refusal.Refusal.TheVariants.{Undefined}
use Rattle.rls_evaluation.specs.rls_catalog.specs.rls_expr.specs.declared.expr.Var.{Var}
use Rattle.rls_evaluation.specs.rls_catalog.specs.rls_expr.specs.Naming.{Step, Look, Enter, Leave}
use Rattle.rls_evaluation.specs.rls_catalog.specs.rls_expr.specs.Scopes.{InScope, Unknown, var_in}
use Rattle.rls_evaluation.specs.rls_catalog.specs.rls_expr.specs.Resolving.{Names}
use Rattle.rls_evaluation.specs.rls_catalog.specs.rls_expr.specs.Terms.{qualifier_of}
use Rattle.rls_evaluation.specs.rls_catalog.specs.State.{State, table_of}
use Rattle.rls_evaluation.specs.rls_source.specs.Askings.{Asking, known, followed_by}
use Rattle.rls_evaluation.specs.rls_source.specs.Named.{table_or_undefined}

-- the name means a column
abbrev pub there_or_undefined : Result Var Unknown → Result (Unit {0}) Refusal
there_or_undefined (Ok var) = Ok tt
there_or_undefined (Err (kind, name)) = Err (Undefined kind name)

-- each name is there, over these tables, the innermost first; the tables found for subqueries stand behind those found
-- before
abbrev pub named : List Step → List InScope → List InScope → Asking (List InScope)
named [] tables found = known (Ok found)
named (Look name ∷ steps) tables found = followed_by (known (there_or_undefined (var_in tables name))) (λ _. named steps tables found)
named (Enter from ∷ steps) tables found = followed_by (table_or_undefined from.table) (λ table. named steps ((qualifier_of from, table) ∷ tables) (found ++ (from.table, table) ∷ []))
named (Leave ∷ steps) tables found = named steps (drop 1 tables) found

-- names over one table, where these were found for subqueries
abbrev pub names_over : InScope → List InScope → Names
names_over from found = record { tables = from ∷ []; known = found }

-- each of them is the state's table of its name
abbrev pub AreTablesOf : State → List InScope → Type 0
AreTablesOf s found = AllByRecursion (λ one. table_of s one.0 ≡ Some one.1) found
