-- The columns that are named are asked for privilege by privilege; DELETE is of whole tables alone.
use Rattle.std.specs.Prelude.{◌≡◌, refl, ℕ, List, [], ◌∷◌, ◌++◌, Option, Some, None, Bool, true, false, ◌||◌, Result, Ok, Err}
use Rattle.std.specs.Option.{option_map_or}
use Rattle.std.proofs.Common.{ap, ◌∙◌}
use Rattle.rls_value.specs.{declared.refusal.Refusal.Refusal, Giving.and_then, Names.one_of}
use Rattle.rls_verdict.specs.rls_expr.specs.declared.table.Column.{Column}
use Rattle.rls_role.specs.rls_source.specs.Sequences.{each_or_refused}
use Rattle.rls_role.specs.rls_statement.specs.declared.privileges.Privileges.{Privileges}
use Rattle.rls_grant.specs.Columns.{column_or_undefined, columns_or_undefined}

next_if : {A : Type 0} (first : Result (Unit {0}) Refusal) (test : A → Result (Unit {0}) Refusal) (xs ys : List A)
    → each_or_refused test (xs ++ ys) ≡ and_then (each_or_refused test xs) (λ _. each_or_refused test ys)
    → and_then first (λ _. each_or_refused test (xs ++ ys)) ≡ and_then (and_then first (λ _. each_or_refused test xs)) (λ _. each_or_refused test ys)
next_if (Ok u) test xs ys same = same
next_if (Err refusal) test xs ys same = refl

-- one list, and then another
each_of_both : {A : Type 0} (test : A → Result (Unit {0}) Refusal) (xs ys : List A) → each_or_refused test (xs ++ ys) ≡ and_then (each_or_refused test xs) (λ _. each_or_refused test ys)
each_of_both test [] ys = refl
each_of_both test (x ∷ xs) ys = next_if (test x) test xs ys (each_of_both test xs ys)

-- SELECT's, INSERT's, UPDATE's
pub columns_in_order : (columns : List Column) (named : Privileges) → columns_or_undefined columns named
    ≡ and_then (each_or_refused (column_or_undefined columns) named.select.columns) (λ _.
    and_then (each_or_refused (column_or_undefined columns) named.insert.columns) (λ _. each_or_refused (column_or_undefined columns) named.update.columns))
columns_in_order columns named =
    each_of_both (column_or_undefined columns) named.select.columns (named.insert.columns ++ named.update.columns)
    ∙ ap (λ rest. and_then (each_or_refused (column_or_undefined columns) named.select.columns) (λ _. rest)) (each_of_both (column_or_undefined columns) named.insert.columns named.update.columns)

-- without columns the whole alone takes
pub whole_alone : (whole : Bool) (column : Option (List ℕ)) → (whole || option_map_or (one_of []) column false) ≡ whole
whole_alone true column = refl
whole_alone false (Some name) = refl
whole_alone false None = refl
