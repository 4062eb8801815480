-- The rows that a statement looks at: where WHERE pins the whole primary key, those with the key, else all of the table.
use Rattle.std.specs.Prelude.{ℕ, List, [], Option, Some, None, Ok}
use Rattle.std.specs.List.{list_any}
use Rattle.rls_value.specs.declared.value.Value.{Value}
use Rattle.rls_value.specs.Values.{is_null}
use Rattle.rls_guard.specs.rls_catalog.specs.rls_expr.specs.declared.table.TableDef.{TableDef}
use Rattle.rls_guard.specs.rls_catalog.specs.rls_expr.specs.Terms.{Term, maybe_term}
use Rattle.rls_guard.specs.rls_catalog.specs.declared.stored.Stored.{Stored}
use Rattle.rls_evaluation.specs.rls_source.specs.Askings.{Asking, known, asked_if}
use Rattle.rls_evaluation.specs.rls_source.specs.Asked.{asked_rows, asked_key}
use Rattle.rls_evaluation.specs.{Environments.alone, Keys.key_of}

-- the key that WHERE pins, where no row is in scope
abbrev pub pinned_key : List ℕ → List ℕ → Option Term → Option (List Value)
pinned_key user places condition = key_of places (maybe_term condition) (alone user)

-- a key with a null is nobody's, and nothing is read for it
abbrev pub scanned_rows_with : List ℕ → Option (List Value) → Asking (List Stored)
scanned_rows_with name None = asked_rows name
scanned_rows_with name (Some key) = asked_if (list_any is_null key) (known (Ok [])) (asked_key name key)

-- the rows that a statement on the table looks at
abbrev pub scanned_rows : List ℕ → List ℕ → TableDef → Option Term → Asking (List Stored)
scanned_rows user name table condition = scanned_rows_with name (pinned_key user table.key condition)
