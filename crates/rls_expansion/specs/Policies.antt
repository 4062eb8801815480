-- The policies of a table, as a question: nothing is read where row security doesn't apply to the role.
use Rattle.std.specs.Prelude.{ℕ, List, Option, Some, None, Result, Ok, Err}
use Rattle.std.specs.Borrow.{Bor}
use Rattle.std.specs.Option.{option_copied}
use Rattle.rls_guard.specs.rls_catalog.specs.rls_expr.specs.declared.table.TableDef.{TableDef}
use Rattle.rls_guard.specs.rls_catalog.specs.rls_expr.specs.declared.policy.Policy.{Policy}
use Rattle.rls_recursion.specs.rls_catalog.specs.Verdict.{exempts}
use Rattle.rls_guard.specs.rls_source.specs.Askings.{Asking, known, asked_if, followed_by}
use Rattle.rls_guard.specs.rls_source.specs.Asked.{asked_policies}
use Rattle.rls_guard.specs.declared.role_privileges.RolePrivileges.{RolePrivileges}
use Rattle.rls_guard.specs.RolePrivileges.{has_owner}

-- the policies of the table; none where row security doesn't apply to the role
unfoldable pub policies_for : RolePrivileges → List ℕ → TableDef → Asking (Option (List Policy))
policies_for role_privileges name table =
    asked_if (exempts role_privileges.attributes table (has_owner role_privileges table)) (known (Ok None))
    (followed_by (asked_policies name) (λ policies. known (Ok (Some policies))))

-- what a call gives that borrows them
abbrev pub policies_borrowed : {E : Type 0} → Result (Option (Bor (List Policy))) E → Result (Option (List Policy)) E
policies_borrowed (Ok found) = Ok (option_copied found)
policies_borrowed (Err refused) = Err refused
