-- In states that agree on a table and its grants the same roles hold the option.
use Rattle.std.specs.Prelude.{◌≡◌, ◌↔◌, ℕ, List, Option}
use Rattle.std.proofs.Common.{sym, subst}
use Rattle.rls_value.specs.declared.verb.Privilege.{Privilege}
use Rattle.rls_verdict.specs.rls_expr.specs.declared.table.TableDef.{TableDef}
use Rattle.rls_verdict.specs.rls_catalog.specs.declared.grant.Grant.{Grant}
use Rattle.rls_verdict.specs.rls_catalog.specs.State.{State, AgreesOn, table_of, grants_of}
use Rattle.rls_grant.specs.Optioned.{HoldsOn, HoldsOption, option_reads}

moved : (a b : Option TableDef) (grants others : List Grant) (privilege : Privilege) (role : List ℕ) → a ≡ b → grants ≡ others → HoldsOn a grants privilege role → HoldsOn b others privilege role
moved a b grants others privilege role same alike holds = subst (λ these. HoldsOn b these privilege role) alike (subst (λ def. HoldsOn def grants privilege role) same holds)

-- in states that agree on what tells it the same roles hold it
pub option_frame : (s other : State) (table : List ℕ) (privilege : Privilege) → AgreesOn s other (option_reads table) → (role : List ℕ) → HoldsOption other table privilege role ↔ HoldsOption s table privilege role
option_frame s other table privilege agrees role = (
  moved (table_of other table) (table_of s table) (grants_of other table) (grants_of s table) privilege role (sym agrees.0) (sym agrees.1.0),
  moved (table_of s table) (table_of other table) (grants_of s table) (grants_of other table) privilege role agrees.0 agrees.1.0,
)
