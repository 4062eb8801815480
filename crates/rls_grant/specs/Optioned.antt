-- Who holds the grant option for a privilege on a table of a state (PostgreSQL manual, GRANT and REVOKE).
use Rattle.std.specs.Prelude.{◌≡◌, ◌↔◌, ℕ, List, [], ◌∷◌, Option, Some, None, true}
use Rattle.std.specs.BTreeSet.{BTreeSet, contains}
use Rattle.rls_value.specs.declared.verb.Privilege.{Privilege}
use Rattle.rls_value.specs.declared.object.Object.{Object}
use Rattle.rls_value.specs.declared.object.Object.TheVariants as o
use Rattle.rls_verdict.specs.rls_expr.specs.declared.table.TableDef.{TableDef}
use Rattle.rls_verdict.specs.rls_catalog.specs.declared.grant.Grant.{Grant}
use Rattle.rls_verdict.specs.rls_catalog.specs.Privileges.{Options}
use Rattle.rls_verdict.specs.rls_catalog.specs.State.{State, name_order, table_of, grants_of}

-- the set is that of those who hold it by the grants
abbrev pub AreHolders : List ℕ → List Grant → Privilege → BTreeSet (List ℕ) → Type 0
AreHolders owner grants privilege holders = (role : List ℕ) → (contains name_order holders role ≡ true) ↔ Options owner grants privilege role

-- of a table that isn't there nobody does
abbrev pub HoldsOn : Option TableDef → List Grant → Privilege → List ℕ → Type 0
HoldsOn (Some table) grants privilege role = Options table.owner grants privilege role
HoldsOn None grants privilege role = ⊥

-- the role holds it: it is in the least set that has the table's owner and each grantee of a grant with option whose
-- grantor is in it
abbrev pub HoldsOption : State → List ℕ → Privilege → List ℕ → Type 0
HoldsOption s table privilege role = HoldsOn (table_of s table) (grants_of s table) privilege role

-- what tells it
abbrev pub option_reads : List ℕ → List Object
option_reads table = o.Table table ∷ o.Grants table ∷ []
