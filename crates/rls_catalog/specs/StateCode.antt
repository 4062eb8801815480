-- The code of states, by which proofs tell them apart.
use Rattle.std.specs.Prelude.{ℕ, List, refl}
use Rattle.std.specs.Coded.{Coded, code_by, coded×, coded_list, coded_ℕ}
use Rattle.rls_expr.specs.rls_value.specs.declared.row.RowId.{RowId}
use Rattle.rls_expr.specs.rls_value.specs.contracts.row.RowId as id
use Rattle.rls_expr.specs.{declared.table.TableDef.TableDef, declared.policy.Policy.Policy}
use Rattle.rls_expr.specs.contracts.table.TableDef as table
use Rattle.rls_catalog.specs.{declared.role.RoleDef.RoleDef, declared.role.Membership.Membership, declared.grant.Grant.Grant, declared.stored.Keyed.Keyed, State.State}
use Rattle.rls_catalog.specs.contracts.role.RoleDef as role
use Rattle.rls_catalog.specs.contracts.role.Membership as membership
use Rattle.rls_catalog.specs.contracts.grant.Grant as grant
use Rattle.rls_expr.specs.contracts.policy.Policy as policy
use Rattle.rls_catalog.specs.contracts.stored.Keyed as keyed

-- the code of lists of contents under names
abbrev pub under_names : {X : Type 0} → Coded X → Coded (List (List ℕ × X))
under_names code = coded_list (coded× (coded_list coded_ℕ) code)

-- the code of the rows of a table
abbrev pub rows_code : Coded (List (RowId × Keyed))
rows_code = coded_list (coded× id.the_row.coded keyed.the_row.coded)

-- what a state consists of
abbrev pub Parts : Type 0
Parts = List (List ℕ × RoleDef) × (List (List ℕ × List Membership) × (List (List ℕ × TableDef) × (List (List ℕ × List Grant) × (List (List ℕ × List Policy) × List (List ℕ × List (RowId × Keyed))))))

-- the code of what a state consists of
abbrev pub parts_code : Coded Parts
parts_code =
    coded× (under_names role.the_row.coded) (coded× (under_names (coded_list membership.the_row.coded)) (coded× (under_names table.the_row.coded) (coded× (under_names (coded_list grant.the_row.coded)) (coded× (under_names (coded_list policy.the_row.coded)) (under_names rows_code)))))

-- the code of a state
abbrev pub state_code : Coded State
state_code =
    code_by Parts parts_code (λ s. (s.roles, (s.members, (s.tables, (s.grants, (s.policies, s.rows)))))) (λ p. record { roles = p.0; members = p.1.0; tables = p.1.1.0; grants = p.1.1.1.0; policies = p.1.1.1.1.0; rows = p.1.1.1.1.1 }) (λ _. refl)
