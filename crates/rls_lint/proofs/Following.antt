-- The roles and the tables of a state that changes.
use Rattle.std.specs.Prelude.{List, [], ◌∷◌}
use Rattle.rls_catalog.specs.declared.change.Change.{Change}
use Rattle.rls_catalog.specs.declared.change.Change.TheVariants as c
use Rattle.rls_catalog.specs.Changed.{changed, changed_all}
use Rattle.rls_catalog.specs.State.{State, name_order}
use Rattle.std.specs.BTreeMap.{insert_entry}
use Rattle.rls_lint.specs.declared.named.Named.{Named}
use Rattle.rls_lint.specs.Naming.{IsNamed, followed, followed_all}

followed_one : (s : State) (named : Named) (change : Change) → IsNamed s named → IsNamed (changed s change) (followed named change)
followed_one s named (c.Role name def) is = record { roles = λ i. insert_entry name_order (is.roles i) name def; tables = is.tables }
followed_one s named (c.Table name def) is = record { roles = is.roles; tables = λ i. insert_entry name_order (is.tables i) name def }
followed_one s named (c.Members name content) is = record { roles = is.roles; tables = is.tables }
followed_one s named (c.Grants name content) is = record { roles = is.roles; tables = is.tables }
followed_one s named (c.Policies name content) is = record { roles = is.roles; tables = is.tables }
followed_one s named (c.Row change) is = record { roles = is.roles; tables = is.tables }

-- those that follow the changes are those of the state that they make
pub named_follows : (s : State) (named : Named) (changes : List Change) → IsNamed s named → IsNamed (changed_all s changes) (followed_all named changes)
named_follows s named [] is = is
named_follows s named (change ∷ more) is = named_follows (changed s change) (followed named change) more (followed_one s named change is)
