-- The roles and the tables that a state has.
use Rattle.std.specs.Prelude.{◌≡◌, List, [], ◌∷◌}
use Rattle.std.specs.BTreeMap.{insert_entry}
use Rattle.rls_catalog.specs.declared.change.Change.{Change}
use Rattle.rls_catalog.specs.declared.change.Change.TheVariants as c
use Rattle.rls_catalog.specs.State.{State, name_order}
use Rattle.rls_lint.specs.declared.named.Named.{Named}

-- just those of the state
pub record IsNamed (s : State) (named : Named) : Type 0 where
  pub roles : named.roles ≡ s.roles
  pub tables : named.tables ≡ s.tables

-- with what a change makes of roles and tables
abbrev pub followed : Named → Change → Named
followed named (c.Role name def) = record named { roles = insert_entry name_order named.roles name def }
followed named (c.Table name def) = record named { tables = insert_entry name_order named.tables name def }
followed named (c.Members name content) = named
followed named (c.Grants name content) = named
followed named (c.Policies name content) = named
followed named (c.Row change) = named

-- with what changes make of them, one after another
abbrev pub followed_all : Named → List Change → Named
followed_all named [] = named
followed_all named (change ∷ more) = followed_all (followed named change) more
