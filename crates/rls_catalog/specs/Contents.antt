-- What stands at each place that changes overwrite, what a change leaves there, and when two changes write one object.
use Rattle.std.specs.Prelude.{List, Option, Some, None, Bool, false, ◌&&◌}
use Rattle.std.specs.BTreeMap.{is_at}
use Rattle.std.specs.List.{list_any}
use Rattle.rls_expr.specs.rls_value.specs.declared.object.Object.{Object}
use Rattle.rls_expr.specs.{declared.table.TableDef.TableDef, declared.policy.Policy.Policy}
use Rattle.rls_catalog.specs.{declared.role.RoleDef.RoleDef, declared.role.Membership.Membership, declared.grant.Grant.Grant, declared.stored.Keyed.Keyed, declared.change.Change.Change}
use Rattle.rls_catalog.specs.declared.change.Change.TheVariants as c
use Rattle.rls_catalog.specs.State.{State, name_order, role_of, members_of, table_of, grants_of, policies_of, is_same_id}
use Rattle.rls_catalog.specs.Bases.{Base, shows, before_of, row_at}
use Rattle.rls_catalog.specs.Writes.{writes, is_written}

-- what stands at a place
pub data Content : Type 0 where
  Role : Option RoleDef → Content
  Members : List Membership → Content
  Table : Option TableDef → Content
  Grants : List Grant → Content
  Policies : List Policy → Content
  Row : Option Keyed → Content

-- what stands at the place in a state
abbrev pub look : State → Base → Content
look s (Base.Role name) = Role (role_of s name)
look s (Base.Members member) = Members (members_of s member)
look s (Base.Table name) = Table (table_of s name)
look s (Base.Grants table) = Grants (grants_of s table)
look s (Base.Policies table) = Policies (policies_of s table)
look s (Base.Row table id) = Row (row_at s table id)

-- as far as objects tell contents apart: a row with its key
abbrev pub keyed_in : Content → Option Keyed
keyed_in (Row content) = content
keyed_in _ = None

-- whether the object shows the content at the place
abbrev pub shows_content : Object → Base → Content → Bool
shows_content object place content = shows object place (keyed_in content)

-- what the change says of what stood at its place: of a catalogue object nothing
abbrev pub was_of : Change → Content
was_of change = Row (before_of change)

-- what it leaves there
abbrev pub now_of : Change → Content
now_of (c.Role name def) = Role (Some def)
now_of (c.Members member content) = Members content
now_of (c.Table name def) = Table (Some def)
now_of (c.Grants table content) = Grants content
now_of (c.Policies table content) = Policies content
now_of (c.Row row) = Row row.after

-- the places are the same
abbrev pub is_place : Base → Base → Bool
is_place (Base.Role name) (Base.Role other) = is_at (name_order name) other
is_place (Base.Members name) (Base.Members other) = is_at (name_order name) other
is_place (Base.Table name) (Base.Table other) = is_at (name_order name) other
is_place (Base.Grants name) (Base.Grants other) = is_at (name_order name) other
is_place (Base.Policies name) (Base.Policies other) = is_at (name_order name) other
is_place (Base.Row table id) (Base.Row other number) = is_at (name_order table) other && is_same_id id number
is_place _ _ = false

-- both changes write some object
abbrev pub write_one : Change → Change → Bool
write_one change other = list_any (λ object. is_written object other) (writes change)
