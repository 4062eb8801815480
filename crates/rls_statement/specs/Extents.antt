-- What of a table GRANT and REVOKE name privileges for (PostgreSQL manual, GRANT and REVOKE): the whole, and columns.
use Rattle.std.specs.Prelude.{ℕ, List, [], ◌∷◌, ◌++◌, Option, Some, None, Bool, true, false, ◌||◌, if◌then◌else◌, map, is_some, slice_get}
use Rattle.std.specs.Option.{option_map_or}
use Rattle.rls_expr.specs.rls_value.specs.{Names.one_of, declared.verb.Privilege.Privilege}
use Rattle.rls_expr.specs.rls_value.specs.declared.verb.Privilege.TheVariants as p
use Rattle.rls_statement.specs.declared.privileges.Extent.{Extent}
use Rattle.rls_statement.specs.declared.privileges.Privileges.{Privileges}

-- a list of columns is written
abbrev pub has_list : Extent → Bool
has_list extent = is_some (slice_get extent.columns 0)

-- the whole is named, or a column
abbrev pub names_some : Extent → Bool
names_some extent = extent.whole || has_list extent

-- what a privilege is named for: DELETE for the whole, or nothing
abbrev pub extent_of : Privileges → Privilege → Extent
extent_of named p.Select = named.select
extent_of named p.Insert = named.insert
extent_of named p.Update = named.update
extent_of named p.Delete = record { whole = named.delete; columns = [] }

-- whether the privilege is named
abbrev pub is_named : Privileges → Privilege → Bool
is_named named privilege = names_some (extent_of named privilege)

-- a list of columns is written for some privilege
abbrev pub has_columns : Privileges → Bool
has_columns named = has_list named.select || (has_list named.insert || has_list named.update)

-- what is granted: on the table as a whole, where it is named so, then on each column
abbrev pub granted_on : Extent → List (Option (List ℕ))
granted_on extent = (if extent.whole then None ∷ [] else []) ++ map Some extent.columns

-- what is revoked: of the whole the grants on columns too; of columns those alone
abbrev pub takes_from : Extent → Option (List ℕ) → Bool
takes_from extent column = extent.whole || option_map_or (one_of extent.columns) column false
