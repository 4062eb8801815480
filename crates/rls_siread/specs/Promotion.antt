-- Promotion: where a transaction noted many keys of one table, or all of its rows, the table's rows stand for its keys.
-- It widens what is noted, and bounds how much of it is kept (Ports and Grittner, VLDB 2012, 5.2, granularity of locks).
use Rattle.std.specs.Prelude.{ℕ, List, ◌||◌, ◌&&◌, Bool, true, false, not, nat_lt, nat_le, map, filter, length, if◌then◌else◌}
use Rattle.std.specs.List.{list_any}
use Rattle.std.specs.Str.{bytes_eq}
use Rattle.rls_value.specs.declared.object.Object.{Object}
use Rattle.rls_value.specs.declared.object.Object.TheVariants.{Rows, Key}
use Rattle.rls_source.specs.Footprints.{with_reads, footprint_of, is_among}

-- the object is a key of the table
abbrev pub is_key_of : List ℕ → Object → Bool
is_key_of table (Key other key) = bytes_eq table other
is_key_of table _ = false

-- all rows of the table are noted, or more than the limit of its keys
abbrev pub is_crowded : ℕ → List Object → List ℕ → Bool
is_crowded limit objects table = is_among objects (Rows table) || nat_lt limit (length (filter (is_key_of table) objects))

-- what stands for the object
abbrev pub stands_for : ℕ → List Object → Object → Object
stands_for limit objects (Key table key) = if is_crowded limit objects table then Rows table else Key table key
stands_for limit objects object = object

-- the objects, with the rows of each crowded table in place of its keys
abbrev pub promoted : ℕ → List Object → List Object
promoted limit objects = footprint_of (map (stands_for limit objects) objects)

-- what is noted once more was read
abbrev pub noted_with : ℕ → List Object → List Object → List Object
noted_with limit objects reads = promoted limit (with_reads objects reads)

-- the object is all rows of a table
abbrev pub is_rows : Object → Bool
is_rows (Rows table) = true
is_rows _ = false

-- the object is a key of a table
abbrev pub is_key : Object → Bool
is_key (Key table key) = true
is_key _ = false

-- no table is crowded for whose keys its rows would stand: there is no key; or no more keys than the limit, and no rows of a table
abbrev pub is_plain : ℕ → List Object → Bool
is_plain limit objects = not (list_any is_key objects) || (nat_le (length (filter is_key objects)) limit && not (list_any is_rows objects))
