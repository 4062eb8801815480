-- The objects that changes write, and those that they cover: those that they write, and the rows of each table of which a
-- row changes.
use Rattle.std.specs.Prelude.{List, [], ◌∷◌, ◌++◌}
use Rattle.rls_value.specs.declared.object.Object.{Object}
use Rattle.rls_value.specs.declared.object.Object.TheVariants.{Rows}
use Rattle.rls_catalog.specs.declared.change.Change.{Change}
use Rattle.rls_catalog.specs.declared.change.Change.TheVariants.{Row}
use Rattle.rls_catalog.specs.Writes.{writes}
use Rattle.rls_source.specs.Footprints.{footprint_of}

-- the rows of the table, where it is a row that changes
abbrev pub rows_changed : Change → List Object
rows_changed (Row row) = Rows row.table ∷ []
rows_changed _ = []

-- the objects that are covered by the change
abbrev pub covered_by : Change → List Object
covered_by change = writes change ++ rows_changed change

-- the objects that are written by one of the changes
abbrev pub written_by_all : List Change → List Object
written_by_all [] = []
written_by_all (change ∷ changes) = writes change ++ written_by_all changes

-- the objects that are covered by one of the changes
abbrev pub covered_by_all : List Change → List Object
covered_by_all [] = []
covered_by_all (change ∷ changes) = covered_by change ++ covered_by_all changes

-- those written, each once, in the order of objects
abbrev pub written_of : List Change → List Object
written_of changes = footprint_of (written_by_all changes)

-- those covered, each once, in the order of objects
abbrev pub covered_of : List Change → List Object
covered_of changes = footprint_of (covered_by_all changes)
