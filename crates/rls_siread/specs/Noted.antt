-- How the objects that a transaction noted are kept: its own, or shared with the record of its transaction.
use Rattle.std.specs.Prelude.{List}
use Rattle.rls_value.specs.declared.object.Object.{Object}
use Rattle.rls_siread.specs.declared.notes.Objects.{Objects}
use Rattle.rls_siread.specs.declared.notes.Objects.TheVariants.{Own, Shared}

-- the objects
abbrev pub objects_kept : Objects → List Object
objects_kept (Own objects) = objects
objects_kept (Shared objects) = objects
