-- Names that are listed, and the set of them.
use Rattle.std.specs.Prelude.{◌≡◌, ℕ, List}
use Rattle.std.specs.BTreeSet.{BTreeSet, contains}
use Rattle.rls_value.specs.Names.{one_of}
use Rattle.rls_verdict.specs.rls_catalog.specs.State.{name_order}

-- the set has the names of the list, and no others
abbrev pub IsSetOf : BTreeSet (List ℕ) → List (List ℕ) → Type 0
IsSetOf seen names = (name : List ℕ) → contains name_order seen name ≡ one_of names name
