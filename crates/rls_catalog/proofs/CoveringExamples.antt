-- Worked examples of coverage. Each is a theorem that computes.
use Rattle.std.specs.Prelude.{◌≡◌, refl, ℕ, pos, List, [], ◌∷◌, Some, None, true, false, codes}
use Rattle.rls_expr.specs.rls_value.specs.declared.row.RowId.{RowId}
use Rattle.rls_expr.specs.rls_value.specs.declared.value.Value.{Value}
use Rattle.rls_expr.specs.rls_value.specs.declared.value.Value.TheVariants as v
use Rattle.rls_expr.specs.rls_value.specs.declared.object.Object.TheVariants as o
use Rattle.rls_catalog.specs.declared.stored.Keyed.{Keyed}
use Rattle.rls_catalog.specs.declared.change.Change.{Change}
use Rattle.rls_catalog.specs.declared.change.Change.TheVariants as c
use Rattle.rls_catalog.specs.State.{State, rows_with_key}
use Rattle.rls_catalog.specs.Changed.{opening, changed}
use Rattle.rls_catalog.specs.Bases.{covers, Fits}

abbrev key : ℕ → List Value
key n = v.Int (pos n) ∷ []

abbrev keyed : ℕ → Keyed
keyed n = record { key = key n; row = key n }

abbrev number : ℕ → RowId
number n = record { txn = 5; n = n }

-- the row of t whose key was 1 gets the key 2
abbrev moved : Change
moved = c.Row (record { table = codes "t"; id = number 0; before = Some (keyed 1); after = Some (keyed 2) })

-- that is a change of the old key, of the new one, of the rows of t, and of the row
old_key_covered : covers (o.Key (codes "t") (key 1)) moved ≡ true
old_key_covered = refl

new_key_covered : covers (o.Key (codes "t") (key 2)) moved ≡ true
new_key_covered = refl

rows_covered : covers (o.Rows (codes "t")) moved ≡ true
rows_covered = refl

row_covered : covers (o.RowOf (codes "t") (number 0)) moved ≡ true
row_covered = refl

-- not of another key, of another row, of another table's rows and keys, of the table itself
other_key_uncovered : covers (o.Key (codes "t") (key 3)) moved ≡ false
other_key_uncovered = refl

other_row_uncovered : covers (o.RowOf (codes "t") (number 1)) moved ≡ false
other_row_uncovered = refl

other_rows_uncovered : covers (o.Rows (codes "u")) moved ≡ false
other_rows_uncovered = refl

key_elsewhere_uncovered : covers (o.Key (codes "u") (key 1)) moved ≡ false
key_elsewhere_uncovered = refl

table_uncovered : covers (o.Table (codes "t")) moved ≡ false
table_uncovered = refl

-- a new row with the key 2 covers that key, where no such row was
abbrev added : Change
added = c.Row (record { table = codes "t"; id = number 1; before = None; after = Some (keyed 2) })

absent_key_covered : covers (o.Key (codes "t") (key 2)) added ≡ true
absent_key_covered = refl

-- new grants on t are a change of the grants on t alone
abbrev no_grants : Change
no_grants = c.Grants (codes "t") []

grants_covered : covers (o.Grants (codes "t")) no_grants ≡ true
grants_covered = refl

policies_uncovered : covers (o.Policies (codes "t")) no_grants ≡ false
policies_uncovered = refl

-- the state in which that row has the key 1: the change fits it, and takes the key 1 away
abbrev before_moved : State
before_moved = changed opening (c.Row (record { table = codes "t"; id = number 0; before = None; after = Some (keyed 1) }))

moved_fits : Fits before_moved moved
moved_fits = refl

key_taken : rows_with_key (changed before_moved moved) (codes "t") (key 1) ≡ []
key_taken = refl
