-- Each row is stored with the values at the places of its table's primary key.
use Rattle.std.specs.Prelude.{◌≡◌, ℕ, List}
use Rattle.std.specs.List.{All}
use Rattle.rls_guard.specs.rls_catalog.specs.declared.stored.Stored.{Stored}
use Rattle.rls_dml.specs.Writing.{key_at}

-- the key that each row is stored with is its own
abbrev pub CarryKeys : List ℕ → List Stored → Type 0
CarryKeys places rows = All (λ stored. stored.key ≡ key_at places stored.row) rows
