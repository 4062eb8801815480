-- A transaction that runs: how many had committed when it began, and its changes.
use Rattle.std.specs.Prelude.{◌≡◌, ℕ, min, List, [], ◌∷◌, ◌++◌, Option, refl}
use Rattle.std.specs.List.{list_any}
use Rattle.std.specs.BTreeMap.{is_at}
use Rattle.std.specs.Map.{lookup}
use Rattle.std.specs.Ordering.{nat_cmp}
use Rattle.std.specs.Coded.{Coded, code_by, coded×, coded_list, coded_ℕ}
use Rattle.rls_value.specs.declared.object.Object.{Object}
use Rattle.rls_catalog.specs.declared.change.Change.{Change}
use Rattle.rls_catalog.specs.Bases.{covers_any}
use Rattle.rls_source.specs.Footprints.{is_among}
use Rattle.rls_catalog.specs.contracts.change.Change as change

-- how many had committed when it began, and its changes so far
pub record Begun : Type 0 where
  pub snap : ℕ
  pub changes : List Change

-- one that has changed nothing
abbrev pub begun_at : ℕ → Begun
begun_at snap = record { snap = snap; changes = [] }

-- with more changes behind its own
abbrev pub with_changes : List Change → Begun → Begun
with_changes more it = record { snap = it.snap; changes = it.changes ++ more }

-- the one of that number among entries in the order of their numbers
abbrev pub at_number : {X : Type 0} → ℕ → List (ℕ × X) → Option X
at_number txn entries = lookup (is_at (nat_cmp txn)) entries

-- the least of the number and of how many had committed when each began
abbrev pub least_snap : ℕ → List Begun → ℕ
least_snap least [] = least
least_snap least (it ∷ more) = least_snap (min least it.snap) more

-- an object is in one of the parts exactly where one of the changes covers it
abbrev pub AreParts : List (List Object) → List Change → Type 0
AreParts parts changes = (object : Object) → list_any (λ part. is_among part object) parts ≡ covers_any object changes

-- the code of such a transaction
abbrev pub begun_code : Coded Begun
begun_code = code_by (ℕ × List Change) (coded× coded_ℕ (coded_list change.the_row.coded)) (λ b. (b.snap, b.changes)) (λ p. record { snap = p.0; changes = p.1 }) (λ _. refl)
