-- What the test of a transaction that commits now is given, and what it finds.
use Rattle.std.specs.Prelude.{◌≡◌, ◌≤◌, ℕ, List, [], ◌∷◌, ◌++◌, length}
use Rattle.rls_siread.specs.Covering.{covered_of}
use Rattle.rls_history.specs.Structures.{IsStructure}
use Rattle.rls_conflict.specs.declared.committed.Committed.{Committed}
use Rattle.rls_conflict.specs.declared.ready.Ready.{Ready}
use Rattle.rls_conflict.specs.Transactions.{Transaction, history_of}
use Rattle.rls_conflict.specs.Commits.{AreReadBy, AreReadersOf}
use Rattle.rls_conflict.specs.Kept.{all_committed}

-- the committed ones, and one that commits last
abbrev pub with_last : List Committed → Transaction → List Transaction
with_last committed last = all_committed committed ++ last ∷ []

-- what is ready has the covered objects and the rw-antidependencies of its transaction
pub record HasEdges (committed : List Committed) (ready : Ready) : Type 0 where
  pub covered : ready.covered ≡ covered_of ready.transaction.changes
  pub read : AreReadBy (with_last committed ready.transaction) (length committed) ready.read.items
  pub readers : AreReadersOf (with_last committed ready.transaction) (length committed) ready.readers.items

-- it is the pivot of no structure
abbrev pub IsNoPivot : List Transaction → ℕ → Type 0
IsNoPivot transactions place = (first last : ℕ) → first ≤ place → IsStructure (history_of transactions) first place last → ⊥

-- it is the first of no structure
abbrev pub IsNoFirst : List Transaction → ℕ → Type 0
IsNoFirst transactions place = (pivot last : ℕ) → pivot ≤ place → IsStructure (history_of transactions) place pivot last → ⊥
