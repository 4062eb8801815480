-- Where a transaction stands in its audit.
use Rattle.std.specs.Prelude.{ℕ, suc, ◌+◌, nat_eq, List, [], ◌∷◌, length, Option, Some, None, if◌then◌else◌}
use Rattle.rls_check.specs.declared.placed.Placed.{Placed}
use Rattle.rls_check.specs.declared.transaction.Transaction.{Transaction}
use Rattle.rls_check.specs.Audited.{transaction_at}

-- the place of the first transaction of that number in the order of commits
abbrev pub commit_from : ℕ → List Transaction → ℕ → Option ℕ
commit_from n [] txn = None
commit_from n (it ∷ more) txn = if nat_eq it.txn txn then Some n else commit_from (suc n) more txn

-- the first place of the number
abbrev pub place_from : ℕ → List ℕ → ℕ → Option ℕ
place_from n [] txn = None
place_from n (number ∷ numbers) txn = if nat_eq number txn then Some n else place_from (suc n) numbers txn

-- who ran it, its commit and its place in the serial order, both from 1
abbrev pub placed_at : List Transaction → List ℕ → Option ℕ → Option ℕ → Option Placed
placed_at transactions numbers (Some commit) (Some place) = Some (record { login = (transaction_at transactions commit).begin.login; commit = commit + 1; place = place + 1; count = length numbers })
placed_at transactions numbers _ _ = None

-- the transaction of that number
abbrev pub placed_in : List Transaction → List ℕ → ℕ → Option Placed
placed_in transactions numbers txn = placed_at transactions numbers (commit_from 0 transactions txn) (place_from 0 numbers txn)
