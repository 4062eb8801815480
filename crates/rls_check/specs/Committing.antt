-- How far the committed state is made while the transactions run in another order.
use Rattle.std.specs.Prelude.{◌≡◌, ℕ, List, length}
use Rattle.rls_catalog.specs.declared.change.Change.{Change}
use Rattle.rls_catalog.specs.Changed.{opening}
use Rattle.rls_history.specs.Orders.{placed_by, none_placed}
use Rattle.rls_check.specs.declared.transaction.Transaction.{Transaction}
use Rattle.rls_agreement.specs.declared.committing.Committing.{Committing}
use Rattle.rls_check.specs.declared.running.RanAlong.{RanAlong}
use Rattle.rls_check.specs.declared.running.RanAlong.TheVariants as along
use Rattle.rls_check.specs.Checking.{RunsAlong}
use Rattle.rls_agreement.specs.Committing.{IsCommitting, no_changes}

-- what was changed is put on or waits, where all have run and come to what is shown
abbrev pub AreCommitted : RanAlong → List ℕ → List (List Change) → Committing → Type 0
AreCommitted (along.Agrees s) places deltas it = IsCommitting deltas (placed_by none_placed places) it
AreCommitted (along.Differs found) places deltas it = Unit {0}

-- the transactions have run along the order
pub record HasRunAlong (transactions : List Transaction) (places : List ℕ) (ran : RanAlong) (it : Committing) : Type 0 where
  pub deltas : List (List Change)
  pub size : length deltas ≡ length transactions
  pub runs : RunsAlong transactions opening (no_changes (length transactions)) places ran deltas
  pub committed : AreCommitted ran places deltas it
