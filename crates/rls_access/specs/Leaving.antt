-- What the changes of a statement have to do with the state that it is run in, and with the numbers of its transaction.
use Rattle.std.specs.Prelude.{List}
use Rattle.rls_guard.specs.rls_catalog.specs.declared.change.Change.{Change}
use Rattle.rls_guard.specs.rls_catalog.specs.Bases.{FitsAll}
use Rattle.rls_guard.specs.rls_catalog.specs.State.{State}
use Rattle.rls_guard.specs.declared.context.Ctx.{Ctx}
use Rattle.rls_dml.specs.NextRows.{InRange, NumberOn}

-- each change names as before what the earlier ones leave at its place, and new rows are numbered on from the
-- transaction's next, within the range of numbers
pub record GoOn (s : State) (ctx : Ctx) (changes : List Change) : Type 0 where
  pub fit : FitsAll s changes
  pub numbered : NumberOn ctx.txn ctx.next changes
  pub in_range : InRange ctx.next changes
