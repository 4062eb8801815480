use Rattle.std.specs.Prelude.{List}
use Rattle.std.proofs.Common.{sym, subst}
use Rattle.rls_conflict.specs.declared.committed.Committed.{Committed}
use Rattle.rls_conflict.specs.Kept.{AreEntries}
use Rattle.rls_conflict.proofs.conflicts.Conflicts.order.Goals as goal

pub ordered-requires-clause-entries : goal.ordered-requires-clause-entries
ordered-requires-clause-entries c = subst (λ (committed : List Committed). AreEntries committed) (sym c.as_slice.ensures.value) c.self.invariant.entries
