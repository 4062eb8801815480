use Rattle.std.proofs.Common.{◌≡◌, ◌++◌, List, map}
use Rattle.std.specs.Vec.Iter.{into_iter_items}
use Rattle.rls_catalog.specs.declared.change.Change.{Change}
use Rattle.rls_check.specs.Snapshots.{AreKeptAfter, begun_in}
use Rattle.rls_check.proofs.snapshots.begin_all.Given as goal

-- those so far and those that are left are all
abbrev pub invariant-loop-attempt : goal.invariant-loop-attempt
invariant-loop-attempt l = (deltas : List (List Change)) → AreKeptAfter deltas l.kept → l.begun.items ++ map (begun_in deltas) (into_iter_items l.attempt-iterator) ≡ map (begun_in deltas) l.fn.attempts
