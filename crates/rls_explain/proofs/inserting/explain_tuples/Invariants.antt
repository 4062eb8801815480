use Rattle.std.proofs.Common.{◌≡◌, ◌≤◌, ◌+◌, ◌++◌, drop, length}
use Rattle.rls_meaning.specs.rls_guard.specs.rls_evaluation.specs.Showing.{shows}
use Rattle.rls_explain.specs.Found.{tuples_found}
use Rattle.rls_explain.proofs.inserting.explain_tuples.Given as goal

-- what is explained so far, and what of the tuples that are left, is all; there are numbers for them
abbrev pub invariant-loop-tuple : goal.invariant-loop-tuple
invariant-loop-tuple l =
    let found = tuples_found l.catalog (shows l.context.relations.now l.context.role.now) l.context.role.now l.context.row_checks.now l.columns l.parts.places.items l.wanted l.ctx.txn in
    record {
      told : l.explained.items ++ found l.n (drop l.tuple-index l.parts.tuples) ≡ found l.ctx.next l.parts.tuples;
      count : l.n + length (drop l.tuple-index l.parts.tuples) ≤ 4294967295;
    }
