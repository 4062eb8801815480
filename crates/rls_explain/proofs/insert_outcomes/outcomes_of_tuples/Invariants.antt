use Rattle.std.proofs.Common.{◌≡◌, ◌≤◌, ◌+◌, ◌++◌, drop, length}
use Rattle.rls_meaning.specs.rls_guard.specs.rls_evaluation.specs.Showing.{shows}
use Rattle.rls_explain.specs.FoundOutcomes.{tells_new, tuple_written, tuples_told}
use Rattle.rls_explain.proofs.insert_outcomes.outcomes_of_tuples.Given as goal

-- what is told so far, and of the tuples that are left, is all; there are numbers for them
abbrev pub invariant-loop-tuple : goal.invariant-loop-tuple
invariant-loop-tuple l =
    let s = l.catalog in
    let role = l.context.role.now in
    let sees = shows l.context.relations.now role in
    let told = tuples_told (tells_new s sees role l.context.row_checks.now l.from.name.now l.ended.returning l.ended.done) (tuple_written s sees role l.from.table.now.columns l.parts.places.items) l.ctx.txn in
    record {
      told : l.outcomes.items ++ told l.n (drop l.tuple-index l.parts.tuples) ≡ told l.ctx.next l.parts.tuples;
      count : l.n + length (drop l.tuple-index l.parts.tuples) ≤ 4294967295;
    }
