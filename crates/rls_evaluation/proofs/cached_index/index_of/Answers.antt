use Rattle.rls_evaluation.proofs.CachedIndexLemmas.{index_more}
use Rattle.rls_evaluation.proofs.cached_index.index_of.Goals as goal

pub loop-row-preserved : goal.loop-row-preserved
loop-row-preserved c =
    index_more c.args.columns.now c.args.rows.now c.loop-row.row-index c.row-item.result c.loop-row.by_values.entries c.put_row.new.by_values.entries c.loop-row-test.true c.row-item.is c.in_ok-put_row.ensures c.loop-row.invariant
