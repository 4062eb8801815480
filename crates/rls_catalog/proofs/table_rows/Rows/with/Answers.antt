use Rattle.std.proofs.Common.{sym, subst}
use Rattle.rls_catalog.specs.KeyIndex.{Indexes}
use Rattle.rls_catalog.proofs.IndexLemmas.{indexes_with}
use Rattle.rls_catalog.proofs.table_rows.Rows.with.Goals as goal

pub invariant_of-result : goal.invariant_of-result
invariant_of-result c = (
  subst (Indexes c.reindex.new.index) (sym c.in_ok-put.ensures)
      (indexes_with c.args.id c.args.content.now c.self.inside.rows c.self.inside.index c.reindex.new.index c.get.ensures.ordered c.self.invariant.0 c.in_ok-reindex.ensures.reindexed),
  c.in_ok-reindex.ensures.ordered,
)
