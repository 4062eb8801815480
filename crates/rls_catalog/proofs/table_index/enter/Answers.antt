use Rattle.std.proofs.Common.{ap, sym, ◌∙◌, subst}
use Rattle.std.proofs.lemmas.Result.{on_ok_weaker}
use Rattle.std.specs.BTreeMap.{insert_entry}
use Rattle.rls_catalog.specs.KeyIndex.{Reindexed, has_key, index_order}
use Rattle.rls_catalog.proofs.IndexLemmas.{came, empty_has_none, stays}
use Rattle.rls_catalog.proofs.table_index.enter.Goals as goal

pub returns-then-is_empty-clause-reindexed : goal.returns-then-is_empty-clause-reindexed
returns-then-is_empty-clause-reindexed c =
    stays c.args.id c.args.after.now c.args.index.now
    (λ key. c.requires.gone key ∙ sym (ap (has_key key) c.in-Some.is ∙ empty_has_none key c.in-Some.keyed (sym c.is_empty.ensures ∙ c.if-is_empty.true)))

pub returns-in_ok-key-in-Some-clause-reindexed : goal.returns-in_ok-key-in-Some-clause-reindexed
returns-in_ok-key-in-Some-clause-reindexed c =
    on_ok_weaker c.insert.result
    (λ put. subst (Reindexed c.args.id c.args.after.now c.args.index.now)
    (sym (put ∙ ap (λ key. insert_entry index_order c.args.index.now (record { key = key; id = c.args.id }) tt) c.in_ok-key-in-Some.ensures))
    (subst (λ content. Reindexed c.args.id content c.args.index.now (insert_entry index_order c.args.index.now (record { key = c.in-Some.keyed.key; id = c.args.id }) tt)) (sym c.in-Some.is)
    (came c.args.id c.in-Some.keyed c.args.index.now (sym c.is_empty.ensures ∙ c.if-is_empty.false) c.requires.gone)))
    c.insert.ensures.ok

pub returns-in-None-clause-reindexed : goal.returns-in-None-clause-reindexed
returns-in-None-clause-reindexed c =
    stays c.args.id c.args.after.now c.args.index.now (λ key. c.requires.gone key ∙ sym (ap (has_key key) c.in-None.is))
