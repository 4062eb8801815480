use Rattle.std.proofs.Common.{None, ap, sym, ◌∙◌, subst}
use Rattle.std.proofs.lemmas.Result.{on_ok_weaker}
use Rattle.std.specs.BTreeMap.{is_at}
use Rattle.std.specs.Map.{remove_entry}
use Rattle.std.specs.Option.{option_copied}
use Rattle.rls_catalog.specs.KeyIndex.{Reindexed, has_key, index_order}
use Rattle.rls_catalog.proofs.IndexLemmas.{left, empty_has_none, stays}
use Rattle.rls_catalog.proofs.table_index.leave.Goals as goal

pub returns-then-is_empty-clause-reindexed : goal.returns-then-is_empty-clause-reindexed
returns-then-is_empty-clause-reindexed c =
    stays c.args.id None c.args.index.now
    (λ key. c.requires.stood key ∙ ap (λ before. has_key key (option_copied before)) c.in-Some.is ∙ empty_has_none key c.in-Some.keyed.now (sym c.is_empty.ensures ∙ c.if-is_empty.true))

pub returns-in_ok-key-in-Some-clause-reindexed : goal.returns-in_ok-key-in-Some-clause-reindexed
returns-in_ok-key-in-Some-clause-reindexed c =
    on_ok_weaker c.remove.result
    (λ taken. subst (Reindexed c.args.id None c.args.index.now)
    (sym (taken ∙ ap (λ key. remove_entry (is_at (index_order (record { key = key; id = c.args.id }))) c.args.index.now) c.in_ok-key-in-Some.ensures))
    (left c.args.id c.in-Some.keyed.now c.args.index.now c.requires.ordered (λ key. c.requires.stood key ∙ ap (λ before. has_key key (option_copied before)) c.in-Some.is)))
    c.remove.ensures.ok

pub returns-in-None-clause-reindexed : goal.returns-in-None-clause-reindexed
returns-in-None-clause-reindexed c =
    stays c.args.id None c.args.index.now (λ key. c.requires.stood key ∙ ap (λ before. has_key key (option_copied before)) c.in-None.is)
