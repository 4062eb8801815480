use Rattle.rls_guard.specs.Effects.{changes_of}
use Rattle.rls_access.specs.Leaving.{GoOn}
use Rattle.rls_access.specs.Statements.{effect_in}
use Rattle.rls_access.proofs.rows_laws.numbers_go_on.Goals as goal

-- by the changes, which go on
pub returns-clause-next : goal.returns-clause-next
returns-clause-next c s ctx asked sound free =
    let on : GoOn s ctx (changes_of (effect_in s ctx asked)) = c.changes_go_on.ensures s ctx asked sound free in
    c.numbers_stay_free.ensures.own s ctx.txn ctx.next (changes_of (effect_in s ctx asked)) on.fit on.numbered free

pub returns-clause-others : goal.returns-clause-others
returns-clause-others c s ctx asked other from sound free differ others =
    let on : GoOn s ctx (changes_of (effect_in s ctx asked)) = c.changes_go_on.ensures s ctx asked sound free in
    c.numbers_stay_free.ensures.others s ctx.txn ctx.next (changes_of (effect_in s ctx asked)) other from on.fit on.numbered differ others
