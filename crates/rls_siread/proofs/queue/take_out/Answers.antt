use Rattle.std.specs.Option.{is_some}
use Rattle.std.proofs.Common.{ap, sym, ◌∙◌, arith}
use Rattle.rls_siread.proofs.QueueLaws.{gone_already, not_there, removed_from}
use Rattle.rls_siread.proofs.queue.take_out.Goals as goal

pub returns-then-place-gone-clause-txns : goal.returns-then-place-gone-clause-txns
returns-then-place-gone-clause-txns c =
    gone_already c.args.gone c.args.set.now.keys c.in-Some.place c.args.txn c.len-distinct.ensures.unique (sym c.get_index_of.ensures.index ∙ c.in-Some.is) (omega (arith, c.if-place-gone.true))

pub returns-else-place-gone-clause-txns : goal.returns-else-place-gone-clause-txns
returns-else-place-gone-clause-txns c =
    c.take_at.ensures.txns
    ∙ removed_from c.args.gone c.args.set.now.keys c.in-Some.place c.args.txn c.len-distinct.ensures.unique (sym c.get_index_of.ensures.index ∙ c.in-Some.is) (omega (arith, c.if-place-gone.false))

pub returns-in-None-clause-txns : goal.returns-in-None-clause-txns
returns-in-None-clause-txns c = not_there c.args.gone c.args.set.now.keys c.args.txn (sym c.get_index_of.ensures.found ∙ ap is_some c.in-None.is)
