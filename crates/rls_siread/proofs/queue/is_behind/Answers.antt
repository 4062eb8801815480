use Rattle.std.specs.Option.{is_some}
use Rattle.std.proofs.Common.{ap, sym, ◌∙◌}
use Rattle.rls_siread.proofs.QueueLaws.{left_at, still_absent}
use Rattle.rls_siread.proofs.queue.is_behind.Goals as goal

pub returns-in-Some : goal.returns-in-Some
returns-in-Some c = left_at c.args.gone c.args.set.now.keys c.in-Some.place c.args.txn c.len-distinct.ensures.unique (sym c.get_index_of.ensures.index ∙ c.in-Some.is)

pub returns-in-None : goal.returns-in-None
returns-in-None c = sym (still_absent c.args.gone c.args.set.now.keys c.args.txn (sym c.get_index_of.ensures.found ∙ ap is_some c.in-None.is))
