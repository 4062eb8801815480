use Rattle.rls_siread.proofs.PlainLaws.{fresh_noted}
use Rattle.rls_siread.proofs.notes.are_plain.Goals as goal

pub returns-clause-plain : goal.returns-clause-plain
returns-clause-plain c = λ plain. fresh_noted c.args.limit c.args.noted.now c.args.reads.now c.args.fresh.now c.iter-in_order.ensures.ordered c.requires (c.stay_plain.ensures.plain plain)
