use Rattle.rls_siread.proofs.PlainLaws.{first_noted}
use Rattle.rls_siread.proofs.notes.Noted.is_first.Goals as goal

pub returns-then-is_empty : goal.returns-then-is_empty
returns-then-is_empty c = λ plain. first_noted c.args.limit c.args.self.now.objects c.args.reads.now (c.is_empty.ensures c.if-is_empty.true) (c.is_plain.ensures plain) c.iter-in_order.ensures.ordered
