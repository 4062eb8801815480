use Rattle.rls_siread.proofs.IndexLaws.{gone_at}
use Rattle.rls_siread.proofs.index.Index.drop_place.Goals as goal

pub returns : goal.returns
returns c = gone_at c.args.self.now.holders.entries c.remove.new.self.entries c.args.object.now c.len-in_order.ensures.ordered c.remove.ensures.ordered c.remove.ensures.updates.0 c.requires
