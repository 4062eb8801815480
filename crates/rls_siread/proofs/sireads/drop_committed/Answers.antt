use Rattle.rls_siread.proofs.ForgetLaws.{all_gone, none_indexed}
use Rattle.rls_siread.proofs.sireads.drop_committed.Goals as goal

pub returns-in-None : goal.returns-in-None
returns-in-None c = record {
  indexed = none_indexed c.clear.new.self.holders.entries c.clear-in-None.new.self.entries c.clear.ensures c.clear-in-None.ensures.empty;
  gone = all_gone c.args.last c.args.index.now.holders.entries c.clear.new.self.holders.entries c.args.notes.now.entries c.clear-in-None.new.self.entries c.requires c.in-None.ensures c.clear.ensures c.clear-in-None.ensures.empty;
}
