use Rattle.std.proofs.Common.{rules}
use Rattle.large_stack.proofs.PlacesLemmas.{only_changes}
use Rattle.large_stack.proofs.each.in_place.Goals as goal

pub returns-then-not-is_empty : goal.returns-then-not-is_empty
returns-then-not-is_empty g c = only_changes g.F.Fn c.args.f.now c.args.base c.args.s.now c.index-s-0.result c.at_one.new.it c.requires.one (search rules) c.requires.accepts c.at_one.ensures
