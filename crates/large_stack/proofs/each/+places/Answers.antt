use Rattle.large_stack.proofs.PlacesLemmas.{back_accepts, both_change}
use Rattle.large_stack.proofs.each.+places.Goals as goal

pub each_from-first_apart-requires-clause-rest : goal.each_from-first_apart-requires-clause-rest
each_from-first_apart-requires-clause-rest g t c κs within =
    let cut = c.split_at_mut-first in back_accepts g.F.Fn c.args.f.now c.args.base c.args.s.now _ _ cut.ensures.value cut.ensures.front_len c.requires

pub each_from-returns : goal.each_from-returns
each_from-returns g t c =
    let cut = c.split_at_mut-first in
    both_change g.F.Fn c.args.f.now c.args.base c.args.s.now _ _ _ _ cut.ensures.value cut.ensures.front_len c.first_apart.ensures.first c.first_apart.ensures.rest
