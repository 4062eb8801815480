use Rattle.std.proofs.Common.{◌+◌, slice_index_or, refl, subst, arith}
use Rattle.std.specs.Fork.{ChangesAt}
use Rattle.large_stack.proofs.each.for_each_mut.Goals as goal

pub returns : goal.returns
returns g c i d below =
    (refl, subst (λ k. ChangesAt g.F.Fn c.args.f.now k (slice_index_or c.args.s.now i d) (slice_index_or c.each_from.new.s i d)) {x = 0 + i} (omega arith) (c.each_from.ensures.each i d below))
