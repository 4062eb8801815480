use Rattle.std.specs.Vec.{vec_capacity}
use Rattle.rls_core.proofs.NewLemmas.{nothing_kept}
use Rattle.rls_core.proofs.machine.Core.new.Goals as goal

pub invariant_of-result : goal.invariant_of-result
invariant_of-result c =
    nothing_kept c.new.result.items c.new-2.result c.new-4.result.entries c.in_ok-new.field-0.states (vec_capacity c.new.result) c.in_ok-new.field-0.room
    c.new.ensures.items c.new-2.ensures c.new-4.ensures.empty c.in_ok-new.ensures
