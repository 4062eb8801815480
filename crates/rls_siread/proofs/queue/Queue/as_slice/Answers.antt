use Rattle.std.specs.List.{IsDistinct}
use Rattle.std.proofs.Common.{◌-◌, arith, drop, length, nat_eq, subst, sym}
use Rattle.std.proofs.lemmas.List.{length-drop, take_all}
use Rattle.rls_siread.proofs.QueueLaws.{still_distinct}
use Rattle.rls_siread.proofs.queue.Queue.as_slice.Goals as goal

pub returns-clause-distinct : goal.returns-clause-distinct
returns-clause-distinct c =
    let all = c.as_slice.result.now in
    let gone = c.self.inside.gone in
    subst (IsDistinct nat_eq) (sym (take_all (length all - gone) (drop gone all) (omega (arith, length-drop gone all))))
    (still_distinct gone all (subst (IsDistinct nat_eq) (sym c.as_slice.ensures.keys) c.as_slice.ensures.unique))
