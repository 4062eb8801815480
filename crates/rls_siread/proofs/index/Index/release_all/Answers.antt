use Rattle.std.specs.Prelude.{◌≡◌, ◌∷◌, if◌then◌else◌}
use Rattle.std.proofs.Common.{ap, sym, ◌∙◌}
use Rattle.std.specs.Map.Iter.{deref}
use Rattle.std.proofs.lemmas.Map.Iter.{rest_more}
use Rattle.rls_source.specs.Footprints.{is_among}
use Rattle.rls_siread.specs.Locks.{without}
use Rattle.rls_siread.specs.Index.{held_at}
use Rattle.rls_siread.proofs.LocksLaws.{without_twice}
use Rattle.rls_siread.proofs.IndexLaws.{each_next}
use Rattle.rls_siread.proofs.index.Index.release_all.Goals as goal

pub loop-object-preserved : goal.loop-object-preserved
loop-object-preserved c = λ object.
    let first : c.loop-object.object-iterator ≡ c.in-Some.object.now ∷ c.next.new.self = rest_more deref c.loop-object.object-iterator c.next.new.self c.next.result c.in-Some.object c.in-Some.is c.next.ensures.steps in
    each_next (λ txns. without txns c.args.txn) c.loop-object.self.holders.entries c.release.new.self.holders.entries c.in-Some.object.now c.next.new.self (without_twice c.args.txn) c.release.ensures object
    ∙ ap (λ rest. if is_among rest object then without (held_at c.loop-object.self.holders.entries object) c.args.txn else held_at c.loop-object.self.holders.entries object) (sym first)
    ∙ c.loop-object.invariant object
