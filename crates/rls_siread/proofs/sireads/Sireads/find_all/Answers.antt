use Rattle.std.specs.Prelude.{◌≡◌, ◌∷◌, ℕ, List}
use Rattle.std.specs.Map.Iter.{deref}
use Rattle.std.proofs.Common.{ap, sym, ◌∙◌}
use Rattle.std.proofs.lemmas.Map.Iter.{rest_more}
use Rattle.rls_siread.specs.Locks.{all_arrived, with_holders}
use Rattle.rls_siread.proofs.sireads.Sireads.find_all.Goals as goal

pub loop-object-preserved : goal.loop-object-preserved
loop-object-preserved c =
    let first : c.loop-object.object-iterator ≡ c.in-Some.object.now ∷ c.next.new.self = rest_more deref c.loop-object.object-iterator c.next.new.self c.next.result c.in-Some.object c.in-Some.is c.next.ensures.steps in
    ap (λ (txns : List ℕ). with_holders c.args.self.now.holders txns c.next.new.self) (c.in_ok-add_all.ensures ∙ ap (all_arrived c.loop-object.found.txns) c.held.ensures)
    ∙ ap (with_holders c.args.self.now.holders c.loop-object.found.txns) (sym first)
    ∙ c.loop-object.invariant
