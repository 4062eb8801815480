use Rattle.std.proofs.Common.{◌≡◌, ◌∷◌, [], sym, subst, ap, ◌∙◌}
use Rattle.shared_map.specs.Entries.{Ascend}
use Rattle.shared_map.specs.Left.{entries_left}
use Rattle.shared_map.proofs.Flat.{ascend_after}
use Rattle.shared_map.proofs.iter.IterIterator.next.Goals as goal

pub invariant_of-self : goal.invariant_of-self
invariant_of-self g c =
    let e : c.self.inside.run.now ≡ c.in_ok-entry.entry.now ∷ c.in_ok-entry.rest.now = c.in_ok-entry.ensures.cases.0 in
    let l = ap (entries_left g.K.Ord.cmp c.self.inside.map.now) e ∙ ap (λ l. c.in_ok-entry.entry.now ∷ l) (sym c.run_behind-self-inside.ensures) in
    ascend_after g.K.Ord.cmp (c.in_ok-entry.entry.now ∷ []) _ (subst (Ascend g.K.Ord.cmp) l c.self.invariant)
