use Rattle.std.specs.Prelude.{◌≡◌, ◌<◌, ℕ, true, false, length, get_or, set}
use Rattle.std.proofs.Common.{sym, subst}
use Rattle.rls_check.specs.Placing.{IsPlacing}
use Rattle.rls_check.proofs.PlacingLemmas.{goes_on}
use Rattle.rls_check.proofs.ordering.Placing.place.Goals as goal

pub returns-clause-placing : goal.returns-clause-placing
returns-clause-placing c =
    let now = c.first_left-self.result in
    let placed = c.args.self.now.placed.items in
    subst (IsPlacing c.args.transactions.now (set placed c.args.place true) now) (sym c.in_ok-push.ensures.items)
    (goes_on c.args.transactions.now placed c.args.self.now.left c.args.self.now.places.items c.args.place now c.requires.placing c.requires.within c.requires.is_left c.requires.snap
    (subst (λ bs. (i : ℕ) → i < now → get_or bs i false ≡ true) c.as_slice.ensures.value c.first_left-self.ensures.before)
    (subst (λ bs. now < length bs → get_or bs now false ≡ false) c.as_slice.ensures.value c.first_left-self.ensures.is_left))
