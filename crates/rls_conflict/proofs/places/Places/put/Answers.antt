use Rattle.std.specs.Prelude.{ℕ, List, ◌||◌, nat_eq}
use Rattle.std.proofs.Common.{ap, ◌∙◌}
use Rattle.rls_conflict.specs.Commits.{is_place_in}
use Rattle.rls_conflict.proofs.PlaceListLemmas.{place_put}
use Rattle.rls_conflict.proofs.places.Places.put.Goals as goal

pub returns : goal.returns
returns c other =
    ap (λ (places : List ℕ). is_place_in places other) c.in_ok-insert.ensures.keys
    ∙ place_put c.self.inside.places.keys c.args.place other
    ∙ ap (λ (places : List ℕ). nat_eq other c.args.place || is_place_in places other) c.self.view_is
