use Rattle.std.proofs.Common.{◌≡◌, ℕ}
use Rattle.std.specs.Prelude.{◌||◌}
use Rattle.rls_conflict.specs.Commits.{is_place_in}
use Rattle.rls_conflict.specs.Concurrent.{is_place_of_writer}
use Rattle.rls_conflict.proofs.edges.writers_of.Given as goal

-- the places so far, with those of what is left
abbrev pub invariant-loop-object : goal.invariant-loop-object
invariant-loop-object l = (place : ℕ) → (is_place_in l.places place || is_place_of_writer l.writers l.sireads l.snap l.object-iterator place) ≡ is_place_of_writer l.writers l.sireads l.snap l.objects place
