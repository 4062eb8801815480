use Rattle.std.proofs.Common.{◌≡◌, ℕ, take}
use Rattle.std.specs.Prelude.{◌||◌}
use Rattle.rls_conflict.specs.Commits.{is_place_in}
use Rattle.rls_conflict.specs.Concurrent.{is_place_of}
use Rattle.rls_conflict.proofs.places.Places.note_all.Given as goal

-- the places of those so far
abbrev pub invariant-loop-number : goal.invariant-loop-number
invariant-loop-number l = (place : ℕ) → is_place_in l.self place ≡ (is_place_in l.fn.self place || is_place_of l.sireads l.snap (take l.number-index l.numbers) place)
