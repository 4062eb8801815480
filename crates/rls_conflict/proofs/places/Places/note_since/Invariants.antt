use Rattle.std.proofs.Common.{◌≡◌, ℕ, ◌&&◌}
use Rattle.std.specs.Prelude.{◌||◌, nat_lt}
use Rattle.rls_conflict.specs.Commits.{is_place_in}
use Rattle.rls_conflict.specs.Concurrent.{has_accessed, holds_since}
use Rattle.rls_conflict.proofs.places.Places.note_since.Given as goal

-- the places of those so far
abbrev pub invariant-loop-place : goal.invariant-loop-place
invariant-loop-place l = (other : ℕ) → is_place_in l.self other ≡ (is_place_in l.fn.self other || (nat_lt other l.place && holds_since (has_accessed l.access l.object) l.committed l.snap other))
