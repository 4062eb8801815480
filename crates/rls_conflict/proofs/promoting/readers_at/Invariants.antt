use Rattle.std.proofs.Common.{◌≡◌, ℕ, ◌&&◌}
use Rattle.std.specs.Prelude.{nat_lt}
use Rattle.rls_history.specs.History.{rw}
use Rattle.rls_conflict.specs.Transactions.{history_of}
use Rattle.rls_conflict.specs.Commits.{is_place_in}
use Rattle.rls_conflict.proofs.promoting.readers_at.Given as goal

-- those so far that read from the one at the place
abbrev pub invariant-loop-other : goal.invariant-loop-other
invariant-loop-other l = (place : ℕ) → is_place_in l.places.items place ≡ (nat_lt place l.other && rw (history_of l.transactions) place l.place)
