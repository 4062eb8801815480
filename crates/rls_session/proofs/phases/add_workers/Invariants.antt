use Rattle.std.proofs.Common.{◌≡◌, ◌≤◌, vec_len, vec_capacity}
use Rattle.rls_session.specs.Phases.{opening_seats}
use Rattle.rls_session.specs.Works.{work_seats}
use Rattle.rls_session.proofs.phases.add_workers.Given as goal

-- one seat a turn; there is room for 65
abbrev pub invariant-loop-place : goal.invariant-loop-place
invariant-loop-place g l = (work_seats l.workers.items ≡ opening_seats l.names l.place) × (vec_len l.workers ≡ l.place) × (65 ≤ vec_capacity l.workers)
