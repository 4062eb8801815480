-- A worker at an engine crosses threads, part by part.
use denote.RattleType.{RattleType}
use denote.Ref.{NamedLft}
use denote.Param.Send.{IsSend, sendable}
use denote.Param.SendFields.{declared_send, as_row_send}
use Rattle.std.proofs.Crossing as crossing
use Rattle.std.specs.declared.sync.ledger.Ledger as ledger
use Rattle.rls_session.specs.rls_engine.specs.declared.named.Named as named
use Rattle.rls_session.specs.rls_engine.proofs.seen.Seen.TheSendSync as Seen
use Rattle.rls_session.specs.rls_engine.proofs.EngineCrosses.{engine_sync, receipt_send}
use Rattle.rls_session_tests.proofs.worker.Load.TheSendSync as Load
use Rattle.rls_session_tests.specs.contracts.worker.Worker as Worker_
use Rattle.rls_session_tests.specs.contracts.worker.Seat as Seat_

-- what is owned and lent, in fields and by itself
ruleset parts = (sendable, crossing.crosses, as_row_send)

module _ (N : RattleType) (g : named.Ghosts N.Denot) (l : ledger.Ghosts N.Denot) (crosses : IsSend N) where
  worker_send : IsSend (Worker_.the_row N g l)
  worker_send = declared_send (Worker_.the_type N g l) (search (parts, Seen.the_send) depth 12 fits 20000, (search (parts, receipt_send N g l crosses) depth 12 fits 20000, (search parts depth 12 fits 20000, (search parts depth 12 fits 20000, (search parts depth 12 fits 20000, tt)))))

  -- a worker goes to its thread with its seat
  pub seat_send : (ν : NamedLft) → IsSend (Seat_.the_row ν N g l)
  seat_send ν = declared_send (Seat_.the_type ν N g l) (search parts depth 12 fits 20000, (search (parts, engine_sync N g l crosses) depth 12 fits 20000, (search (parts, Load.the_field_send) depth 12 fits 20000, (search (parts, worker_send) depth 12 fits 20000, tt))))
