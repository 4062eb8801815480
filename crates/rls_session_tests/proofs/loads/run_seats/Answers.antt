use denote.Param.Send.{param_send, arg_send}
use Rattle.rls_session_tests.proofs.loads.SeatsCross.{seat_send}
use Rattle.rls_session_tests.proofs.loads.run_seats.Goals as goal

-- a worker goes to its thread with its seat
pub for_each_mut-requires-send-T : goal.for_each_mut-requires-send-T
for_each_mut-requires-send-T g c κs within = let e : (ν : _) → _ = seat_send _ g.N.Named g.N.Ledger c.type_bounds.send-N in Prim.search (param_send, arg_send, e) depth 4
