use denote.Exit.{yes}
use denote.Param.Send.{param_send, arg_send}
use Rattle.rls_session.proofs.WorkersCross.{worker_send}
use Rattle.rls_session.proofs.phases.run_all.Goals as goal

-- a label's worker goes to the label's thread
pub for_each_mut-requires-send-T : goal.for_each_mut-requires-send-T
for_each_mut-requires-send-T g c κs within = param_send _ _ (arg_send _ yes _ (worker_send _ g.N.Named g.N.Ledger c.type_bounds.send-N record { mir = mir.Syntax.erased; lft = _ } _ c.type_bounds.sync-G))
