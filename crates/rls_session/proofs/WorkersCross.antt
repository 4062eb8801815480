-- A label's worker crosses threads, part by part.
use denote.RattleType.{RattleType}
use denote.Ref.{NamedLft}
use denote.Param.Send.{IsSend, IsSync, sendable}
use denote.Param.SendFields.{declared_send, variants_send, as_row_send}
use Rattle.std.proofs.Crossing as crossing
use Rattle.std.proofs.option.Option.TheSendSync as Option
use Rattle.std.specs.declared.sync.ledger.Ledger as ledger
use Rattle.rls_engine.specs.declared.named.Named as named
use Rattle.rls_value.proofs.name.Name.TheSendSync as Name
use Rattle.rls_value.proofs.refusal.Refusal.TheSendSync as Refusal
use Rattle.rls_engine.proofs.seen.Seen.TheSendSync as Seen
use Rattle.rls_value.proofs.refusal.Cause.TheSendSync as Cause
use Rattle.rls_engine.proofs.EngineCrosses.{ended_send, place_send, engine_sync, txn_send}
use Rattle.rls_script.proofs.standing.Standing.TheSendSync as Standing
use Rattle.rls_session.specs.contracts.open.Kept as Kept_
use Rattle.rls_session.specs.contracts.open.Kept.TheInside as Kept_Inside
use Rattle.rls_session.specs.contracts.notes.Notes as Notes_
use Rattle.rls_session.specs.contracts.notes.Notes.TheInside as Notes_Inside
use Rattle.rls_session.specs.contracts.tried.End as End_
use Rattle.rls_session.specs.contracts.tried.Tried as Tried_
use Rattle.rls_session.specs.contracts.tried.Tried.TheInside as Tried_Inside
use Rattle.rls_session.specs.contracts.open.Open as Open_
use Rattle.rls_session.specs.contracts.open.Open.TheInside as Open_Inside
use Rattle.rls_session.specs.contracts.session.Session as Session_
use Rattle.rls_session.specs.contracts.session.Session.TheInside as Session_Inside
use Rattle.rls_session.specs.contracts.label.Label as Label_
use Rattle.rls_session.specs.contracts.label.Label.TheInside as Label_Inside
use Rattle.rls_session.specs.contracts.worker.Worker as Worker_
use Rattle.rls_session.specs.contracts.worker.Worker.TheInside as Worker_Inside

-- what is owned, lent and optional, in fields and by itself
ruleset kept = (sendable, crossing.crosses, as_row_send, Option.the_field_send)

end_send : IsSend End_.the_row
end_send = search (kept, Cause.the_field_send, variants_send) depth 24 fits 20000

module _ (N : RattleType) (g : named.Ghosts N.Denot) (l : ledger.Ghosts N.Denot) (crosses : IsSend N) where
  kept_place_inside_send : IsSend (Kept_Inside.the_row N g l)
  kept_place_inside_send = declared_send (Kept_Inside.the_type N g l) (search (kept) depth 12 fits 20000, (search (kept, place_send N g l crosses) depth 12 fits 20000, tt))

  kept_place_send : IsSend (Kept_.the_row N g l)
  kept_place_send = search (sendable, kept_place_inside_send) depth 3

  tried_inside_send : IsSend (Tried_Inside.the_row N g l)
  tried_inside_send = declared_send (Tried_Inside.the_type N g l) (search (kept, end_send) depth 12 fits 20000, (search (kept, ended_send N g l crosses) depth 12 fits 20000, tt))

  tried_send : IsSend (Tried_.the_row N g l)
  tried_send = search (sendable, tried_inside_send) depth 3

  notes_inside_send : IsSend (Notes_Inside.the_row N g l)
  notes_inside_send = declared_send (Notes_Inside.the_type N g l) (search (kept, Seen.the_send) depth 12 fits 20000, (search (kept, kept_place_send) depth 12 fits 20000, (search (kept) depth 12 fits 20000, (search (kept, ended_send N g l crosses) depth 12 fits 20000, (search (kept, tried_send) depth 12 fits 20000, tt)))))

  notes_send : IsSend (Notes_.the_row N g l)
  notes_send = search (sendable, notes_inside_send) depth 3

  open_inside_send : (ν : NamedLft) → IsSend (Open_Inside.the_row ν N g l)
  open_inside_send ν = declared_send (Open_Inside.the_type ν N g l) (search (kept) depth 12 fits 20000, (search (kept, txn_send N g l crosses) depth 12 fits 20000, tt))

  open_send : (ν : NamedLft) → IsSend (Open_.the_row ν N g l)
  open_send ν = search (sendable, open_inside_send ν) depth 3

  session_inside_send : (ν : NamedLft) → IsSend (Session_Inside.the_row ν N g l)
  session_inside_send ν = declared_send (Session_Inside.the_type ν N g l) (search (kept, engine_sync N g l crosses) depth 12 fits 20000, (search (kept, Name.the_send) depth 12 fits 20000, (search (kept, Name.the_send) depth 12 fits 20000, (search (kept, open_send) depth 12 fits 20000, (search (kept) depth 12 fits 20000, tt)))))

  session_send : (ν : NamedLft) → IsSend (Session_.the_row ν N g l)
  session_send ν = search (sendable, session_inside_send ν) depth 3

  label_inside_send : (ν : NamedLft) → IsSend (Label_Inside.the_row ν N g l)
  label_inside_send ν = declared_send (Label_Inside.the_type ν N g l) (search (kept, engine_sync N g l crosses) depth 12 fits 20000, (search (kept, session_send) depth 12 fits 20000, tt))

  label_send : (ν : NamedLft) → IsSend (Label_.the_row ν N g l)
  label_send ν = search (sendable, label_inside_send ν) depth 3

  worker_inside_send : (ν : NamedLft) (G : RattleType) (shared : IsSync G) → IsSend (Worker_Inside.the_row ν N G g l)
  worker_inside_send ν G shared = declared_send (Worker_Inside.the_type ν N G g l) (search (kept) depth 12 fits 20000, (search (kept, shared) depth 12 fits 20000, (search (kept) depth 12 fits 20000, (search (kept) depth 12 fits 20000, (search (kept, Standing.the_field_send) depth 12 fits 20000, (search (kept) depth 12 fits 20000, (search (kept, label_send) depth 12 fits 20000, (search (kept, notes_send) depth 12 fits 20000, (search (kept) depth 12 fits 20000, (search (kept, Refusal.the_field_send) depth 12 fits 20000, tt))))))))))

  -- a label's worker goes to the label's thread
  pub worker_send : (ν : NamedLft) (G : RattleType) (shared : IsSync G) → IsSend (Worker_.the_row ν N G g l)
  worker_send ν G shared = search (sendable, worker_inside_send ν G shared) depth 3
