use Rattle.std.proofs.Common.{◌≡◌, ◌++◌, take}
use Rattle.rls_session.specs.Phases.{late_text}
use Rattle.rls_session.proofs.phases.write_places.Given as goal

-- the lines so far are written; no write has failed since
abbrev pub invariant-loop-place : goal.invariant-loop-place
invariant-loop-place g l =
    let out = g.O.ScriptOut in
    (out.failures l.output ≡ out.failures l.initial.output) × (out.taken l.output ≡ out.taken l.initial.output ++ late_text l.names (take l.place-index l.places))
