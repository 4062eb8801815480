use Rattle.std.proofs.Common.{◌≡◌, ℕ, ◌<◌, ◌++◌, false, take, drop, map, slice_index_or}
use Rattle.rls_session.specs.Phases.{notes_after, texts_of}
use Rattle.rls_session.specs.Works.{Work, finished, tracks_of}
use Rattle.rls_session.proofs.phases.finish_all.Given as goal

-- those so far left what they had; the others are as they were; no write has failed since
abbrev pub invariant-loop-i : goal.invariant-loop-i
invariant-loop-i g l =
    let before = l.initial.workers in
    let out = g.O.ScriptOut in
    (l.workers ≡ map finished (take l.i before) ++ drop l.i before)
    × (l.notes ≡ notes_after l.initial.notes (tracks_of (take l.i before)))
    × (out.taken l.output ≡ out.taken l.initial.output ++ texts_of (tracks_of (take l.i before)))
    × ((k : ℕ) (d : Work) → k < l.i → (slice_index_or before k d).failed ≡ false)
    × (out.failures l.output ≡ out.failures l.initial.output)
