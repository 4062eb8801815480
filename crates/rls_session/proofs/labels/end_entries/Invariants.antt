use Rattle.std.proofs.Common.{◌≡◌, drop, take, map}
use Rattle.rls_session.specs.Labels.{Entry, ended_all}
use Rattle.rls_session.proofs.labels.end_entries.Given as goal

-- those so far have ended; the others are as they were
abbrev pub invariant-loop-i : goal.invariant-loop-i
invariant-loop-i g l =
    let before = l.initial.entries in
    (drop l.i l.entries ≡ drop l.i before)
    × (l.notes ≡ ended_all (map (λ (entry : Entry). entry.session) (take l.i before)) l.initial.notes)
