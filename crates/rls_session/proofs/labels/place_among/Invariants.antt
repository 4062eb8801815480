use Rattle.std.proofs.Common.{◌≡◌, ◌+◌, length}
use Rattle.rls_session.specs.Labels.{place_of}
use Rattle.rls_session.proofs.labels.place_among.Given as goal

-- the labels that were passed have other names, and with what is left they are all
abbrev pub invariant-loop-rest : goal.invariant-loop-rest
invariant-loop-rest g l = (l.place + place_of l.rest l.name ≡ place_of l.labels l.name) × (l.place + length l.rest ≡ length l.labels)

abbrev pub decreases-loop-rest : goal.decreases-loop-rest
decreases-loop-rest g l = length l.rest
