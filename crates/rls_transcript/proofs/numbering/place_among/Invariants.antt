use Rattle.std.proofs.Common.{◌≡◌, ◌+◌, map, length}
use Rattle.rls_script.specs.Plans.{place_in}
use Rattle.rls_transcript.proofs.numbering.place_among.Given as goal

-- those that were passed aren't it
abbrev pub invariant-loop-rest : goal.invariant-loop-rest
invariant-loop-rest l = (l.place + place_in (map (λ name. name.now) l.rest) l.name ≡ place_in (map (λ name. name.now) l.names) l.name) × (l.place + length l.rest ≡ length l.names)

abbrev pub decreases-loop-rest : goal.decreases-loop-rest
decreases-loop-rest l = length l.rest
