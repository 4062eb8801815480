use Rattle.std.proofs.Common.{◌≡◌, map, take}
use Rattle.rls_core.specs.Records.{record_at}
use Rattle.rls_core.proofs.machine.numbers_at.Given as goal

-- the numbers so far
abbrev pub invariant-loop-place : goal.invariant-loop-place
invariant-loop-place l = l.numbers.items ≡ map (λ place. (record_at l.records place).txn) (take l.place-index l.places)
