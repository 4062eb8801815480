use Rattle.std.proofs.Common.{◌≡◌, drop, map}
use Rattle.rls_hints.specs.Walking.{fault_from, fault_in}
use Rattle.rls_hints.proofs.walking.find_fault.Given as goal

-- what the words that are left come to is what all come to
abbrev pub invariant-loop-place : goal.invariant-loop-place
invariant-loop-place l = fault_in l.start (map (λ word. word.token) l.words) ≡ fault_from l.place l.stacks.items (map (λ word. word.token) (drop l.place l.words))
