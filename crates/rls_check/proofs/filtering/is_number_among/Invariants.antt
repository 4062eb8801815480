use Rattle.std.proofs.Common.{◌≡◌, length, nat_eq}
use Rattle.std.specs.List.{list_any}
use Rattle.rls_check.proofs.filtering.is_number_among.Given as goal

-- what is left leads to the answer
abbrev pub invariant-loop-numbers : goal.invariant-loop-numbers
invariant-loop-numbers l = list_any (λ it. nat_eq it l.number) l.numbers ≡ list_any (λ it. nat_eq it l.number) l.fn.numbers

abbrev pub decreases-loop-numbers : goal.decreases-loop-numbers
decreases-loop-numbers l = length l.numbers
