use Rattle.std.proofs.Common.{◌≡◌, length, map}
use Rattle.rls_value.specs.Names.{one_of}
use Rattle.rls_explain.proofs.seen.is_listed.Given as goal

-- what is left leads to the answer
abbrev pub invariant-loop-listed : goal.invariant-loop-listed
invariant-loop-listed l = one_of (map (λ one. one.table) l.listed) l.name ≡ one_of (map (λ one. one.table) l.fn.listed) l.name

abbrev pub decreases-loop-listed : goal.decreases-loop-listed
decreases-loop-listed l = length l.listed
