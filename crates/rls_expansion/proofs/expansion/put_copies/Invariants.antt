use Rattle.std.proofs.Common.{◌≡◌, ◌++◌, drop}
use Rattle.rls_expansion.proofs.expansion.put_copies.Given as goal

-- the tables so far, and the names that are left, are all
abbrev pub invariant-loop-name : goal.invariant-loop-name
invariant-loop-name l = l.tables ++ drop l.name-index l.names ≡ l.fn.tables ++ l.names
