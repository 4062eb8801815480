use Rattle.std.proofs.Common.{◌≡◌, ◌++◌}
use Rattle.rls_lint.proofs.named.Named.tables.Given as goal

-- the tables so far, and those that are left, are all
abbrev pub invariant-loop-entry : goal.invariant-loop-entry
invariant-loop-entry l = l.tables ++ l.entry-iterator ≡ l.self.tables
