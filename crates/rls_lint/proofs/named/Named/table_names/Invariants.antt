use Rattle.std.proofs.Common.{◌≡◌, ◌++◌, map}
use Rattle.rls_lint.proofs.named.Named.table_names.Given as goal

-- the names so far, and those that are left, are all
abbrev pub invariant-loop-entry : goal.invariant-loop-entry
invariant-loop-entry l = l.names ++ map (λ entry. entry.0) l.entry-iterator ≡ map (λ entry. entry.0) l.self.tables
