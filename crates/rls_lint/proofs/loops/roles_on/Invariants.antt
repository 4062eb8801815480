use Rattle.std.proofs.Common.{◌≡◌, ◌++◌, drop}
use Rattle.rls_lint.specs.Loops.{roles_on}
use Rattle.rls_lint.proofs.loops.roles_on.Given as goal

-- the roles so far, and those that are left, are all
abbrev pub invariant-loop-it : goal.invariant-loop-it
invariant-loop-it l = l.roles ++ roles_on l.table (drop l.it-index l.closed) ≡ roles_on l.table l.closed
