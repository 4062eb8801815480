use Rattle.std.proofs.Common.{◌≡◌, ◌++◌, drop}
use Rattle.rls_lint.specs.Commands.{roles_with}
use Rattle.rls_lint.proofs.commands.roles_with.Given as goal

-- the roles so far, and those that are left, are all
abbrev pub invariant-loop-it : goal.invariant-loop-it
invariant-loop-it l = l.roles ++ roles_with l.commands (drop l.it-index l.denied) ≡ roles_with l.commands l.denied
