use Rattle.std.proofs.Common.{◌≡◌, ◌++◌, drop, map}
use Rattle.rls_lint.specs.declared.finding.Mistake.TheVariants.{Denied}
use Rattle.rls_lint.specs.Commands.{roles_with, sets_of}
use Rattle.rls_lint.specs.Findings.{told_of}
use Rattle.rls_expr.specs.Scopes.{in_scope}
use Rattle.rls_lint.proofs.commands.tell_each.Given as goal

-- the findings so far, and those of the sets that are left, are all
abbrev pub invariant-loop-commands : goal.invariant-loop-commands
invariant-loop-commands l = l.findings ++ told_of (in_scope l.from) (map (λ commands. Denied l.alone (roles_with commands l.denied) commands) (drop l.commands-index l.commands-items)) ≡ l.fn.findings ++ told_of (in_scope l.from) (map (λ commands. Denied l.alone (roles_with commands l.denied) commands) (sets_of l.denied))
