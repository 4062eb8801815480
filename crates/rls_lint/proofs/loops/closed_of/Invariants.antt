use Rattle.std.proofs.Common.{◌≡◌, ◌++◌, drop}
use Rattle.rls_lint.specs.Loops.{closed_of}
use Rattle.rls_expr.specs.Scopes.{in_scope}
use Rattle.rls_lint.proofs.loops.closed_of.Given as goal

-- what is told of the roles so far, and of those that are left, is all
abbrev pub invariant-loop-role : goal.invariant-loop-role
invariant-loop-role l = l.closed ++ closed_of l.linted.state.now (in_scope l.from) (drop l.role-index l.linted.users.now) ≡ closed_of l.linted.state.now (in_scope l.from) l.linted.users.now
