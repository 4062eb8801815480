use Rattle.std.proofs.Common.{◌≡◌, ◌++◌, drop, filter}
use Rattle.rls_expr.specs.Scopes.{in_scope}
use Rattle.rls_lint.specs.Lookups.{is_misled}
use Rattle.rls_lint.proofs.lookups.misled_of.Given as goal

-- the roles so far, and those that are left, are all
abbrev pub invariant-loop-role : goal.invariant-loop-role
invariant-loop-role l =
    let misled = is_misled l.how l.linted.state.now (in_scope l.from) l.policy l.readings (in_scope l.other) in
    l.roles ++ filter misled (drop l.role-index l.linted.users.now) ≡ filter misled l.linted.users.now
