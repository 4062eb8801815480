use Rattle.std.proofs.Common.{◌≡◌, ◌++◌, drop, filter}
use Rattle.rls_lint.specs.Users.{is_user}
use Rattle.rls_lint.proofs.users.users_of.Given as goal

-- the roles so far, and those of the roles that are left, are all
abbrev pub invariant-loop-role : goal.invariant-loop-role
invariant-loop-role l = l.users ++ filter (is_user l.state l.roles) (drop l.role-index l.roles) ≡ filter (is_user l.state l.roles) l.roles
