use Rattle.std.proofs.Common.{◌≡◌, ◌&&◌, drop}
use Rattle.std.specs.List.{list_any}
use Rattle.rls_catalog.specs.Paths.{can_set}
use Rattle.rls_lint.specs.Users.{is_login}
use Rattle.rls_lint.proofs.users.is_set_by_some.Given as goal

-- none of those so far may set it
abbrev pub invariant-loop-login : goal.invariant-loop-login
invariant-loop-login l = list_any (λ login. is_login l.state login && can_set l.state login l.role) (drop l.login-index l.roles) ≡ list_any (λ login. is_login l.state login && can_set l.state login l.role) l.roles
