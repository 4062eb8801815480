use Rattle.std.proofs.Common.{◌≡◌, ◌++◌, drop, filter}
use Rattle.rls_lint.specs.TableMistakes.{is_unbound}
use Rattle.rls_lint.proofs.table_mistakes.unbound_among.Given as goal

-- the roles so far, and those that are left, are all
abbrev pub invariant-loop-role : goal.invariant-loop-role
invariant-loop-role l = l.unbound ++ filter (is_unbound l.linted.state.now l.table) (drop l.role-index l.linted.roles.now) ≡ filter (is_unbound l.linted.state.now l.table) l.linted.roles.now
