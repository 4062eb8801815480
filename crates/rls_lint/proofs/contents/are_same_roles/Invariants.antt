use Rattle.std.proofs.Common.{take}
use Rattle.std.specs.List.{All}
use Rattle.rls_lint.specs.Contents.{IsSameRole}
use Rattle.rls_lint.proofs.contents.are_same_roles.Given as goal

-- those so far are the same
abbrev pub invariant-loop-role : goal.invariant-loop-role
invariant-loop-role l = All (IsSameRole l.left l.right) (take l.role-index l.roles)
