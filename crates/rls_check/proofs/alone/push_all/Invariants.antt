use Rattle.std.proofs.Common.{◌≡◌, ◌++◌, take}
use Rattle.rls_check.proofs.alone.push_all.Given as goal

-- those so far are behind
abbrev pub invariant-loop-change : goal.invariant-loop-change
invariant-loop-change l = l.changes ≡ l.fn.changes ++ take l.change-index l.more
