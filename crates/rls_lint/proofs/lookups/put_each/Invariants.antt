use Rattle.std.proofs.Common.{◌≡◌, ◌++◌, drop, map}
use Rattle.rls_lint.specs.Lookups.{reading_of}
use Rattle.rls_lint.proofs.lookups.put_each.Given as goal

-- those so far, and those that are left, are all
abbrev pub invariant-loop-one : goal.invariant-loop-one
invariant-loop-one l = l.readings ++ map (reading_of l.kind) (drop l.one-index l.selected) ≡ l.fn.readings ++ map (reading_of l.kind) l.selected
