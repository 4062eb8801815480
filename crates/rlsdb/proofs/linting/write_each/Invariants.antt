use Rattle.std.proofs.Common.{◌≡◌, ◌++◌, length}
use Rattle.std.specs.List.{flat_map}
use Rattle.rls_lint.specs.Texts.{finding_line}
use Rattle.rlsdb.proofs.linting.write_each.Given as goal

-- what is written, and what is left, make the whole
abbrev pub invariant-loop-found : goal.invariant-loop-found
invariant-loop-found g l = g.O.ScriptOut.taken l.output ++ flat_map finding_line l.found ≡ g.O.ScriptOut.taken l.fn.output ++ flat_map finding_line l.fn.found

abbrev pub decreases-loop-found : goal.decreases-loop-found
decreases-loop-found g l = length l.found
