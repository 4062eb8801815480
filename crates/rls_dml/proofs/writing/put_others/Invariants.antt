use Rattle.std.proofs.Common.{◌≡◌, ◌++◌, drop}
use Rattle.rls_dml.specs.Writing.{readable}
use Rattle.rls_dml.proofs.writing.put_others.Given as goal

-- the checks so far, and those of the tables that are left, are all
abbrev pub invariant-loop-one : goal.invariant-loop-one
invariant-loop-one l = l.checks ++ readable (drop l.one-index l.others) ≡ l.fn.checks ++ readable l.others
