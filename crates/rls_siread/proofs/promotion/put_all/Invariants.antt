use Rattle.std.proofs.Common.{◌≡◌, ◌++◌}
use Rattle.rls_siread.proofs.promotion.put_all.Given as goal

-- what was read, with what is left
abbrev pub invariant-loop-object : goal.invariant-loop-object
invariant-loop-object l = l.reads ++ l.object-iterator ≡ l.fn.reads ++ l.objects
