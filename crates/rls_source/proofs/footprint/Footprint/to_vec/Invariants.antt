use Rattle.std.proofs.Common.{◌≡◌, ◌++◌}
use Rattle.rls_source.proofs.footprint.Footprint.to_vec.Given as goal

-- what was copied, with what is left
abbrev pub invariant-loop-object : goal.invariant-loop-object
invariant-loop-object l = l.objects.items ++ l.object-iterator ≡ l.self
