use Rattle.std.proofs.Common.{◌≡◌, take}
use Rattle.rls_source.proofs.reads.copy_objects.Given as goal

-- the first are copied
abbrev pub invariant-loop-object : goal.invariant-loop-object
invariant-loop-object l = l.copies.items ≡ take l.object-index l.objects
