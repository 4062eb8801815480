use Rattle.std.proofs.Common.{◌≡◌, ◌++◌, map}
use Rattle.rls_audit.specs.Lines.{grant_shape}
use Rattle.rls_audit.proofs.showing.grant_shapes.Given as goal

-- the shapes, and those of the grants that are left, are all
abbrev pub invariant-loop-grant : goal.invariant-loop-grant
invariant-loop-grant l = l.shapes.items ++ map grant_shape l.grant-iterator ≡ map grant_shape l.grants
