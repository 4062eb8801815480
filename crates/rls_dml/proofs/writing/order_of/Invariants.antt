use Rattle.std.proofs.Common.{◌≡◌, ◌++◌, drop}
use Rattle.rls_dml.specs.Writing.{unwritten, order_of}
use Rattle.rls_dml.proofs.writing.order_of.Given as goal

-- the places so far, and those that are left, are all
abbrev pub invariant-loop-place : goal.invariant-loop-place
invariant-loop-place l = l.order.items ++ unwritten l.places l.place (drop l.place l.columns) ≡ order_of l.places l.columns
