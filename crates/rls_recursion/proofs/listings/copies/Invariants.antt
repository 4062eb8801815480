use Rattle.std.proofs.Common.{◌≡◌, take}
use Rattle.rls_recursion.proofs.listings.copies.Given as goal

abbrev pub invariant-loop-one : goal.invariant-loop-one
invariant-loop-one l = l.copies ≡ take l.one-index l.selected
