use Rattle.std.proofs.Common.{◌≡◌, take}
use Rattle.rls_check.specs.Checking.{numbers_of}
use Rattle.rls_check.specs.Placing.{IsPlacing}
use Rattle.rls_check.proofs.ordering.places_by.Given as goal

-- those that are named so far are placed
abbrev pub invariant-loop-number : goal.invariant-loop-number
invariant-loop-number l = record {
  placing : IsPlacing l.transactions l.placing.placed.items l.placing.left l.placing.places.items;
  named : numbers_of l.transactions l.placing.places.items ≡ take l.number-index l.order;
}
