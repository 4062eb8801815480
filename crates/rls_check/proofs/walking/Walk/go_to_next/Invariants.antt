use Rattle.std.specs.Prelude.{◌≡◌}
use Rattle.rls_check.specs.Walking.{left, state_left}
use Rattle.rls_check.proofs.walking.Walk.go_to_next.Given as goal

-- as many transactions were begun, and the same is still to come
abbrev pub invariant-loop-place : goal.invariant-loop-place
invariant-loop-place l = record {
  begun : l.self.begun ≡ l.place;
  places : l.self.places ≡ l.fn.self.places;
  left : left l.self ≡ left l.fn.self;
  state : state_left l.self ≡ state_left l.fn.self;
}
