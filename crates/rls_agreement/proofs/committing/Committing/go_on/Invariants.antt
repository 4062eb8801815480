use Rattle.std.proofs.Common.{◌≡◌, ℕ, List, length}
use Rattle.std.specs.Prelude.{Bool}
use Rattle.rls_catalog.specs.declared.change.Change.{Change}
use Rattle.rls_agreement.specs.Committing.{IsPutOn}
use Rattle.rls_agreement.proofs.committing.Committing.go_on.Given as goal

-- the changes of all commits before the place are put on
abbrev pub invariant-loop-place : goal.invariant-loop-place
invariant-loop-place l = record {
  next : l.self.next ≡ l.place;
  size : length l.self.waiting.items ≡ length l.fn.self.waiting.items;
  put_on : (deltas : List (List Change)) (placed : ℕ → Bool) → IsPutOn deltas placed l.fn.self → IsPutOn deltas placed l.self;
}
