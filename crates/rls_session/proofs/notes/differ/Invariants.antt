use Rattle.std.proofs.Common.{◌≡◌, length, take}
use Rattle.rls_session.specs.Books.{DifferInCommit}
use Rattle.rls_session.proofs.BookLemmas.{AreMet}
use Rattle.rls_session.proofs.notes.differ.Given as goal

-- those so far differ, and each is met
abbrev pub invariant-loop-one : goal.invariant-loop-one
invariant-loop-one g l = record {
  size : length l.met.items ≡ l.count;
  met : AreMet (take l.one-index l.kept) l.met.items;
  differ : DifferInCommit (take l.one-index l.kept);
}
