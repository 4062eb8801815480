use Rattle.std.proofs.Common.{◌≡◌, map}
use Rattle.std.specs.List.{All}
use Rattle.rls_session.specs.Books.{IsTold}
use Rattle.rls_session.specs.Parts.{tried_by}
use Rattle.rls_session.proofs.notes.attempted.Given as goal

-- those so far are the same, and each was shown what it comes to alone
abbrev pub invariant-loop-one : goal.invariant-loop-one
invariant-loop-one g l = record {
  same : map tried_by l.all.items ≡ l.yielded;
  told : All (IsTold l.book.seen.committed) l.yielded;
}
