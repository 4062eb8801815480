use Rattle.std.proofs.Common.{All, take}
use Rattle.rls_session.specs.Books.{IsBooked}
use Rattle.rls_session.proofs.notes.agree_all.Given as goal

-- those so far have their records
abbrev pub invariant-loop-one : goal.invariant-loop-one
invariant-loop-one g l = All (IsBooked l.book.seen.committed) (take l.one-index l.kept)
