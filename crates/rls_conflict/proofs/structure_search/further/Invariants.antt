use Rattle.std.proofs.Common.{◌≡◌, ℕ, take}
use Rattle.std.specs.Prelude.{MatchOption, true, false}
use Rattle.rls_conflict.specs.Commits.{is_place_in}
use Rattle.rls_conflict.specs.Search.{IsFurther, counts_now}
use Rattle.rls_conflict.proofs.structure_search.further.Given as goal

-- none among those so far that the pivot read from, or one that counts
abbrev pub invariant-loop-last : goal.invariant-loop-last
invariant-loop-last l = MatchOption l.found ((last : ℕ) → is_place_in (take l.last-index l.last-items) last ≡ true → counts_now l.has_written l.snap last ≡ false) (IsFurther l.committed l.has_written l.snap l.pivot)
