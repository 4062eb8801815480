use Rattle.std.proofs.Common.{◌≡◌, ◌++◌, filter}
use Rattle.std.specs.Vec.Iter.{into_iter_items}
use Rattle.rls_check.specs.ShownFilters.{is_wanted}
use Rattle.rls_check.proofs.shown_texts.those_wanted.Given as goal

-- those so far, and those of the rows that are left, are all
abbrev pub invariant-loop-one : goal.invariant-loop-one
invariant-loop-one l = l.kept.items ++ filter (is_wanted l.wanted) (into_iter_items l.one-iterator) ≡ filter (is_wanted l.wanted) l.fn.rows
