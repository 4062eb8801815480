use Rattle.std.proofs.Common.{◌≡◌, ◌++◌, drop, filter, map}
use Rattle.rls_check.specs.ShownTexts.{is_seen}
use Rattle.rls_check.proofs.page_rows.seen_rows.Given as goal

-- those so far, and those that are left, are all
abbrev pub invariant-loop-one : goal.invariant-loop-one
invariant-loop-one l = map (λ one. one.now) l.seen.items ++ filter is_seen (drop l.one-index l.rows) ≡ filter is_seen l.rows
