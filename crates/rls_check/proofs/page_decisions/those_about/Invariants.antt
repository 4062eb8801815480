use Rattle.std.proofs.Common.{◌≡◌, ◌++◌, drop, filter, map}
use Rattle.rls_check.specs.PageDecisions.{is_about}
use Rattle.rls_check.proofs.page_decisions.those_about.Given as goal

-- those so far, and those that are left, are all
abbrev pub invariant-loop-one : goal.invariant-loop-one
invariant-loop-one l = map (λ one. one.now) l.about.items ++ filter (is_about l.row) (drop l.one-index l.explained) ≡ filter (is_about l.row) l.explained
