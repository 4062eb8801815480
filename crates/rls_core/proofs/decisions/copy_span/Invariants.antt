use Rattle.std.proofs.Common.{◌≡◌, ◌++◌, ◌-◌, map}
use Rattle.std.specs.List.{range_with_len}
use Rattle.rls_core.specs.Decided.{row_in, decisions_by}
use Rattle.rls_core.proofs.decisions.copy_span.Given as goal

-- the rows before n are copied
abbrev pub invariant-loop-n : goal.invariant-loop-n
invariant-loop-n l = l.decisions.items ≡ l.initial.decisions.items ++ decisions_by l.said (map (row_in l.span) (range_with_len l.span.first (l.n - l.span.first)))
