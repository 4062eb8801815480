use Rattle.std.proofs.Common.{◌≡◌, take}
use Rattle.rls_core.specs.Decided.{decisions_by, rows_of}
use Rattle.rls_core.proofs.decisions.copies.Given as goal

-- the first spans are copied
abbrev pub invariant-loop-span : goal.invariant-loop-span
invariant-loop-span l = l.decisions.items ≡ decisions_by l.said (rows_of (take l.span-index l.spans))
