use Rattle.std.proofs.Common.{◌≡◌, ◌++◌, drop, map}
use Rattle.std.specs.List.{filter}
use Rattle.rls_hints.specs.Rows.{alternatives}
use Rattle.rls_hints.specs.Walking.{coming_of, may_begin}
use Rattle.rls_hints.proofs.walking.push_alternatives.Given as goal

-- those so far, and those of the rows that are left, are all
abbrev pub invariant-loop-row : goal.invariant-loop-row
invariant-loop-row l = l.opened.items ++ map (λ items. items ++ l.rest) (filter (may_begin (coming_of l.next)) (map (λ row. row.now) (drop l.row-index l.row-items))) ≡ l.initial.opened.items ++ map (λ items. items ++ l.rest) (filter (may_begin (coming_of l.next)) (alternatives l.fn.phrase))
