use Rattle.std.proofs.Common.{◌≡◌, ◌++◌}
use Rattle.rls_check.specs.PageParts.{repeated}
use Rattle.rls_check.specs.Pieces.{page_text}
use Rattle.rls_check.proofs.page_parts.push_repeated.Given as goal

-- what is written, and what is left to write, make the whole
abbrev pub invariant-loop-left : goal.invariant-loop-left
invariant-loop-left l = l.page.items ++ page_text (repeated l.left l.markup) ≡ l.fn.page.items ++ page_text (repeated l.count l.markup)

abbrev pub decreases-loop-left : goal.decreases-loop-left
decreases-loop-left l = l.left
