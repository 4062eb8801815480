use Rattle.std.proofs.Common.{◌≡◌, ◌++◌, length}
use Rattle.rls_check.specs.PageParts.{texts_behind}
use Rattle.rls_check.proofs.page_parts.push_each.Given as goal

-- what is written, with what is written of those that are left, is the whole
abbrev pub invariant-loop-parts : goal.invariant-loop-parts
invariant-loop-parts l = l.page.items ++ texts_behind l.level l.parts ≡ l.fn.page.items ++ texts_behind l.first l.fn.parts

abbrev pub decreases-loop-parts : goal.decreases-loop-parts
decreases-loop-parts l = length l.parts
