use Rattle.std.proofs.Common.{◌≡◌, ◌++◌, length}
use Rattle.html_text.specs.Html.{marked_text}
use Rattle.html_text.proofs.html.push_marked.Given as goal

-- what is written, and what is written of the bytes that are left, make the whole
abbrev pub invariant-loop-bytes : goal.invariant-loop-bytes
invariant-loop-bytes l = l.page.items ++ marked_text l.bytes ≡ l.fn.page.items ++ marked_text l.fn.bytes

abbrev pub decreases-loop-bytes : goal.decreases-loop-bytes
decreases-loop-bytes l = length l.bytes
