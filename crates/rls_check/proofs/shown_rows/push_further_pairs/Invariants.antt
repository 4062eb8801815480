use Rattle.std.proofs.Common.{◌≡◌, ◌++◌, length, string_bytes}
use Rattle.std.specs.Prelude.{codes}
use Rattle.rls_check.specs.ShownRows.{pairs_text}
use Rattle.rls_check.proofs.shown_rows.push_further_pairs.Given as goal

-- what is written, and what is written of the values that are left, make the whole
abbrev pub invariant-loop-left : goal.invariant-loop-left
invariant-loop-left l = string_bytes l.line ++ pairs_text (codes ", ") l.left l.columns_left ≡ string_bytes l.fn.line ++ pairs_text (codes ", ") l.values l.columns

abbrev pub decreases-loop-left : goal.decreases-loop-left
decreases-loop-left l = length l.left
