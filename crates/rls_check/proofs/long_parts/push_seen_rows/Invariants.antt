use Rattle.std.proofs.Common.{◌≡◌, ◌++◌, length}
use Rattle.std.specs.List.{flat_map}
use Rattle.rls_audit.specs.rls_printing.specs.Escaped.{escaped_line}
use Rattle.rls_check.specs.LongParts.{seen_line}
use Rattle.rls_check.proofs.long_parts.push_seen_rows.Given as goal

-- what is written, and what is written of the rows that are left, make the whole
abbrev pub invariant-loop-left : goal.invariant-loop-left
invariant-loop-left l = l.text.items ++ flat_map (λ row. escaped_line (seen_line l.indent l.seen row)) l.left ≡ l.fn.text.items ++ flat_map (λ row. escaped_line (seen_line l.indent l.seen row)) l.seen.rows

abbrev pub decreases-loop-left : goal.decreases-loop-left
decreases-loop-left l = length l.left
