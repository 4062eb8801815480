use Rattle.std.proofs.Common.{◌≡◌, ◌++◌, drop, flat_map}
use Rattle.rls_audit.specs.rls_printing.specs.Escaped.{escaped_line}
use Rattle.rls_check.specs.Audited.{transaction_at}
use Rattle.rls_check.specs.GraphTexts.{head_of}
use Rattle.rls_check.proofs.graph_lines.push_heads.Given as goal

-- what is made, with what is made of those that are left, is the whole
abbrev pub invariant-loop-place : goal.invariant-loop-place
invariant-loop-place l = l.text.items ++ flat_map (λ place. escaped_line (head_of place (transaction_at l.transactions place))) (drop l.place-index l.places) ≡ l.fn.text.items ++ flat_map (λ place. escaped_line (head_of place (transaction_at l.transactions place))) l.places
