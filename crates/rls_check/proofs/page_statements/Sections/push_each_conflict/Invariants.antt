use Rattle.std.proofs.Common.{◌≡◌, ◌++◌, length, map, filter}
use Rattle.std.specs.List.{flat_map}
use Rattle.rls_check.specs.PageStatements.{conflict_pieces, is_read_by}
use Rattle.rls_check.specs.Pieces.{page_text}
use Rattle.rls_check.proofs.page_statements.Sections.push_each_conflict.Given as goal

-- what is written, with what is written of those that are left, is the whole
abbrev pub invariant-loop-conflicts : goal.invariant-loop-conflicts
invariant-loop-conflicts l = l.page.items ++ flat_map (λ it. page_text (conflict_pieces l.self.transactions.now it)) (filter (is_read_by l.place) l.conflicts) ≡ l.fn.page.items ++ flat_map (λ it. page_text (conflict_pieces l.self.transactions.now it)) (filter (is_read_by l.place) l.fn.conflicts)

abbrev pub decreases-loop-conflicts : goal.decreases-loop-conflicts
decreases-loop-conflicts l = length l.conflicts
