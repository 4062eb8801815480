use Rattle.std.proofs.Common.{◌≡◌, ◌++◌, length, map}
use Rattle.std.specs.List.{flat_map}
use Rattle.rls_check.specs.Plots.{arrow_pieces}
use Rattle.rls_check.specs.Pieces.{page_text}
use Rattle.rls_check.proofs.plot.Plot.push_each_arrow.Given as goal

-- what is written, with what is written of those that are left, is the whole
abbrev pub invariant-loop-conflicts : goal.invariant-loop-conflicts
invariant-loop-conflicts l = l.page.items ++ flat_map (λ it. page_text (arrow_pieces l.self.columns.items l.self.lines.items l.self.transactions.now it)) l.conflicts ≡ l.fn.page.items ++ flat_map (λ it. page_text (arrow_pieces l.self.columns.items l.self.lines.items l.self.transactions.now it)) l.fn.conflicts

abbrev pub decreases-loop-conflicts : goal.decreases-loop-conflicts
decreases-loop-conflicts l = length l.conflicts
