use Rattle.std.proofs.Common.{◌≡◌, ◌++◌, length, map}
use Rattle.std.specs.List.{flat_map}
use Rattle.rls_check.specs.Plots.{bar_at}
use Rattle.rls_check.specs.Pieces.{page_text}
use Rattle.rls_check.proofs.plot.Plot.push_each_bar.Given as goal

-- what is written, with what is written of those that are left, is the whole
abbrev pub invariant-loop-places : goal.invariant-loop-places
invariant-loop-places l = l.page.items ++ flat_map (λ place. page_text (bar_at l.self.columns.items l.self.lines.items l.self.transactions.now l.self.tallies.now place)) l.places ≡ l.fn.page.items ++ flat_map (λ place. page_text (bar_at l.self.columns.items l.self.lines.items l.self.transactions.now l.self.tallies.now place)) l.fn.places

abbrev pub decreases-loop-places : goal.decreases-loop-places
decreases-loop-places l = length l.places
