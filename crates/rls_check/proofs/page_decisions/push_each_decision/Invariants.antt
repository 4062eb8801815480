use Rattle.std.proofs.Common.{◌≡◌, ◌++◌, length, map}
use Rattle.std.specs.List.{flat_map}
use Rattle.rls_check.specs.PageDecisions.{decision_pieces}
use Rattle.rls_check.specs.Pieces.{page_text}
use Rattle.rls_check.proofs.page_decisions.push_each_decision.Given as goal

-- what is written, with what is written of those that are left, is the whole
abbrev pub invariant-loop-about : goal.invariant-loop-about
invariant-loop-about l = l.page.items ++ flat_map (λ one. page_text (decision_pieces l.role one)) (map (λ one. one.now) l.about) ≡ l.fn.page.items ++ flat_map (λ one. page_text (decision_pieces l.role one)) (map (λ one. one.now) l.fn.about)

abbrev pub decreases-loop-about : goal.decreases-loop-about
decreases-loop-about l = length l.about
