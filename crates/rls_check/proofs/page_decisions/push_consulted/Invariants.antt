use Rattle.std.proofs.Common.{◌≡◌, ◌++◌, length, map}
use Rattle.std.specs.List.{flat_map}
use Rattle.rls_check.specs.PageDecisions.{policy_pieces}
use Rattle.rls_check.specs.Pieces.{page_text}
use Rattle.rls_check.proofs.page_decisions.push_consulted.Given as goal

-- what is written, with what is written of those that are left, is the whole
abbrev pub invariant-loop-policies : goal.invariant-loop-policies
invariant-loop-policies l = l.page.items ++ flat_map (λ policy. page_text (policy_pieces policy)) l.policies ≡ l.fn.page.items ++ flat_map (λ policy. page_text (policy_pieces policy)) l.fn.policies

abbrev pub decreases-loop-policies : goal.decreases-loop-policies
decreases-loop-policies l = length l.policies
