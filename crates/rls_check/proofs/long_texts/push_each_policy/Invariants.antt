use Rattle.std.proofs.Common.{◌≡◌, ◌++◌, length}
use Rattle.std.specs.List.{flat_map}
use Rattle.rls_check.specs.LongTexts.{policy_text}
use Rattle.rls_check.proofs.long_texts.push_each_policy.Given as goal

-- what is written, and what is written of the policies that are left, make the whole
abbrev pub invariant-loop-policies : goal.invariant-loop-policies
invariant-loop-policies l = l.text.items ++ flat_map policy_text l.policies ≡ l.fn.text.items ++ flat_map policy_text l.fn.policies

abbrev pub decreases-loop-policies : goal.decreases-loop-policies
decreases-loop-policies l = length l.policies
