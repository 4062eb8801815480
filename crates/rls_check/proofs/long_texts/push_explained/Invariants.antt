use Rattle.std.proofs.Common.{◌≡◌, ◌++◌, length}
use Rattle.std.specs.List.{flat_map}
use Rattle.rls_check.specs.LongTexts.{explained_text}
use Rattle.rls_check.proofs.long_texts.push_explained.Given as goal

-- what is written, and what is written of the decisions that are left, make the whole
abbrev pub invariant-loop-explained : goal.invariant-loop-explained
invariant-loop-explained l = l.text.items ++ flat_map (explained_text l.role) l.explained ≡ l.fn.text.items ++ flat_map (explained_text l.role) l.fn.explained

abbrev pub decreases-loop-explained : goal.decreases-loop-explained
decreases-loop-explained l = length l.explained
