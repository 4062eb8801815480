use Rattle.std.proofs.Common.{◌≡◌, ◌++◌, length}
use Rattle.std.specs.List.{flat_map}
use Rattle.rls_check.specs.LongParts.{part_text}
use Rattle.rls_check.proofs.long_parts.push_parts.Given as goal

-- what is written, and what is written of the parts that are left, make the whole
abbrev pub invariant-loop-parts : goal.invariant-loop-parts
invariant-loop-parts l = l.text.items ++ flat_map part_text l.parts ≡ l.fn.text.items ++ flat_map part_text l.fn.parts

abbrev pub decreases-loop-parts : goal.decreases-loop-parts
decreases-loop-parts l = length l.parts
