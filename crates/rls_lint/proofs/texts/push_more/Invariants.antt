use Rattle.std.proofs.Common.{◌≡◌, ◌++◌, length, string_bytes}
use Rattle.rls_lint.specs.Texts.{more_names}
use Rattle.rls_lint.proofs.texts.push_more.Given as goal

-- what is written, and what is left, make the whole
abbrev pub invariant-loop-names : goal.invariant-loop-names
invariant-loop-names l = string_bytes l.text ++ more_names l.names ≡ string_bytes l.initial.text ++ more_names l.fn.names

abbrev pub decreases-loop-names : goal.decreases-loop-names
decreases-loop-names l = length l.names
