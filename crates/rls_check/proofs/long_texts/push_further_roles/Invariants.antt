use Rattle.std.proofs.Common.{◌≡◌, ◌++◌, length, string_bytes}
use Rattle.std.specs.Prelude.{codes}
use Rattle.rls_check.specs.LongTexts.{roles_text}
use Rattle.rls_check.proofs.long_texts.push_further_roles.Given as goal

-- what is written, and what is written of the roles that are left, make the whole
abbrev pub invariant-loop-roles : goal.invariant-loop-roles
invariant-loop-roles l = string_bytes l.text ++ roles_text (codes ", ") l.roles ≡ string_bytes l.fn.text ++ roles_text (codes ", ") l.fn.roles

abbrev pub decreases-loop-roles : goal.decreases-loop-roles
decreases-loop-roles l = length l.roles
