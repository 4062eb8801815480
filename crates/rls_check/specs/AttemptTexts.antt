-- How it is written how an attempt ended.
use Rattle.std.specs.Prelude.{ℕ, List, ◌++◌, codes}
use Rattle.rls_audit.specs.rls_audit_lines.specs.AttemptCodecs.{end_word}
use Rattle.rls_audit.specs.rls_audit_lines.specs.declared.attempts.AttemptEnd.{AttemptEnd}
use Rattle.rls_audit.specs.rls_audit_lines.specs.declared.attempts.AttemptEnd.TheVariants as end

-- by the word of its line; a serialization failure with its cause
abbrev pub ended_text : AttemptEnd → List ℕ
ended_text (end.Conflict cause) = codes "40001: " ++ cause
ended_text (end.By word) = end_word word
