-- The text of a line of attempts, and what it means: a line of that form, each of whose texts is a statement.
use Rattle.std.specs.Prelude.{◌≡◌, List, ℕ, Option, Some, option_and_then}
use Rattle.std.specs.List.{All}
use Rattle.serde_json.specs.Read.{read}
use Rattle.serde_json.specs.Written.{compact_text}
use Rattle.rls_audit_lines.specs.AttemptCodecs.{attempt_line}
use Rattle.rls_audit_lines.specs.Reading.{HasStatement}
use Rattle.rls_audit_lines.specs.declared.attempts.AttemptLine.{AttemptLine}
use Rattle.rls_audit_lines.specs.declared.attempts.AttemptLine.TheVariants as line

-- the line as it is written: as JSON without blanks, the keys of objects in byte order
abbrev pub attempt_text : AttemptLine → List ℕ
attempt_text it = compact_text (attempt_line.written it)

-- the line of that form, whatever its texts are
abbrev pub attempt_found : List ℕ → Option AttemptLine
attempt_found text = option_and_then attempt_line.found (read text)

-- each text of the line is a statement's
abbrev pub AttemptsParse : AttemptLine → Type 0
AttemptsParse line.Head = Unit {0}
AttemptsParse (line.Attempt end shown) = All HasStatement shown.statements

-- the text is the line
abbrev pub MeansAttempt : List ℕ → AttemptLine → Type 0
MeansAttempt text it = (attempt_found text ≡ Some it) × AttemptsParse it
