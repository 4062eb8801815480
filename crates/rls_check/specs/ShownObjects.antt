-- What a statement did with rows, as JSON: values and numbers of rows as audits have them.
use Rattle.std.specs.Prelude.{ℕ, List, [], ◌∷◌, ◌++◌, Option, Some, None, map, unwrap_or, codes}
use Rattle.serde_json.specs.Data.{Data, null, number, string, array, object, unsigned, no_items, item, no_members, member}
use Rattle.serde_json.specs.View.{items_of}
use Rattle.serde_json.specs.Written.{compact_text}
use Rattle.rls_value.specs.{declared.value.Value.Value, Objects.row_id_text}
use Rattle.rls_statement.specs.{declared.statement.Statement.Statement, Tags.tag_of}
use Rattle.rls_audit.specs.{Printed.printed_text}
use Rattle.rls_audit.specs.rls_audit_lines.specs.ValueCodecs.{row}
use Rattle.rls_audit.specs.rls_audit_lines.specs.declared.attempts.AttemptEnd.{AttemptEnd}
use Rattle.rls_explain.specs.declared.outcome.{Reason.Reason, RowOutcome.RowOutcome}
use Rattle.rls_explain.specs.rls_meaning.specs.rls_guard.specs.{declared.context.Ctx.Ctx, declared.effect.Effect.Effect}
use Rattle.rls_check.specs.AttemptTexts.{ended_text}
use Rattle.rls_check.specs.ShownRows.{reason_text, row_word}
use Rattle.rls_check.specs.WhyTexts.{came_text}

-- the values
abbrev pub values_data : List Value → Data
values_data values = row.written values

-- those before a change; null where nothing is changed
abbrev pub data_before : Option (List Value) → List Value → Data
data_before None before = null
data_before (Some new) before = values_data before

-- why; null where nothing is said
abbrev pub reason_data : Option Reason → Data
reason_data None = null
reason_data (Some reason) = string (reason_text reason)

-- a row: its word, table, number, values, those before a change, why
abbrev pub row_data : RowOutcome → Data
row_data one =
    array (item (string (row_word one.word)) (item (string one.table) (item (string (row_id_text one.id)) (item (values_data (unwrap_or one.new one.row)) (item (data_before one.new one.row) (item (reason_data one.reason) no_items))))))

-- a statement of a transaction, and its rows
abbrev pub transaction_data : ℕ → Ctx → Statement → Effect → List RowOutcome → Data
transaction_data n ctx asked effect rows =
    object (member (codes "login") (string ctx.login) (member (codes "reply") (string (came_text (tag_of asked) effect)) (member (codes "role") (string ctx.role) (member (codes "rows") (array (items_of (map row_data rows))) (member (codes "statement") (number (unsigned n)) (member (codes "text") (string (printed_text asked)) (member (codes "txn") (number (unsigned ctx.txn)) no_members)))))))

-- one of an attempt that ended so
abbrev pub attempt_data : AttemptEnd → ℕ → Ctx → Statement → Effect → List RowOutcome → Data
attempt_data ended n ctx asked effect rows =
    object (member (codes "attempt") (number (unsigned ctx.txn)) (member (codes "ended") (string (ended_text ended)) (member (codes "login") (string ctx.login) (member (codes "reply") (string (came_text (tag_of asked) effect)) (member (codes "role") (string ctx.role) (member (codes "rows") (array (items_of (map row_data rows))) (member (codes "statement") (number (unsigned n)) (member (codes "text") (string (printed_text asked)) no_members))))))))

abbrev pub statement_data : Option AttemptEnd → ℕ → Ctx → Statement → Effect → List RowOutcome → Data
statement_data None n ctx asked effect rows = transaction_data n ctx asked effect rows
statement_data (Some ended) n ctx asked effect rows = attempt_data ended n ctx asked effect rows

-- the same as a text
abbrev pub object_text : Option AttemptEnd → ℕ → Ctx → Statement → Effect → List RowOutcome → List ℕ
object_text ended n ctx asked effect rows = compact_text (statement_data ended n ctx asked effect rows)

-- the same on a line
abbrev pub object_line : Option AttemptEnd → ℕ → Ctx → Statement → Effect → List RowOutcome → List ℕ
object_line ended n ctx asked effect rows = object_text ended n ctx asked effect rows ++ 10 ∷ []
