-- How it is written what the statements of an audit did with rows.
use Rattle.std.specs.Prelude.{ℕ, List, [], ◌∷◌, ◌++◌, ◌-◌, ◌+◌, Bool, true, false, ◌&&◌, ◌||◌, not, nat_eq, nat_le, nat_lt, Option, Some, None, if◌then◌else◌, filter, map, length, codes}
use Rattle.std.specs.Fmt.{decimal}
use Rattle.std.specs.List.{flat_map}
use Rattle.std.specs.Str.{bytes_eq}
use Rattle.rls_value.specs.declared.object.Object.{Object}
use Rattle.rls_catalog.specs.State.{State}
use Rattle.rls_statement.specs.{declared.statement.Statement.Statement, Tags.tag_of}
use Rattle.rls_statement.specs.declared.statement.Statement.TheVariants as statement
use Rattle.rls_audit.specs.Printed.{printed_text}
use Rattle.rls_audit.specs.rls_audit_lines.specs.declared.attempts.AttemptEnd.{AttemptEnd}
use Rattle.rls_explain.specs.declared.outcome.{RowWord.RowWord, RowOutcome.RowOutcome}
use Rattle.rls_explain.specs.declared.outcome.RowWord.TheVariants as w
use Rattle.rls_explain.specs.Outcomes.{outcomes_with}
use Rattle.rls_explain.specs.rls_meaning.specs.rls_guard.specs.{declared.context.Ctx.Ctx, declared.effect.Effect.Effect}
use Rattle.rls_check.specs.declared.filtering.ShownFilter.{ShownFilter}
use Rattle.rls_check.specs.declared.walking.Turn.{Turn}
use Rattle.rls_audit.specs.rls_printing.specs.Escaped.{escaped_line}
use Rattle.rls_check.specs.AttemptTexts.{ended_text}
use Rattle.rls_check.specs.ShownFilters.{is_asked_in, is_narrow, is_wanted}
use Rattle.rls_check.specs.ShownObjects.{object_line}
use Rattle.rls_check.specs.ShownRows.{row_text, row_word}
use Rattle.rls_check.specs.Walking.{Standing}
use Rattle.rls_check.specs.WhyTexts.{came_text}

-- ---- words

-- it is counted where each isn't asked for
abbrev pub is_hidden_word : RowWord → Bool
is_hidden_word w.Hidden = true
is_hidden_word word = false

abbrev pub is_barred_word : RowWord → Bool
is_barred_word w.Barred = true
is_barred_word word = false

abbrev pub is_skipped_word : RowWord → Bool
is_skipped_word w.Skipped = true
is_skipped_word word = false

abbrev pub is_seen_word : RowWord → Bool
is_seen_word w.Seen = true
is_seen_word word = false

abbrev pub is_left_word : RowWord → Bool
is_left_word word = is_hidden_word word || (is_barred_word word || is_skipped_word word)

-- ---- a statement

-- its table; none of a statement that isn't about rows
abbrev pub target_of : Statement → Option (List ℕ)
target_of (statement.Select asked) = Some asked.table
target_of (statement.Insert asked) = Some asked.table
target_of (statement.Update asked) = Some asked.table
target_of (statement.Delete asked) = Some asked.table
target_of asked = None

-- whose statement it is: that of a transaction, or of an attempt, where it is said how it ended
abbrev pub owner_word : Option AttemptEnd → List ℕ
owner_word None = codes "txn"
owner_word (Some ended) = codes "attempt"

-- who ran which statement
abbrev pub head_with : List ℕ → ℕ → Ctx → Statement → List ℕ
head_with owner number ctx asked = owner ++ (codes " " ++ (decimal ctx.txn ++ (codes " statement " ++ (decimal number ++ (codes " role " ++ (ctx.role ++ (codes ": " ++ printed_text asked)))))))

abbrev pub head_line : Option AttemptEnd → ℕ → Ctx → Statement → List ℕ
head_line ended number ctx asked = head_with (owner_word ended) number ctx asked

abbrev pub reply_line : Statement → Effect → List ℕ
reply_line asked effect = codes "reply: " ++ came_text (tag_of asked) effect

-- how its attempt ended; no line of a transaction
abbrev pub ended_line : AttemptEnd → List ℕ
ended_line ended = codes "ended: " ++ ended_text ended

abbrev pub ended_lines : Option AttemptEnd → List ℕ
ended_lines None = []
ended_lines (Some ended) = escaped_line (ended_line ended)

-- how many there are
abbrev pub rows_word : ℕ → List ℕ
rows_word n = if nat_eq n 1 then codes " row" else codes " rows"

-- those of them that are only counted, in this order
abbrev pub is_hidden : RowOutcome → Bool
is_hidden one = is_hidden_word one.word

abbrev pub is_barred : RowOutcome → Bool
is_barred one = is_barred_word one.word

abbrev pub is_skipped : RowOutcome → Bool
is_skipped one = is_skipped_word one.word

abbrev pub count_text : RowWord → List ℕ → ℕ → List ℕ
count_text word table n =
    if nat_eq n 0 then []
    else escaped_line (codes "  " ++ (row_word word ++ (codes " " ++ (table ++ (codes ": " ++ (decimal n ++ rows_word n))))))

abbrev pub counts_text : List ℕ → List RowOutcome → List ℕ
counts_text table rows =
    count_text w.Hidden table (length (filter is_hidden rows)) ++ (count_text w.Barred table (length (filter is_barred rows)) ++ count_text w.Skipped table (length (filter is_skipped rows)))

-- it stands on a line of its own, before what is counted
abbrev pub is_told : RowOutcome → Bool
is_told one = not (is_left_word one.word || is_seen_word one.word)

abbrev pub is_seen : RowOutcome → Bool
is_seen one = is_seen_word one.word

-- each row on its line
abbrev pub all_text : State → List RowOutcome → List ℕ
all_text s rows = flat_map (λ one. escaped_line (row_text s one)) rows

-- so many rows of the table could be seen; how many there are beside the 20 that are told
abbrev pub more_text : List ℕ → ℕ → List ℕ
more_text table n =
    if nat_le n 20 then []
    else escaped_line (codes "  seen " ++ (table ++ (codes ": " ++ (decimal (n - 20) ++ (codes " more" ++ rows_word (n - 20))))))

-- of the rows of each table that could be seen the first 20 are told; so many of this table were before
abbrev pub seen_on : State → List ℕ → ℕ → List RowOutcome → List ℕ
seen_on s table n [] = more_text table n
seen_on s table n (one ∷ rows) =
    if bytes_eq table one.table then (if nat_lt n 20 then escaped_line (row_text s one) else []) ++ seen_on s table (n + 1) rows
    else more_text table n ++ (escaped_line (row_text s one) ++ seen_on s one.table 1 rows)

-- the same from the first on
abbrev pub seen_text : State → List RowOutcome → List ℕ
seen_text s [] = []
seen_text s (one ∷ rows) = escaped_line (row_text s one) ++ seen_on s one.table 1 rows

-- each row on its line, or some of them counted
abbrev pub rows_text : ShownFilter → State → List ℕ → List RowOutcome → List ℕ
rows_text it s table rows =
    if is_narrow it || it.all then all_text s rows
    else all_text s (filter is_told rows) ++ (counts_text table rows ++ seen_text s (filter is_seen rows))

-- its lines, with these rows
abbrev pub lines_of : Option AttemptEnd → ShownFilter → ℕ → State → Ctx → Statement → Effect → List ℕ → List RowOutcome → List ℕ
lines_of ended it number s ctx asked effect table rows =
    escaped_line (head_line ended number ctx asked) ++ (escaped_line (reply_line asked effect) ++ (ended_lines ended ++ rows_text it s table rows))

-- its lines or its object, with these rows; nothing where it has none of the rows that are asked for
abbrev pub block_of : Option AttemptEnd → ShownFilter → ℕ → State → Ctx → Statement → Effect → List ℕ → List RowOutcome → List ℕ
block_of ended it number s ctx asked effect table rows =
    if is_narrow it && nat_eq (length rows) 0 then []
    else if it.json then object_line ended number ctx asked effect rows
    else lines_of ended it number s ctx asked effect table rows

-- none of a statement that isn't about rows, or isn't asked for
abbrev pub block_if : Option AttemptEnd → ShownFilter → ℕ → State → Ctx → Statement → Effect → List Object → Option (List ℕ) → List ℕ
block_if ended it number s ctx asked effect read None = []
block_if ended it number s ctx asked effect read (Some table) = if is_asked_in it ctx then block_of ended it number s ctx asked effect table (filter (is_wanted it) (outcomes_with s ctx asked effect read)) else []

-- what is written of the statement of this number, in this state and context, that comes to this and reads these objects
abbrev pub block_text : Option AttemptEnd → ShownFilter → ℕ → State → Ctx → Statement → Effect → List Object → List ℕ
block_text ended it number s ctx asked effect read = block_if ended it number s ctx asked effect read (target_of asked)

-- the same of a turn
abbrev pub text_of_turn : Option AttemptEnd → ShownFilter → Turn → List ℕ
text_of_turn ended it turn = block_text ended it turn.number turn.before turn.ctx turn.statement turn.outcome.effect turn.outcome.footprint

-- and of all
abbrev pub text_of_all : Option AttemptEnd → ShownFilter → List Standing → List ℕ
text_of_all ended it standings = flat_map (λ standing. block_text ended it standing.number standing.before standing.ctx standing.shown.statement standing.effect standing.reads) standings

-- both of transactions
abbrev pub turn_text : ShownFilter → Turn → List ℕ
turn_text it turn = text_of_turn None it turn

abbrev pub shown_text : ShownFilter → List Standing → List ℕ
shown_text it standings = text_of_all None it standings
