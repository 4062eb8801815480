-- Which transactions the lines of a run were answered in, told from the lines, in their order, and what each was answered. A connect, a
-- BEGIN and a statement outside a block begin a transaction, and transactions are numbered as they begin, from 1; so are commits, the
-- statements of a transaction, and from 0 the rows that it inserts.
use Rattle.std.specs.Prelude.{◌≡◌, ◌<◌, ◌^◌, ℕ, ◌+◌, ◌-◌, nat_eq, nat_lt, Bool, true, false, cond, List, [], ◌∷◌, ◌++◌, length, take, drop, map, set, slice_get, Option, Some, None, codes}
use Rattle.std.specs.Fmt.{decimal}
use Rattle.std.specs.List.{flat_map}
use Rattle.std.specs.Str.{bytes_eq}
use Rattle.std.specs.Str.Lines.{lines}
use Rattle.rls_statement.specs.declared.statement.Statement.{Statement}
use Rattle.rls_statement.specs.declared.statement.Statement.TheVariants as statement
use Rattle.rls_script.specs.declared.line.Line.{Line}
use Rattle.rls_script.specs.declared.line.Line.TheVariants as l
use Rattle.rls_script.specs.declared.requesting.{Ask.Ask, Request.Request, Status.Status}
use Rattle.rls_script.specs.declared.requesting.Ask.TheVariants as ask
use Rattle.rls_script.specs.declared.requesting.Request.TheVariants as q
use Rattle.rls_script.specs.declared.requesting.Status.TheVariants as status
use Rattle.rls_script.specs.Lines.{IsRead}
use Rattle.rls_script.specs.Plans.{place_in, with_name}
use Rattle.rls_script.specs.Requests.{Requests}
use Rattle.rls_transcript.specs.declared.numbering.{Block.Block, Counts.Counts, Rows.Rows, Stand.Stand, Step.Step, Where.Where}
use Rattle.rls_transcript.specs.declared.numbering.Stand.TheVariants as s
use Rattle.rls_transcript.specs.declared.numbering.Where.TheVariants as w
use Rattle.rls_transcript.specs.Told.{Told, behind_label}

-- ---- what an answer tells

-- the code of a refusal: what stands behind ERROR
abbrev pub code_in : Told → List ℕ
code_in told = cond told.refused (take 5 (drop 6 (behind_label told.text))) []

-- 40001, which ends the transaction
abbrev pub is_conflict : Told → Bool
is_conflict told = bytes_eq (code_in told) (codes "40001")

-- 28000: no transaction begins. Limits on transactions refuse it too; no script reaches them.
abbrev pub is_unbegun : Told → Bool
is_unbegun told = bytes_eq (code_in told) (codes "28000")

-- how many rows the statement inserts: each tuple of an INSERT that is done
abbrev pub inserted : Statement → Told → ℕ
inserted (statement.Insert it) told = cond told.refused 0 (length it.tuples)
inserted asked told = 0

-- ---- a command

-- the label stands as before
abbrev pub stays : Counts → Stand → Where → Step
stays counts stand at = record { at = at; stand = stand; counts = counts }

-- one more began
abbrev pub one_begun : Counts → Counts
one_begun counts = record counts { begun = counts.begun + 1 }

-- one more committed
abbrev pub one_committed : Counts → Counts
one_committed counts = record counts { committed = counts.committed + 1 }

-- a connect; refused, nobody is connected
abbrev pub connect_step : Counts → Told → Step
connect_step counts told = cond told.refused (stays counts s.Nobody w.Nowhere) (stays (one_begun counts) s.Outside (w.Begun (counts.begun + 1)))

-- BEGIN
abbrev pub begin_step : Counts → Stand → Told → Step
begin_step counts stand told =
    cond told.refused (stays counts stand w.Nowhere)
    (stays (one_begun counts) (s.Open (record { txn = counts.begun + 1; statements = 0; rows = 0 })) (w.Begun (counts.begun + 1)))

-- a block behind one statement more
abbrev pub block_behind : Block → ℕ → Block
block_behind block count = record block { statements = block.statements + 1; rows = block.rows + count }

-- a statement in a block
abbrev pub open_step : Counts → Block → Statement → Told → Step
open_step counts block asked told =
    cond (is_conflict told) (stays counts (s.Over block.txn) (w.Over block.txn))
    (stays counts (s.Open (block_behind block (inserted asked told))) (w.Posted block.txn (block.statements + 1) (record { first = block.rows; count = inserted asked told })))

abbrev pub post_step : Counts → Stand → Statement → Told → Step
post_step counts (s.Open block) asked told = open_step counts block asked told
post_step counts stand asked told = stays counts stand w.Nowhere

-- a statement outside a block, which is a transaction of its own
abbrev pub run_step : Counts → Stand → Statement → Told → Step
run_step counts stand asked told =
    cond (is_unbegun told) (stays counts stand w.Nowhere)
    (cond (is_conflict told) (stays (one_begun counts) stand (w.Over (counts.begun + 1)))
    (stays (one_committed (one_begun counts)) stand (w.Alone (counts.begun + 1) (record { first = 0; count = inserted asked told }) (counts.committed + 1))))

-- COMMIT
abbrev pub commit_step : Counts → Stand → Told → Step
commit_step counts (s.Open block) told =
    cond told.refused (stays counts s.Outside (w.Over block.txn)) (stays (one_committed counts) s.Outside (w.Committed block.txn (counts.committed + 1)))
commit_step counts stand told = stays counts stand w.Nowhere

-- ROLLBACK, and COMMIT of a block that is over
abbrev pub rollback_step : Counts → Stand → Step
rollback_step counts (s.Open block) = stays counts s.Outside (w.Over block.txn)
rollback_step counts (s.Over txn) = stays counts s.Outside (w.Over txn)
rollback_step counts stand = stays counts stand w.Nowhere

-- what is asked of a session
abbrev pub asked_step : Counts → Stand → Ask → Told → Step
asked_step counts stand (ask.Begin mode) told = begin_step counts stand told
asked_step counts stand (ask.Post asked) told = post_step counts stand asked told
asked_step counts stand (ask.Run asked) told = run_step counts stand asked told
asked_step counts stand ask.Commit told = commit_step counts stand told
asked_step counts stand ask.Rollback told = rollback_step counts stand

-- a command by what it requests
abbrev pub step_of : Counts → Stand → Request → Told → Step
step_of counts stand (q.Nothing refusal) told = stays counts stand w.Nowhere
step_of counts stand (q.Connect role) told = connect_step counts told
step_of counts stand (q.Ask asked) told = asked_step counts stand asked told

-- ---- lines

-- how a label stands, as commands are read
abbrev pub status_of : Stand → Status
status_of s.Nobody = status.Nobody
status_of s.Outside = status.Outside
status_of (s.Open block) = status.Open
status_of (s.Over txn) = status.Over

-- how a run stands: the labels in the order in which they came, how each stands, and what was counted
pub record Run : Type 0 where
  pub names : List (List ℕ)
  pub stands : List Stand
  pub counts : Counts

-- no line was read
abbrev pub opening_run : Run
opening_run = record { names = []; stands = []; counts = record { begun = 0; committed = 0 } }

-- under a label that hasn't come nobody is connected
abbrev pub or_nobody : Option Stand → Stand
or_nobody (Some stand) = stand
or_nobody None = s.Nobody

-- how the label at a place stands
abbrev pub stand_at : Run → ℕ → Stand
stand_at run place = or_nobody (slice_get run.stands place)

-- the stands with this one at the place, or behind all
abbrev pub with_stand : List Stand → ℕ → Stand → List Stand
with_stand stands place stand = cond (nat_lt place (length stands)) (set stands place stand) (stands ++ stand ∷ [])

-- the run behind the step of a label
abbrev pub run_behind : Run → List ℕ → Step → Run
run_behind run name step = record { names = with_name run.names name; stands = with_stand run.stands (place_in run.names name) step.stand; counts = step.counts }

-- a command under its label
pub record IsStepped (run : Run) (name command : List ℕ) (told : Told) (at : Where) (after : Run) : Type 0 where
  pub request : Request
  pub requests : Requests (status_of (stand_at run (place_in run.names name))) command request
  pub at_is : at ≡ (step_of run.counts (stand_at run (place_in run.names name)) request told).at
  pub after_is : after ≡ run_behind run name (step_of run.counts (stand_at run (place_in run.names name)) request told)

-- nothing began, and the run stands as before
pub record IsNowhere (run : Run) (at : Where) (after : Run) : Type 0 where
  pub at_is : at ≡ w.Nowhere
  pub after_is : after ≡ run

-- the label is among the first 64, or every command under it is refused
abbrev pub IsNumberedIf : Bool → Run → List ℕ → List ℕ → Told → Where → Run → Type 0
IsNumberedIf true run name command told at after = IsStepped run name command told at after
IsNumberedIf false run name command told at after = IsNowhere run at after

-- a line
abbrev pub IsNumberedAs : Line → Run → Told → Where → Run → Type 0
IsNumberedAs (l.Command label command) run told at after = IsNumberedIf (nat_lt (place_in run.names label.now) 64) run label.now command.now told at after
IsNumberedAs read run told at after = IsNowhere run at after

-- the same from the line's bytes
pub record IsNumbered (line : List ℕ) (run : Run) (told : Told) (at : Where) (after : Run) : Type 0 where
  pub read : Line
  pub is_read : IsRead line read
  pub numbered : IsNumberedAs read run told at after

-- of each of the answers, which transaction its line was answered in; behind the last of them lines are left out
pub data AreNumbered : (lines : List (List ℕ)) → Run → List Told → List Where → Type 0 where
  none : {lines : List (List ℕ)} {run : Run} → AreNumbered lines run [] []
  next : {line : List ℕ} {lines : List (List ℕ)} {run after : Run} {told : Told} {tolds : List Told} {at : Where} {wheres : List Where} → IsNumbered line run told at after → AreNumbered lines after tolds wheres → AreNumbered (line ∷ lines) run (told ∷ tolds) (at ∷ wheres)

-- ---- what is written

-- a tab
abbrev pub is_tab : ℕ → Bool
is_tab byte = nat_eq byte 9

-- its numbers are below 2^64
abbrev pub IsSmall : Where → Type 0
IsSmall w.Nowhere = Unit {0}
IsSmall (w.Begun txn) = txn < 2 ^ 64
IsSmall (w.Posted txn number rows) = (txn < 2 ^ 64) × (number < 2 ^ 64) × (rows.first + rows.count < 2 ^ 64)
IsSmall (w.Alone txn rows commit) = (txn < 2 ^ 64) × (rows.first + rows.count < 2 ^ 64) × (commit < 2 ^ 64)
IsSmall (w.Committed txn commit) = (txn < 2 ^ 64) × (commit < 2 ^ 64)
IsSmall (w.Over txn) = txn < 2 ^ 64

-- the rows of this number of a transaction; no row is none
abbrev pub rows_text : ℕ → Rows → List ℕ
rows_text txn rows =
    cond (nat_eq rows.count 0) []
    (cond (nat_eq rows.count 1) (codes " rows " ++ (decimal txn ++ (codes "." ++ decimal rows.first)))
    (codes " rows " ++ (decimal txn ++ (codes "." ++ (decimal rows.first ++ (codes "-" ++ (decimal txn ++ (codes "." ++ decimal (rows.first + (rows.count - 1))))))))))

abbrev pub where_text : Where → List ℕ
where_text w.Nowhere = codes "-"
where_text (w.Begun txn) = decimal txn
where_text (w.Posted txn number rows) = decimal txn ++ (codes "." ++ (decimal number ++ rows_text txn rows))
where_text (w.Alone txn rows commit) = decimal txn ++ (codes ".1" ++ (rows_text txn rows ++ (codes " commit " ++ decimal commit)))
where_text (w.Committed txn commit) = decimal txn ++ (codes " commit " ++ decimal commit)
where_text (w.Over txn) = decimal txn ++ codes " over"

-- the number of a script's line, and its transaction, up to the tab
abbrev pub mark_text : ℕ → Where → List ℕ
mark_text number at = decimal number ++ (codes " " ++ (where_text at ++ (9 ∷ [])))

-- each line of the answer behind that
abbrev pub numbered_answer : ℕ → Where → List (List ℕ) → List ℕ
numbered_answer number at answer = flat_map (λ line. mark_text number at ++ (line ++ (10 ∷ []))) answer

-- the answers to lines, of which the first has this number
abbrev pub numbered_from : ℕ → List Told → List Where → List ℕ
numbered_from number [] wheres = []
numbered_from number (told ∷ tolds) [] = []
numbered_from number (told ∷ tolds) (at ∷ wheres) = numbered_answer number at (lines told.text) ++ numbered_from (number + 1) tolds wheres

-- ---- a law

-- what stands behind the first tab of a line
abbrev pub behind_tab : List ℕ → List ℕ
behind_tab [] = []
behind_tab (byte ∷ bytes) = cond (is_tab byte) bytes (behind_tab bytes)

-- no mark has a tab but at its end
abbrev pub MarksEndAtTab : Type 0
MarksEndAtTab = (number : ℕ) (at : Where) (line : List ℕ) → number < 2 ^ 64 → IsSmall at → behind_tab (mark_text number at ++ line) ≡ line
