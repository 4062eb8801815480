-- What a script means: the bytes that are written for it, and the transactions that they show as committed.
use Rattle.std.specs.Prelude.{◌≡◌, ℕ, Bool, false, List, [], ◌∷◌, ◌++◌, codes}
use Rattle.rls_value.specs.declared.tag.Tag.TheVariants as t
use Rattle.std.specs.Str.Lines.{lines}
use Rattle.rls_value.specs.declared.refusal.Refusal.TheVariants as r
use Rattle.rls_engine.specs.rls_core.specs.Records.{Record}
use Rattle.rls_script.specs.Lines.{IsRead}
use Rattle.rls_script.specs.Rendering.{answer_text}
use Rattle.rls_script.specs.Streams.{GrewBy}
use Rattle.rls_script.specs.declared.answer.Answer.{Answer}
use Rattle.rls_script.specs.declared.answer.Answer.TheVariants as a
use Rattle.rls_script.specs.declared.line.Line.{Line}
use Rattle.rls_script.specs.declared.line.Line.TheVariants as l
use Rattle.rls_session.specs.Books.{AreTheRecords, AreTried}
use Rattle.rls_session.specs.declared.tried.End.{End}
use Rattle.rls_session.specs.declared.tried.End.TheVariants as e
use Rattle.rls_engine.specs.rls_core.specs.rls_guard.specs.rls_catalog.specs.Changed.{opening}
use Rattle.rls_session.specs.Parts.{Notes, Tried, with_end}
use Rattle.rls_session.specs.Alone.{AreAlone, HasOneLabel}
use Rattle.rls_session.specs.Labels.{Entry, Script, ended_all, opening_script, sessions_of, AnswersUnder}

-- how the transaction ended that a command with this answer ended without a commit: it answered 40001, or was ROLLBACK; else it was a
-- connect, as no other command ends one so
abbrev pub end_by : Answer → End
end_by (a.Refused (r.Serial why)) = e.Conflict why
end_by (a.Replied t.Rollback reply) = e.Rollback
end_by answer = e.Connect

-- it is told so
abbrev pub told_by : Answer → Script → Script
told_by answer script = record { labels = script.labels; notes = with_end (end_by answer) script.notes }

-- a command under its label
pub record RunsCommand (script : Script) (label command written : List ℕ) (after : Script) : Type 0 where
  pub answer : Answer
  pub behind : Script
  pub answers : AnswersUnder script label command answer behind
  pub shown : written ≡ answer_text script.notes.terse label answer
  pub told : after ≡ told_by answer behind

-- what is written for a line, and the script behind it; one without a label is answered under `?`
abbrev pub RunsRead : Line → Script → List ℕ → Script → Type 0
RunsRead l.Skipped script written after = (written ≡ []) × (after ≡ script)
RunsRead l.Phase script written after = (written ≡ []) × (after ≡ script)
RunsRead (l.Command label command) script written after = RunsCommand script label.now command.now written after
RunsRead l.Unlabelled script written after = (written ≡ answer_text false (codes "?") (a.Refused r.Syntax)) × (after ≡ script)

-- the same from the line's bytes
pub record RunsLine (line : List ℕ) (script : Script) (written : List ℕ) (after : Script) : Type 0 where
  pub read : Line
  pub is_read : IsRead line read
  pub runs : RunsRead read script written after

-- lines one after another: what is written for each is joined
pub data RunsLines : List (List ℕ) → Script → List ℕ → Script → Type 0 where
  none : {script : Script} → RunsLines [] script [] script
  next : {line : List ℕ} {lines : List (List ℕ)} {script middle after : Script} {written more : List ℕ} → RunsLine line script written middle → RunsLines lines middle more after → RunsLines (line ∷ lines) script (written ++ more) after

-- The bytes that are written for a script, run in the order of its lines, with refusals told tersely or not. The records are those of
-- the transactions that they show as committed, and no others: each has its own, with its login, role, mode, statements and replies,
-- on a snapshot that has every commit shown before the line that began it. Where one label has all commands, each comes to what it
-- comes to alone, after those before it. And the transactions that ended without a commit, where they are kept: by a command, or at the
-- end of the script.
pub record IsScriptRun (terse keeps : Bool) (script written : List ℕ) (history : List Record) (tried : List Tried) : Type 0 where
  pub after : Script
  pub runs : RunsLines (lines script) (opening_script terse keeps) written after
  pub records : AreTheRecords history after.notes.shown
  pub alone : HasOneLabel script → AreAlone opening after.notes.shown
  pub tried_are : AreTried history (ended_all (sessions_of after.labels) after.notes) tried

-- the same, whatever is kept
abbrev pub IsScriptText : (terse : Bool) → (script written : List ℕ) → List Record → Type 0
IsScriptText terse script written history = (keeps : Bool) × (tried : List Tried) × IsScriptRun terse keeps script written history tried

-- lines from the opening on led here
abbrev pub RunsLinesTo : (terse keeps : Bool) → (script written : List ℕ) → Script → Type 0
RunsLinesTo terse keeps script written after = RunsLines (lines script) (opening_script terse keeps) written after

-- lines from the opening on, and the end of the script, led to these notes
pub record LeadsTo (terse keeps : Bool) (script written : List ℕ) (notes : Notes) : Type 0 where
  pub labels : List Entry
  pub behind : Notes
  pub runs : RunsLines (lines script) (opening_script terse keeps) written (record { labels = labels; notes = behind })
  pub ended : notes ≡ ended_all (sessions_of labels) behind

-- what was taken grew by the text of what was given, and these transactions ended without a commit, where they are kept
pub record RunsScriptKeeping (terse keeps : Bool) (given_before given_now taken_before taken_now : List ℕ) (history : List Record) (tried : List Tried) : Type 0 where
  pub script : List ℕ
  pub given : given_now ≡ given_before ++ script
  pub text : GrewBy taken_before taken_now (λ written. IsScriptRun terse keeps script written history tried)

-- what was taken grew by the text of what was given
pub record RunsScript (terse : Bool) (given_before given_now taken_before taken_now : List ℕ) (history : List Record) : Type 0 where
  pub script : List ℕ
  pub given : given_now ≡ given_before ++ script
  pub text : GrewBy taken_before taken_now (λ written. IsScriptText terse script written history)
