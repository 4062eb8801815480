-- The labels of a script: each has a session of its own, and at most 64 have one.
use Rattle.std.specs.Prelude.{◌≡◌, ℕ, ◌+◌, nat_lt, List, [], ◌∷◌, ◌++◌, Bool, true, false, take, drop, map, slice_get, Option, Some, None, refl}
use Rattle.std.specs.Coded.{Coded, code_by, coded×, coded_list, coded_option, coded_ℕ}
use Rattle.std.specs.List.{position_or_len}
use Rattle.std.specs.Str.{bytes_eq}
use Rattle.rls_value.specs.declared.refusal.Refusal.TheVariants as r
use Rattle.rls_value.specs.declared.refusal.Limit.TheVariants as l
use Rattle.rls_script.specs.declared.answer.Answer.{Answer}
use Rattle.rls_script.specs.declared.answer.Answer.TheVariants as a
use Rattle.rls_session.specs.declared.tried.End.TheVariants as end
use Rattle.rls_session.specs.{Blocks.Executes, Blocks.open_part, Parts.Notes, Parts.Session, Parts.session_code, Parts.tried_first, Parts.with_end, Parts.with_ended}

-- a label that has come, with its session where somebody is connected under it
pub record Entry : Type 0 where
  pub name : List ℕ
  pub session : Option Session

-- the code of these
abbrev pub entry_code : Coded Entry
entry_code = code_by (List ℕ × Option Session) (coded× (coded_list coded_ℕ) (coded_option session_code)) (λ e. (e.name, e.session)) (λ p. record { name = p.0; session = p.1 }) (λ _. refl)

-- the labels in the order in which they came, and what was shown to them all
pub record Script : Type 0 where
  pub labels : List Entry
  pub notes : Notes

-- before the first line no label has come
abbrev pub opening_script : (terse keeps : Bool) → Script
opening_script terse keeps = record { labels = []; notes = record { tag = 1; newest = 0; told = 0; shown = []; terse = terse; ended = None; tried = tried_first keeps } }

-- the place of the label in the order in which they came; one that hasn't come is behind them all
abbrev pub place_of : List Entry → List ℕ → ℕ
place_of labels name = position_or_len (λ label. bytes_eq label.name name) labels

-- the session at a place, none where no label stands there
abbrev pub session_at : Option Entry → Option Session
session_at None = None
session_at (Some label) = label.session

-- the label's session, none where nobody is connected or the label hasn't come
abbrev pub session_of : List Entry → List ℕ → Option Session
session_of labels name = session_at (slice_get labels (place_of labels name))

-- the labels with that session under the name; all others keep theirs
abbrev pub with_session : List Entry → List ℕ → Option Session → List Entry
with_session labels name session = take (place_of labels name) labels ++ record { name = name; session = session } ∷ drop (place_of labels name + 1) labels

-- a command is executed in its label's session
pub record ExecutesUnder (old : Notes) (labels : List Entry) (name command : List ℕ) (answer : Answer) (new : Notes) (labels_then : List Entry) : Type 0 where
  pub session : Option Session
  pub executes : Executes old (session_of labels name) command answer new session
  pub labelled : labels_then ≡ with_session labels name session

-- the label is among the first 64, or every command under it is refused
abbrev pub AnswersIf : Bool → Script → List ℕ → List ℕ → Answer → Script → Type 0
AnswersIf true script name command answer after = ExecutesUnder script.notes script.labels name command answer after.notes after.labels
AnswersIf false script name command answer after = (answer ≡ a.Refused (r.Limit l.Sessions)) × (after ≡ script)

-- the answer to a command under a label
abbrev pub AnswersUnder : Script → List ℕ → List ℕ → Answer → Script → Type 0
AnswersUnder script name command answer after = AnswersIf (nat_lt (place_of script.labels name) 64) script name command answer after

-- at the end of a script the open blocks of these sessions end, one after another
abbrev pub ended_all : List (Option Session) → Notes → Notes
ended_all [] notes = notes
ended_all (session ∷ more) notes = ended_all more (with_end end.Script (with_ended notes (open_part session)))

-- the labels' sessions
abbrev pub sessions_of : List Entry → List (Option Session)
sessions_of labels = map (λ label. label.session) labels
