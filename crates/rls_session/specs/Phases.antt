-- What a script in phases means: in each phase every label runs its own lines beside the others, and then the labels' texts follow
-- one another.
use Rattle.std.specs.Prelude.{◌≡◌, ℕ, zero, suc, min, Bool, true, false, ◌<◌, ◌≤◌, nat_eq, nat_le, List, [], ◌∷◌, ◌++◌, length, map, codes, Option, None, slice_index_or}
use Rattle.std.specs.List.{filter}
use Rattle.std.specs.List.Sorted.{IsPermutation, IsSorted}
use Rattle.std.specs.Ordering.{nat_cmp}
use Rattle.rls_script.specs.{Rendering.answer_text, declared.answer.Answer.Answer}
use Rattle.rls_script.specs.declared.answer.Answer.TheVariants as a
use Rattle.rls_script.specs.declared.standing.Standing.{Standing}
use Rattle.rls_script.specs.declared.standing.Standing.TheVariants as s
use Rattle.rls_script.specs.Plans.{Task, place_in, refusal_of, standing_of}
use Rattle.rls_session.specs.{Blocks.Executes, Parts.Notes, Parts.Session, Parts.alike, Parts.joined, Parts.with_end}
use Rattle.rls_session.specs.Labels.{opening_script}
use Rattle.rls_session.specs.Scripts.{end_by}

-- a label between phases: its place, its name, its standing, and its session where somebody is connected under it
pub record Seat : Type 0 where
  pub place : ℕ
  pub name : List ℕ
  pub standing : Standing
  pub session : Option Session

-- a label in a phase: what it was shown since the phase's beginning, and what was written for it
pub record Track : Type 0 where
  pub seat : Seat
  pub notes : Notes
  pub written : List ℕ

-- its text
abbrev pub refused_text : List ℕ → Standing → List ℕ
refused_text name standing = answer_text false name (a.Refused (refusal_of standing))

-- a command executed in the label's session
pub record RunsServed (old : Track) (command : List ℕ) (new : Track) : Type 0 where
  pub answer : Answer
  pub session : Option Session
  pub notes : Notes
  pub executes : Executes old.notes old.seat.session command answer notes session
  pub becomes : new ≡ record { seat = record { place = old.seat.place; name = old.seat.name; standing = old.seat.standing; session = session }; notes = with_end (end_by answer) notes; written = old.written ++ answer_text old.notes.terse old.seat.name answer }

-- a line of the label
abbrev pub RunsAs : Standing → Track → List ℕ → Track → Type 0
RunsAs s.Served old command new = RunsServed old command new
RunsAs standing old command new = new ≡ record { seat = old.seat; notes = old.notes; written = old.written ++ refused_text old.seat.name standing }

-- a line of the phase, if it is the label's
abbrev pub RunsIf : Bool → Track → List ℕ → Track → Type 0
RunsIf true old command new = RunsAs old.seat.standing old command new
RunsIf false old command new = new ≡ old

abbrev pub RunsTask : Track → Task → Track → Type 0
RunsTask old task new = RunsIf (nat_eq task.place old.seat.place) old task.command new

-- lines of a phase, of which the label runs its own, one after another
pub data Follows (from : Track) : List Task → Track → Type 0 where
  none : Follows from [] from
  next : {tasks : List Task} {old new : Track} (task : Task) → Follows from tasks old → RunsTask old task new → Follows from (tasks ++ task ∷ []) new

-- a label at the beginning of a phase, where it knows of every commit that was shown before
abbrev pub enters : Notes → Seat → Track
enters notes seat = record { seat = seat; notes = alike notes; written = [] }

-- the labels that have seats, and what was shown to them all
pub record Stage : Type 0 where
  pub seats : List Seat
  pub notes : Notes

-- each label's lines
pub record EachFollows (stage : Stage) (tasks : List Task) (tracks : List Track) : Type 0 where
  pub count : length tracks ≡ length stage.seats
  pub follows : (i : ℕ) (d : Seat) (e : Track) → i < length stage.seats → Follows (enters stage.notes (slice_index_or stage.seats i d)) tasks (slice_index_or tracks i e)

-- the labels' texts, one after another
abbrev pub texts_of : List Track → List ℕ
texts_of [] = []
texts_of (track ∷ tracks) = track.written ++ texts_of tracks

-- what was shown to them all
abbrev pub notes_after : Notes → List Track → Notes
notes_after notes [] = notes
notes_after notes (track ∷ tracks) = notes_after (joined notes track.notes) tracks

abbrev pub seats_of : List Track → List Seat
seats_of tracks = map (λ track. track.seat) tracks

-- the places behind the first 65 labels, of which 64 have sessions and one may be `?`: the labels there have none
abbrev pub is_late : ℕ → Bool
is_late place = nat_le 65 place

-- the places of lines
abbrev pub places_of : List Task → List ℕ
places_of tasks = map (λ task. task.place) tasks

-- the late places, one for each line there, in the order of the labels
pub record AreLate (tasks : List Task) (late : List ℕ) : Type 0 where
  pub all : IsPermutation (filter is_late (places_of tasks)) late
  pub sorted : IsSorted nat_cmp late

-- the text of the label at a place that has no session, for one line
abbrev pub late_line : List (List ℕ) → ℕ → List ℕ
late_line names place = refused_text (slice_index_or names place []) (standing_of (place_in names (codes "?")) place)

abbrev pub late_text : List (List ℕ) → List ℕ → List ℕ
late_text names [] = []
late_text names (place ∷ places) = late_line names place ++ late_text names places

-- a phase: each label runs its own lines from what was known at the beginning, and what is written goes label by label
pub record Passes (names : List (List ℕ)) (stage : Stage) (tasks : List Task) (written : List ℕ) (after : Stage) : Type 0 where
  pub tracks : List Track
  pub each : EachFollows stage tasks tracks
  pub late : List ℕ
  pub are_late : AreLate tasks late
  pub text : written ≡ texts_of tracks ++ late_text names late
  pub becomes : after ≡ record { seats = seats_of tracks; notes = notes_after stage.notes tracks }

-- the label at a place, before anybody is connected
abbrev pub opening_seat : List (List ℕ) → ℕ → Seat
opening_seat names place = record { place = place; name = slice_index_or names place []; standing = standing_of (place_in names (codes "?")) place; session = None }

abbrev pub opening_seats : List (List ℕ) → ℕ → List Seat
opening_seats names zero = []
opening_seats names (suc place) = opening_seats names place ++ opening_seat names place ∷ []

-- before the first phase
abbrev pub opening_stage : (terse keeps : Bool) → List (List ℕ) → Stage
opening_stage terse keeps names = record { seats = opening_seats names (min (length names) 65); notes = (opening_script terse keeps).notes }

-- the labels' sessions
abbrev pub sessions_at : List Seat → List (Option Session)
sessions_at seats = map (λ seat. seat.session) seats

-- phases one after another
pub data RunsPhases (terse keeps : Bool) (names : List (List ℕ)) : List (List Task) → List ℕ → Stage → Type 0 where
  none : RunsPhases terse keeps names [] [] (opening_stage terse keeps names)
  next : {phases : List (List Task)} {tasks : List Task} {written more : List ℕ} {stage after : Stage} → RunsPhases terse keeps names phases written stage → Passes names stage tasks more after → RunsPhases terse keeps names (phases ++ tasks ∷ []) (written ++ more) after
