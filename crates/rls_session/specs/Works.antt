-- A label's thread.
use Rattle.std.specs.Prelude.{◌≡◌, ℕ, Bool, false, List, map, Option, refl}
use Rattle.std.specs.Coded.{Coded, code_by, coded×, coded_list, coded_option, coded_bool, coded_ℕ}
use Rattle.rls_script.specs.declared.standing.Standing.{Standing}
use Rattle.rls_script.specs.contracts.standing.Standing as standing
use Rattle.rls_script.specs.Plans.{Task}
use Rattle.rls_session.specs.Parts.{Notes, Session, alike, notes_code, session_code}
use Rattle.rls_session.specs.Phases.{Seat, Track, Follows, enters}

-- the label's track, and whether it met a fault
pub record Work : Type 0 where
  pub track : Track
  pub failed : Bool

-- the codes of these
abbrev pub seat_code : Coded Seat
seat_code =
    code_by (ℕ × (List ℕ × (Standing × Option Session))) (coded× coded_ℕ (coded× (coded_list coded_ℕ) (coded× standing.the_row.coded (coded_option session_code))))
    (λ s. (s.place, (s.name, (s.standing, s.session)))) (λ p. record { place = p.0; name = p.1.0; standing = p.1.1.0; session = p.1.1.1 }) (λ _. refl)

abbrev pub work_code : Coded Work
work_code =
    code_by (Seat × (Notes × (List ℕ × Bool))) (coded× seat_code (coded× notes_code (coded× (coded_list coded_ℕ) coded_bool)))
    (λ w. (w.track.seat, (w.track.notes, (w.track.written, w.failed)))) (λ p. record { track = record { seat = p.0; notes = p.1.0; written = p.1.1.0 }; failed = p.1.1.1 }) (λ _. refl)

-- at the beginning of a phase
abbrev pub entered : Notes → Work → Work
entered notes work = record { track = enters notes work.track.seat; failed = false }

-- at its end, when what it was shown went to the others
abbrev pub finished : Work → Work
finished work = record { track = record { seat = work.track.seat; notes = alike work.track.notes; written = work.track.written }; failed = work.failed }

-- what a phase's lines make of it, unless it met a fault
abbrev pub IsRan : Work → List Task → Work → Type 0
IsRan old tasks new = new.failed ≡ false → Follows old.track tasks new.track

abbrev pub work_seats : List Work → List Seat
work_seats works = map (λ work. work.track.seat) works

abbrev pub tracks_of : List Work → List Track
tracks_of works = map (λ work. work.track) works
