-- Labels beside one another.
use Rattle.std.proofs.Common.{◌≡◌, ℕ, zero, suc, Bool, true, false, ◌+◌, ◌<◌, ◌≤◌, Option, None, Bor, Result, Ok, Err, OnOk, List, [], ◌∷◌, ◌++◌, length, codes, take, drop, map, slice_index_or, slice_set, refl, sym, ap, ◌∙◌, subst, arith, append-nil, append_assoc, length-append, inl, inr}
use Rattle.std.proofs.lemmas.List.{get_or-map, length-map, map-append, map_more, take_more, take_all, drop_all, get_or_default}
use Rattle.std.proofs.lemmas.List.Edits.{map_over_more}
use Rattle.std.proofs.lemmas.Bool.{cases_lt}
use Rattle.std.proofs.Math.ListN.{get_or}
use Rattle.rls_value.specs.declared.refusal.Refusal.{Refusal}
use Rattle.rls_script.specs.declared.answer.Answer.TheVariants as a
use Rattle.rls_script.specs.{Rendering.answer_text, declared.answer.Answer.Answer}
use Rattle.rls_script.specs.Streams.{GrewBy}
use Rattle.rls_script.specs.Plans.{Task, place_in, standing_of, refusal_of}
use Rattle.rls_session.specs.{Blocks.Executes, Parts.Notes, Parts.Session, Parts.joined, Parts.with_end}
use Rattle.rls_session.specs.Scripts.{end_by}
use Rattle.rls_session.specs.Phases.{Seat, Stage, Track, AreLate, EachFollows, Follows, Passes, RunsPhases, RunsServed, RunsTask, enters, late_line, late_text, notes_after, opening_seat, opening_seats, opening_stage, seats_of, texts_of, none, next}
use Rattle.rls_session.specs.Works.{Work, IsRan, entered, finished, tracks_of, work_seats}

-- one line more
pub follows_more : (from : Track) (tasks more : List Task) (task : Task) (old new : Track) → Follows from tasks old → RunsTask old task new → more ≡ tasks ++ task ∷ [] → Follows from more new
follows_more from tasks more task old new follows runs is = rw is (next task follows runs)

-- the lines up to the next one
pub follows_at : (from : Track) (tasks : List Task) (i : ℕ) (task : Task) (old new : Track) → i < length tasks → task ≡ get_or tasks i task → Follows from (take i tasks) old → RunsTask old task new → Follows from (take (i + 1) tasks) new
follows_at from tasks i task old new within is follows runs = follows_more from (take i tasks) (take (i + 1) tasks) task old new follows runs (take_more tasks i task within ∙ ap (λ (t : Task). take i tasks ++ t ∷ []) (sym is))

-- a command and its answer
pub served : {E : Type 0} (r : Result (Unit {0}) E) (terse : Bool) (old new : Track) (command : List ℕ) (answer : Answer) (notes told : Notes) (session : Option Session) → terse ≡ old.notes.terse → Executes old.notes old.seat.session command answer notes session → told ≡ with_end (end_by answer) notes → OnOk r (new ≡ record { seat = record { place = old.seat.place; name = old.seat.name; standing = old.seat.standing; session = session }; notes = told; written = old.written ++ answer_text terse old.seat.name answer }) → OnOk r (RunsServed old command new)
served (Ok x) terse old new command answer notes told session how executes tells becomes = record {
  answer = answer;
  session = session;
  notes = notes;
  executes = executes;
  becomes = becomes ∙ ap (λ (b : Bool). record { seat = record { place = old.seat.place; name = old.seat.name; standing = old.seat.standing; session = session }; notes = told; written = old.written ++ answer_text b old.seat.name answer }) how
      ∙ ap (λ (n : Notes). record { seat = record { place = old.seat.place; name = old.seat.name; standing = old.seat.standing; session = session }; notes = n; written = old.written ++ answer_text old.notes.terse old.seat.name answer }) tells;
}
served (Err e) terse old new command answer notes told session how executes tells becomes = tt

-- each label of a phase
pub each_follows : (notes : Notes) (ws us vs : List Work) (tasks : List Task) → us ≡ map (entered notes) ws → length vs ≡ length us → ((i : ℕ) (d : Work) → i < length us → IsRan (slice_index_or us i d) tasks (slice_index_or vs i d)) → ((i : ℕ) (d : Work) → i < length vs → (slice_index_or vs i d).failed ≡ false) → EachFollows (record { seats = work_seats ws; notes = notes }) tasks (tracks_of vs)
each_follows notes ws us vs tasks is same ran whole =
    let counted : length us ≡ length ws = ap length is ∙ length-map ws (entered notes) in
    record {
      count = length-map vs (λ (w : Work). w.track) ∙ (same ∙ (counted ∙ sym (length-map ws (λ (w : Work). w.track.seat))));
      follows = λ i d e below.
          let within : i < length ws = omega (arith, below, length-map ws (λ (w : Work). w.track.seat)) in
          let o : Work = record { track = e; failed = false } in
          let w = slice_index_or ws i o in
          let v = slice_index_or vs i o in
          let here : slice_index_or us i o ≡ entered notes w = ap (λ xs. get_or xs i o) is ∙ get_or-map (entered notes) ws i o o within in
          let seat : w.track.seat ≡ slice_index_or (work_seats ws) i d = sym (get_or-map (λ (w : Work). w.track.seat) ws i o d within) in
          let track : v.track ≡ slice_index_or (tracks_of vs) i e = sym (get_or-map (λ (w : Work). w.track) vs i o e (omega (arith, within, same, counted))) in
          let f : Follows (enters notes w.track.seat) tasks v.track = subst (λ (x : Work). Follows x.track tasks v.track) here (ran i o (omega (arith, within, counted)) (whole i o (omega (arith, within, same, counted)))) in
          subst (λ (s : Seat). Follows (enters notes s) tasks (slice_index_or (tracks_of vs) i e)) seat (subst (λ (t : Track). Follows (enters notes w.track.seat) tasks t) track f);
    }

pub seats_tracks : (ws : List Work) → seats_of (tracks_of ws) ≡ work_seats ws
seats_tracks [] = refl
seats_tracks (w ∷ ws) = ap (λ xs. w.track.seat ∷ xs) (seats_tracks ws)

pub seats_finished : (ws : List Work) → work_seats (map finished ws) ≡ work_seats ws
seats_finished [] = refl
seats_finished (w ∷ ws) = ap (λ xs. w.track.seat ∷ xs) (seats_finished ws)

-- a phase
pub passes : (names : List (List ℕ)) (notes notes_then : Notes) (ws us vs xs : List Work) (tasks : List Task) (before middle now : List ℕ) → us ≡ map (entered notes) ws → length vs ≡ length us → ((i : ℕ) (d : Work) → i < length us → IsRan (slice_index_or us i d) tasks (slice_index_or vs i d)) → ((i : ℕ) (d : Work) → i < length vs → (slice_index_or vs i d).failed ≡ false) → xs ≡ map finished vs → notes_then ≡ notes_after notes (tracks_of vs) → middle ≡ before ++ texts_of (tracks_of vs)
    → GrewBy middle now (λ written. (late : List ℕ) × AreLate tasks late × (written ≡ late_text names late)) → GrewBy before now (λ written. Passes names (record { seats = work_seats ws; notes = notes }) tasks written (record { seats = work_seats xs; notes = notes_then }))
passes names notes notes_then ws us vs xs tasks before middle now is same ran whole left is_notes text late =
    let seats : work_seats xs ≡ seats_of (tracks_of vs) = ap work_seats left ∙ (seats_finished vs ∙ sym (seats_tracks vs)) in
    record {
      more = texts_of (tracks_of vs) ++ late.more;
      grew = late.grew ∙ (ap (λ m. m ++ late.more) text ∙ append_assoc before (texts_of (tracks_of vs)) late.more);
      fact = record {
        tracks = tracks_of vs;
        each = each_follows notes ws us vs tasks is same ran whole;
        late = late.fact.0;
        are_late = late.fact.1;
        text = ap (λ z. texts_of (tracks_of vs) ++ z) late.fact.2;
        becomes = λ k. record { seats = seats k; notes = is_notes k };
      };
    }

-- the same, where the last step may fail
pub phase_passes : {E : Type 0} (r : Result (Unit {0}) E) (names : List (List ℕ)) (notes notes_then : Notes) (ws us vs xs : List Work) (tasks : List Task) (before middle now : List ℕ) → us ≡ map (entered notes) ws → length vs ≡ length us → ((i : ℕ) (d : Work) → i < length us → IsRan (slice_index_or us i d) tasks (slice_index_or vs i d)) → ((i : ℕ) (d : Work) → i < length vs → (slice_index_or vs i d).failed ≡ false) → xs ≡ map finished vs → notes_then ≡ notes_after notes (tracks_of vs) → middle ≡ before ++ texts_of (tracks_of vs)
    → OnOk r (GrewBy middle now (λ written. (late : List ℕ) × AreLate tasks late × (written ≡ late_text names late))) → OnOk r (GrewBy before now (λ written. Passes names (record { seats = work_seats ws; notes = notes }) tasks written (record { seats = work_seats xs; notes = notes_then })))
phase_passes (Ok x) names notes notes_then ws us vs xs tasks before middle now is same ran whole left is_notes text late = passes names notes notes_then ws us vs xs tasks before middle now is same ran whole left is_notes text late
phase_passes (Err e) names notes notes_then ws us vs xs tasks before middle now is same ran whole left is_notes text late = tt

-- before the first phase
pub phases_opening : (terse keeps : Bool) (names : List (List ℕ)) (stage : Stage) (now : List ℕ) → stage ≡ opening_stage terse keeps names → GrewBy now now (λ written. RunsPhases terse keeps names [] written stage)
phases_opening terse keeps names stage now is = record { more = []; grew = sym (append-nil now); fact = rw is none }

-- one phase more
pub phases_more : (terse keeps : Bool) (names : List (List ℕ)) (phases more : List (List Task)) (tasks : List Task) (stage after : Stage) (start before now : List ℕ) → GrewBy start before (λ written. RunsPhases terse keeps names phases written stage) → GrewBy before now (λ written. Passes names stage tasks written after) → more ≡ phases ++ tasks ∷ [] → GrewBy start now (λ written. RunsPhases terse keeps names more written after)
phases_more terse keeps names phases more tasks stage after start before now runs passes is =
    record {
      more = runs.more ++ passes.more;
      grew = passes.grew ∙ (ap (λ m. m ++ passes.more) runs.grew ∙ append_assoc start runs.more passes.more);
      fact = rw is (next runs.fact passes.fact);
    }

-- an in-place map, read where it has not come yet
pub over_read : (f : Work → Work) (xs : List Work) (i : ℕ) (d : Work) → i < length xs → get_or (map f (take i xs) ++ drop i xs) i d ≡ get_or xs i d
over_read f [] i d below = absurd (omega arith)
over_read f (x ∷ xs) zero d below = refl
over_read f (x ∷ xs) (suc i) d below = over_read f xs i d (omega arith)

-- one label more
pub over_more : (f : Work → Work) (xs ys : List Work) (i : ℕ) (d y : Work) → i < length xs → i < length ys → ys ≡ map f (take i xs) ++ drop i xs → y ≡ f (get_or ys i d) → slice_set ys i y ≡ map f (take (i + 1) xs) ++ drop (i + 1) xs
over_more f xs ys i d y within inside is ey =
    ap (λ z. slice_set ys i z) ey ∙ map_over_more f xs ys i (get_or ys i d) within is (get_or_default ys i d (get_or ys i d) inside)

-- all of them
pub over_all : (f : Work → Work) (xs ys : List Work) (i : ℕ) → length xs ≤ i → ys ≡ map f (take i xs) ++ drop i xs → ys ≡ map f xs
over_all f xs ys i le is = is ∙ (ap (λ l. map f (take i xs) ++ l) (drop_all i xs le) ∙ (append-nil (map f (take i xs)) ∙ ap (map f) (take_all i xs le)))

-- tracks up to the next one
pub tracks_more : (ws : List Work) (i : ℕ) (w : Work) → i < length ws → w ≡ get_or ws i w → tracks_of (take (i + 1) ws) ≡ tracks_of (take i ws) ++ w.track ∷ []
tracks_more ws i w within is = map_more (λ (w : Work). w.track) ws i w within ∙ ap (λ (z : Work). tracks_of (take i ws) ++ z.track ∷ []) (sym is)

pub notes_snoc : (notes : Notes) (ts : List Track) (t : Track) → notes_after notes (ts ++ t ∷ []) ≡ joined (notes_after notes ts) t.notes
notes_snoc notes [] t = refl
notes_snoc notes (x ∷ xs) t = notes_snoc (joined notes x.notes) xs t

pub texts_snoc : (ts : List Track) (t : Track) → texts_of (ts ++ t ∷ []) ≡ texts_of ts ++ t.written
texts_snoc [] t = append-nil t.written
texts_snoc (x ∷ xs) t = ap (λ z. x.written ++ z) (texts_snoc xs t) ∙ sym (append_assoc x.written (texts_of xs) t.written)

-- what all know, with one label more
pub notes_more : (start notes notes_then : Notes) (ws : List Work) (i : ℕ) (w : Work) → i < length ws → w ≡ get_or ws i w → notes ≡ notes_after start (tracks_of (take i ws)) → notes_then ≡ joined notes w.track.notes → notes_then ≡ notes_after start (tracks_of (take (i + 1) ws))
notes_more start notes notes_then ws i w within is so joins =
    joins ∙ (ap (λ z. joined z w.track.notes) so ∙ (sym (notes_snoc start (tracks_of (take i ws)) w.track) ∙ ap (notes_after start) (sym (tracks_more ws i w within is))))

-- the text, with one label more
pub texts_more : (start before now : List ℕ) (ws : List Work) (i : ℕ) (w : Work) → i < length ws → w ≡ get_or ws i w → before ≡ start ++ texts_of (tracks_of (take i ws)) → now ≡ before ++ w.track.written → now ≡ start ++ texts_of (tracks_of (take (i + 1) ws))
texts_more start before now ws i w within is so grew =
    grew ∙ (ap (λ z. z ++ w.track.written) so ∙ (append_assoc start (texts_of (tracks_of (take i ws))) w.track.written ∙ ap (λ z. start ++ z) (sym (texts_snoc (tracks_of (take i ws)) w.track) ∙ ap texts_of (sym (tracks_more ws i w within is)))))

-- those up to the next one are whole
pub whole_more : (ws : List Work) (i : ℕ) (w : Work) → i < length ws → w ≡ get_or ws i w → w.failed ≡ false → ((k : ℕ) (d : Work) → k < i → (slice_index_or ws k d).failed ≡ false) → (k : ℕ) (d : Work) → k < i + 1 → (slice_index_or ws k d).failed ≡ false
whole_more ws i w within is whole all k d below =
    elim (cases_lt k i) [
      | inl lt ↦ all k d lt
      | inr ge ↦
          (let at : k ≡ i = omega arith in
          let here : slice_index_or ws k d ≡ w = ap (λ j. get_or ws j d) at ∙ (get_or_default ws i d w within ∙ sym is) in
          ap (λ (z : Work). z.failed) here ∙ whole)
    ]

-- one late line more
late_snoc : (names : List (List ℕ)) (places : List ℕ) (place : ℕ) → late_text names (places ++ place ∷ []) ≡ late_text names places ++ late_line names place
late_snoc names [] place = append-nil (late_line names place)
late_snoc names (x ∷ xs) place = ap (λ z. late_line names x ++ z) (late_snoc names xs place) ∙ sym (append_assoc (late_line names x) (late_text names xs) (late_line names place))

pub late_more : (names : List (List ℕ)) (start before now : List ℕ) (places : List ℕ) (i : ℕ) (label : List ℕ) (refusal : Refusal) → i < length places → label ≡ slice_index_or names (get_or places i 0) [] → refusal ≡ refusal_of (standing_of (place_in names (codes "?")) (get_or places i 0)) → before ≡ start ++ late_text names (take i places) → GrewBy before now (λ written. written ≡ answer_text false label (a.Refused refusal))
    → now ≡ start ++ late_text names (take (i + 1) places)
late_more names start before now places i label refusal within is_label is_refusal so grew =
    let place = get_or places i 0 in
    let text = late_text names (take i places) in
    let line : answer_text false label (a.Refused refusal) ≡ late_line names place = λ k. answer_text false (is_label k) (a.Refused (is_refusal k)) in
    grew.grew
    ∙ (ap (λ z. before ++ z) (grew.fact ∙ line)
    ∙ (ap (λ z. z ++ late_line names place) so
    ∙ (append_assoc start text (late_line names place) ∙ ap (λ z. start ++ z) (sym (late_snoc names (take i places) place) ∙ ap (late_text names) (sym (take_more places i 0 within))))))

-- the seat of the label at a place
pub seat_opened : (items : List (Bor (List ℕ))) (d : Bor (List ℕ)) (names : List (List ℕ)) (unlabelled place : ℕ) (w : Work) → place < length items → map (λ n. n.now) items ≡ names → unlabelled ≡ place_in names (codes "?") → w.track.seat ≡ record { place = place; name = (get_or items place d).now; standing = standing_of unlabelled place; session = None } → w.track.seat ≡ opening_seat names place
seat_opened items d names unlabelled place w within mapped is_unlabelled is =
    let named : (get_or items place d).now ≡ slice_index_or names place [] = sym (get_or-map (λ (n : Bor (List ℕ)). n.now) items place d [] within) ∙ ap (λ ns. slice_index_or ns place []) mapped in
    let opened : record { place = place; name = (get_or items place d).now; standing = standing_of unlabelled place; session = None } ≡ opening_seat names place = λ k. record { place = place; name = named k; standing = standing_of (is_unlabelled k) place; session = None } in
    is ∙ opened

-- a seat more
pub seats_more : (names : List (List ℕ)) (n : ℕ) (ws more : List Work) (w : Work) → work_seats ws ≡ opening_seats names n → w.track.seat ≡ opening_seat names n → more ≡ ws ++ w ∷ [] → work_seats more ≡ opening_seats names (n + 1)
seats_more names n ws more w so seat is =
    let at : suc n ≡ n + 1 = omega arith in
    ap work_seats is
    ∙ (map-append (λ (w : Work). w.track.seat) ws (w ∷ [])
    ∙ (ap (λ xs. xs ++ w.track.seat ∷ []) so ∙ (ap (λ (s : Seat). opening_seats names n ++ s ∷ []) seat ∙ ap (opening_seats names) at)))
