-- The committed transactions with promoted notes, and their rw-antidependencies made anew.
use Rattle.std.specs.Prelude.{◌≡◌, refl, ◌≤◌, ◌<◌, ◌+◌, ◌⊎◌, ℕ, zero, suc, List, [], ◌∷◌, ◌++◌, Bool, true, false, not, ◌&&◌, ◌||◌, nat_eq, nat_lt, length, map, take, slice_get, Option, Some, None}
use Rattle.std.specs.List.{list_any}
use Rattle.std.specs.Option.{is_some, option_map}
use Rattle.std.proofs.Common.{ap, sym, subst, ◌∙◌, inl, inr, arith}
use Rattle.std.proofs.lemmas.Bool.{cases_order, cases_lt, ne_eqb, eq-eqb, lt-ltb, le-ltb, and_from, and_left, and_right}
use Rattle.std.proofs.lemmas.List.{length-map, length-take-le, map_push, take_more, length_push, get_or_past}
use Rattle.std.proofs.lemmas.List.Folds.{list_any-append}
use Rattle.std.proofs.lemmas.Option.{slice_get_within, slice_get-map, none-some, same_Some, get_or_from_slice_get}
use Rattle.rls_value.specs.declared.object.Object.{Object}
use Rattle.rls_source.specs.Footprints.{is_among}
use Rattle.rls_siread.specs.Covering.{covered_of}
use Rattle.rls_siread.specs.Locks.{Locks, Notes, notes_at, objects_in, commit_in, noted_by, commit_of, has_notes, is_number_in, promoted_notes, HasPromoted}
use Rattle.rls_siread.specs.Index.{HolderList, held_at}
use Rattle.rls_siread.specs.Promotion.{promoted}
use Rattle.rls_siread.proofs.CoveringLaws.{among_covered_of, any_same}
use Rattle.rls_catalog.specs.Bases.{covers_any}
use Rattle.rls_history.specs.History.{rw}
use Rattle.rls_conflict.specs.declared.committed.Committed.{Committed}
use Rattle.rls_conflict.specs.Begun.{Begun, at_number}
use Rattle.rls_conflict.specs.Transactions.{Transaction, nobody, at, reads_from, history_of}
use Rattle.rls_conflict.specs.Commits.{is_place_in, AreReadBy, AreReadersOf}
use Rattle.rls_conflict.specs.Known.{with_promoted, ArePromoted}
use Rattle.rls_conflict.specs.Kept.{committed_seen, all_committed, running_seen, known_by, AreEntries, IsRecent, IsWhole}
use Rattle.rls_conflict.specs.Promoted.{covered_in, AreTold, IsEntryOf, AreEntriesOf}
use Rattle.rls_conflict.proofs.RunningLemmas.{found_running}
use Rattle.rls_conflict.proofs.EntryLemmas.{old_or_new, within_there}

-- ---- places that pass a test

or_none : (b : Bool) → (b || false) ≡ b
or_none true = refl
or_none false = refl

-- none passes before the first
pub places_none : (places : List ℕ) (test : ℕ → Bool) (from : ℕ) → places ≡ [] → ((place : ℕ) → place < from → test place ≡ false) → (place : ℕ) → is_place_in places place ≡ (nat_lt place from && test place)
places_none places test from empty none place = ap (λ list. is_place_in list place) empty ∙ elim (cases_lt place from) [
  | inl before ↦ sym (and_right (nat_lt place from) (test place) (none place before))
  | inr after ↦ sym (and_left (nat_lt place from) (test place) (le-ltb place from after))
]

-- one more that passes
pub places_next : (places more : List ℕ) (test : ℕ → Bool) (other : ℕ) → more ≡ places ++ other ∷ [] → ((place : ℕ) → is_place_in places place ≡ (nat_lt place other && test place)) → test other ≡ true
    → (place : ℕ) → is_place_in more place ≡ (nat_lt place (other + 1) && test place)
places_next places more test other pushed so_far passes place = ap (λ list. is_place_in list place) pushed ∙ list_any-append (nat_eq place) places (other ∷ []) ∙ elim (cases_order place other) [
  | inl same ↦
      ap (λ b. b || (nat_eq place other || false)) (so_far place ∙ ap (λ b. b && test place) (le-ltb place other (omega arith)))
      ∙ ap (λ b. b || false) (eq-eqb place other same)
      ∙ sym (and_from (nat_lt place (other + 1)) (test place) (lt-ltb place (other + 1) (omega arith)) (ap test same ∙ passes))
  | inr apart ↦ elim apart [
    | inl before ↦
        ap (λ b. b || (nat_eq place other || false)) (so_far place ∙ ap (λ b. b && test place) (lt-ltb place other before))
        ∙ ap (λ b. test place || (b || false)) (ne_eqb place other (λ same. omega arith))
        ∙ or_none (test place)
        ∙ sym (ap (λ b. b && test place) (lt-ltb place (other + 1) (omega arith)))
    | inr after ↦
        ap (λ b. b || (nat_eq place other || false)) (so_far place ∙ ap (λ b. b && test place) (le-ltb place other (omega arith)))
        ∙ ap (λ b. b || false) (ne_eqb place other (λ same. omega arith))
        ∙ sym (and_left (nat_lt place (other + 1)) (test place) (le-ltb place (other + 1) (omega arith)))
  ]
]

-- one more that doesn't
pub places_passed : (places : List ℕ) (test : ℕ → Bool) (other : ℕ) → ((place : ℕ) → is_place_in places place ≡ (nat_lt place other && test place)) → test other ≡ false
    → (place : ℕ) → is_place_in places place ≡ (nat_lt place (other + 1) && test place)
places_passed places test other so_far fails place = so_far place ∙ elim (cases_order place other) [
  | inl same ↦ and_left (nat_lt place other) (test place) (le-ltb place other (omega arith)) ∙ sym (and_right (nat_lt place (other + 1)) (test place) (ap test same ∙ fails))
  | inr apart ↦ elim apart [
    | inl before ↦ ap (λ b. b && test place) (lt-ltb place other before ∙ sym (lt-ltb place (other + 1) (omega arith)))
    | inr after ↦ ap (λ b. b && test place) (le-ltb place other (omega arith) ∙ sym (le-ltb place (other + 1) (omega arith)))
  ]
]

-- ---- rw-antidependencies with those before

no_second : (a c d : Bool) → ((a && false && c) && d) ≡ false
no_second true c d = refl
no_second false c d = refl

no_third : (a b d : Bool) → ((a && b && false) && d) ≡ false
no_third true true d = refl
no_third true false d = refl
no_third false b d = refl

all_three : (a b c d : Bool) → a ≡ true → b ≡ true → c ≡ true → ((a && b && c) && d) ≡ d
all_three a b c d isa isb isc = λ i. (isa i && isb i && isc i) && d

module _ (transactions : List Transaction) (place other : ℕ) where
  -- it committed before the transaction began
  pub read_early : other < (at transactions place).snap → rw (history_of transactions) place other ≡ false
  read_early early =
      ap (λ b. (not (nat_eq place other) && not (nat_lt place (at transactions other).snap) && not b) && reads_from (at transactions place).noted (at transactions other).changes) (lt-ltb other (at transactions place).snap early)
      ∙ no_third (not (nat_eq place other)) (not (nat_lt place (at transactions other).snap)) (reads_from (at transactions place).noted (at transactions other).changes)

  pub reader_early : other < (at transactions place).snap → rw (history_of transactions) other place ≡ false
  reader_early early =
      ap (λ b. (not (nat_eq other place) && not b && not (nat_lt place (at transactions other).snap)) && reads_from (at transactions other).noted (at transactions place).changes) (lt-ltb other (at transactions place).snap early)
      ∙ no_second (not (nat_eq other place)) (not (nat_lt place (at transactions other).snap)) (reads_from (at transactions other).noted (at transactions place).changes)

  -- it committed since, and before the transaction
  pub read_since : (at transactions other).snap ≤ other → (at transactions place).snap ≤ other → other < place → rw (history_of transactions) place other ≡ reads_from (at transactions place).noted (at transactions other).changes
  read_since began since before =
      all_three (not (nat_eq place other)) (not (nat_lt place (at transactions other).snap)) (not (nat_lt other (at transactions place).snap)) (reads_from (at transactions place).noted (at transactions other).changes)
      (ap not (ne_eqb place other (λ same. omega arith))) (ap not (le-ltb place (at transactions other).snap (omega arith))) (ap not (le-ltb other (at transactions place).snap since))

  pub reader_since : (at transactions other).snap ≤ other → (at transactions place).snap ≤ other → other < place → rw (history_of transactions) other place ≡ reads_from (at transactions other).noted (at transactions place).changes
  reader_since began since before =
      all_three (not (nat_eq other place)) (not (nat_lt other (at transactions place).snap)) (not (nat_lt place (at transactions other).snap)) (reads_from (at transactions other).noted (at transactions place).changes)
      (ap not (ne_eqb other place (λ same. omega arith))) (ap not (le-ltb other (at transactions place).snap since)) (ap not (le-ltb place (at transactions other).snap (omega arith)))

-- reads are told by the covered objects
pub read_covered : (noted covered : List Object) (transaction : Transaction) → covered ≡ covered_of transaction.changes → list_any (is_among covered) noted ≡ reads_from noted transaction.changes
read_covered noted covered transaction is =
    any_same (is_among covered) (λ object. covers_any object transaction.changes) (λ object. ap (λ objects. is_among objects object) is ∙ among_covered_of transaction.changes object) noted

-- ---- one entry more

pub entries_next : (transactions : List Transaction) (entries more : List Committed) (place : ℕ) (entry : Committed) → more ≡ entries ++ entry ∷ [] → all_committed entries ≡ take place transactions → place ≤ length transactions
    → AreEntriesOf transactions entries → IsEntryOf transactions place entry → AreEntriesOf transactions more
entries_next transactions entries more place entry pushed so_far within are is p it there =
    elim (old_or_new entries entry p it (subst (λ (list : List Committed). slice_get list p ≡ Some it) pushed there)) [
      | inl old ↦ are p it old
      | inr last ↦ (
          let count = length-map entries committed_seen in
          let first = length-take-le place transactions within in
          let size = ap (λ (list : List Transaction). length list) so_far in
          let here : place ≡ p = (let l = last.0 in omega arith) in
          subst (λ n. IsEntryOf transactions n it) here (subst (IsEntryOf transactions place) (sym last.1) is)
          )
    ]

pub told_next : (transactions : List Transaction) (entries more : List Committed) (place : ℕ) (entry : Committed) → more ≡ entries ++ entry ∷ [] → all_committed entries ≡ take place transactions → place < length transactions
    → entry.transaction ≡ at transactions place → all_committed more ≡ take (place + 1) transactions
told_next transactions entries more place entry pushed so_far within is =
    ap all_committed pushed ∙ map_push committed_seen entries entry ∙ (λ i. so_far i ++ is i ∷ []) ∙ sym (take_more transactions place nobody within)

pub covered_next : (committed entries more : List Committed) (place : ℕ) (entry it : Committed) → more ≡ entries ++ entry ∷ [] → map covered_in entries ≡ map covered_in (take place committed) → place < length committed
    → slice_get committed place ≡ Some it → entry.covered ≡ it.covered → map covered_in more ≡ map covered_in (take (place + 1) committed)
covered_next committed entries more place entry it pushed so_far within there same =
    ap (map covered_in) pushed
    ∙ map_push covered_in entries entry
    ∙ (λ i. so_far i ++ same i ∷ [])
    ∙ sym (map_push covered_in (take place committed) it)
    ∙ ap (λ (x : Committed). map covered_in (take place committed ++ x ∷ [])) (sym (get_or_from_slice_get committed place it it there))
    ∙ ap (map covered_in) (sym (take_more committed place it within))

-- ---- the committed ones

-- the one at a place, promoted
at_promoted : (limit : ℕ) (committed : List Committed) (place : ℕ) (it : Committed) → slice_get committed place ≡ Some it → at (map (λ (it : Committed). with_promoted limit it.transaction) committed) place ≡ with_promoted limit it.transaction
at_promoted limit [] place it is = cc
at_promoted limit (x ∷ xs) zero it is = let same : x ≡ it = cc in ap (λ (it : Committed). with_promoted limit it.transaction) same
at_promoted limit (x ∷ xs) (suc place) it is = at_promoted limit xs place it is

pub promoted_told : (limit : ℕ) (committed : List Committed) (transactions : List Transaction) → transactions ≡ map (λ (it : Committed). with_promoted limit it.transaction) committed → AreEntries committed → AreTold committed transactions
promoted_told limit committed transactions are entries = subst (AreTold committed) (sym are) (record {
  size = length-map committed (λ (it : Committed). with_promoted limit it.transaction);
  covered = λ place it there. (entries place it there).covered ∙ ap (λ (txn : Transaction). covered_of txn.changes) (sym (at_promoted limit committed place it there));
  began = λ place. elim (cases_lt place (length committed)) [
    | inl within ↦ (let found = within_there committed place within in subst (λ (txn : Transaction). txn.snap ≤ place) (sym (at_promoted limit committed place found.0 found.1)) (entries place found.0 found.1).began)
    | inr past ↦ (
        let size = length-map committed (λ (it : Committed). with_promoted limit it.transaction) in
        subst (λ (txn : Transaction). txn.snap ≤ place)
        (sym (get_or_past (map (λ (it : Committed). with_promoted limit it.transaction) committed) place nobody (omega arith))) (omega arith)
        )
  ];
})

-- entries of the transactions are entries of themselves
pub entries_stand : (committed : List Committed) (transactions : List Transaction) (entries : List Committed) → AreTold committed transactions → all_committed entries ≡ transactions → AreEntriesOf transactions entries → AreEntries entries
entries_stand committed transactions entries told are of place it there = record {
  began = subst (λ (txn : Transaction). txn.snap ≤ place) (sym (of place it there).transaction) (told.began place);
  covered = (of place it there).covered;
  read = subst (λ (them : List Transaction). AreReadBy them place it.read.items) (sym are) (of place it there).read;
  readers = subst (λ (them : List Transaction). AreReadersOf them place it.readers.items) (sym are) (of place it there).readers;
}

-- ---- the record

module _ (limit : ℕ) (committed committed' : List Committed) (running : List (ℕ × Begun)) (locks locks' : Locks) (writers : List (Object × HolderList)) (floor : ℕ)
    (are : all_committed committed' ≡ map (λ (it : Committed). with_promoted limit it.transaction) committed) (covers : map covered_in committed' ≡ map covered_in committed) (promotes : HasPromoted limit locks locks') where
  size : length committed' ≡ length committed
  size = sym (length-map committed' committed_seen) ∙ ap (λ (them : List Transaction). length them) are ∙ length-map committed (λ (it : Committed). with_promoted limit it.transaction)

  -- each stands where it stood
  was_there : (place : ℕ) (it : Committed) → slice_get committed' place ≡ Some it → (was : Committed) × (slice_get committed place ≡ Some was) × (it.transaction ≡ with_promoted limit was.transaction) × (it.covered ≡ was.covered)
  was_there place it there =
      let within = slice_get_within committed' place it there in
      let same = size in
      let was = within_there committed place (omega arith) in (
        was.0,
        was.1,
        same_Some it.transaction (with_promoted limit was.0.transaction)
            (sym (ap (option_map committed_seen) there) ∙ sym (slice_get-map committed_seen committed' place) ∙ ap (λ (them : List Transaction). slice_get them place) are
            ∙ slice_get-map (λ (it : Committed). with_promoted limit it.transaction) committed place ∙ ap (option_map (λ (it : Committed). with_promoted limit it.transaction)) was.1),
        same_Some it.covered was.0.covered
            (sym (ap (option_map covered_in) there) ∙ sym (slice_get-map covered_in committed' place) ∙ ap (λ (them : List (List Object)). slice_get them place) covers
            ∙ slice_get-map covered_in committed place ∙ ap (option_map covered_in) was.1),
      )

  number : (place : ℕ) (it : Committed) (there : slice_get committed' place ≡ Some it) → it.transaction.number ≡ (was_there place it there).0.transaction.number
  number place it there = ap (λ (txn : Transaction). txn.number) (was_there place it there).2

  -- each that stood there stands there
  still : (place : ℕ) (was : Committed) → slice_get committed place ≡ Some was → (it : Committed) × (slice_get committed' place ≡ Some it) × (it.transaction.number ≡ was.transaction.number)
  still place was there =
      let within = slice_get_within committed place was there in
      let same = size in
      let it = within_there committed' place (omega arith) in
      let back = was_there place it.0 it.1 in
      (it.0, it.1, ap (λ (txn : Transaction). txn.number) back.2 ∙ ap (λ (e : Committed). e.transaction.number) (same_Some back.0 was (sym back.1 ∙ there)))

  promoted_some : (notes : Option Notes) → is_some (promoted_notes limit notes) ≡ is_some notes
  promoted_some None = refl
  promoted_some (Some notes) = refl

  promoted_commit : (notes : Option Notes) → commit_in (promoted_notes limit notes) ≡ commit_in notes
  promoted_commit None = refl
  promoted_commit (Some notes) = refl

  promoted_objects : (notes : Option Notes) → objects_in (promoted_notes limit notes) ≡ promoted limit (objects_in notes)
  promoted_objects None = refl
  promoted_objects (Some notes) = refl

  has_still : (txn : ℕ) → has_notes locks' txn ≡ has_notes locks txn
  has_still txn = ap is_some (promotes.notes txn) ∙ promoted_some (notes_at locks.notes txn)

  commit_still : (txn : ℕ) → commit_of locks' txn ≡ commit_of locks txn
  commit_still txn = ap commit_in (promotes.notes txn) ∙ promoted_commit (notes_at locks.notes txn)

  noted_now : (txn : ℕ) → noted_by locks' txn ≡ promoted limit (noted_by locks txn)
  noted_now txn = ap objects_in (promotes.notes txn) ∙ promoted_objects (notes_at locks.notes txn)

  recent_still : (txn : ℕ) → (is_some (at_number txn running) ≡ true) ⊎ IsRecent committed floor txn → (is_some (at_number txn running) ≡ true) ⊎ IsRecent committed' floor txn
  recent_still txn found = elim found [
    | inl runs ↦ inl runs
    | inr recent ↦ (let it = still recent.place recent.it recent.there in inr (record { place = recent.place; it = it.0; recent = recent.recent; there = it.1; number = it.2 ∙ recent.number }))
  ]

  pub promoted_kept : (len capacity len' capacity' : ℕ) → IsWhole committed len capacity running locks writers floor → AreEntries committed' → len' + length running ≤ capacity'
      → IsWhole committed' len' capacity' running locks' writers floor
  promoted_kept len capacity len' capacity' whole entries room =
      let within = whole.floor_within in
      let same = size in record {
        entries = entries;
        differ = record {
          places = λ i j one other first second is.
              whole.differ.places i j (was_there i one first).0 (was_there j other second).0 (was_there i one first).1 (was_there j other second).1 (sym (number i one first) ∙ is ∙ number j other second);
          over = λ i one there. ap (λ n. at_number n running) (number i one there) ∙ whole.differ.over i (was_there i one there).0 (was_there i one there).1;
        };
        snaps = λ txn it is. (let snaps = whole.snaps txn it is in let begun = snaps.1 in (snaps.0, omega arith));
        floor_within = omega arith;
        indexed = record {
          run = λ txn it is. (has_still txn ∙ (whole.indexed.run txn it is).0, commit_still txn ∙ (whole.indexed.run txn it is).1);
          written = whole.indexed.written;
          marked = λ place it there above. commit_still it.transaction.number ∙ ap (commit_of locks) (number place it there) ∙ whole.indexed.marked place (was_there place it there).0 (was_there place it there).1 above;
          noted = λ place it there above.
              noted_now it.transaction.number
              ∙ ap (promoted limit) (ap (noted_by locks) (number place it there) ∙ whole.indexed.noted place (was_there place it there).0 (was_there place it there).1 above)
              ∙ sym (ap (λ (txn : Transaction). txn.noted) (was_there place it there).2);
          covered = λ place it there above object.
              ap (is_number_in (held_at writers object)) (number place it there)
              ∙ whole.indexed.covered place (was_there place it there).0 (was_there place it there).1 above object
              ∙ ap (λ objects. is_among objects object) (sym (was_there place it there).3);
          no_reader = λ txn has. recent_still txn (whole.indexed.no_reader txn (sym (has_still txn) ∙ has));
          no_writer = λ txn object is. recent_still txn (whole.indexed.no_writer txn object is);
        };
        room = room;
      }

  pub promoted_seen : ArePromoted limit (known_by committed running locks) (known_by committed' running locks')
  promoted_seen = record {
    committed = are ∙ mapped committed;
    running = λ txn. found_running locks' txn running ∙ here txn (at_number txn running) ∙ ap (option_map (with_promoted limit)) (sym (found_running locks txn running));
  }
    where
      mapped : (list : List Committed) → map (λ (it : Committed). with_promoted limit it.transaction) list ≡ map (with_promoted limit) (all_committed list)
      mapped [] = refl
      mapped (x ∷ xs) = ap (λ rest. with_promoted limit x.transaction ∷ rest) (mapped xs)

      here : (txn : ℕ) (it : Option Begun) → option_map (λ it. running_seen locks' (txn, it)) it ≡ option_map (with_promoted limit) (option_map (λ it. running_seen locks (txn, it)) it)
      here txn None = refl
      here txn (Some it) = ap (λ objects. Some (record { number = txn; snap = it.snap; noted = objects; changes = it.changes })) (noted_now txn)
