-- Where no row of a table stays, no key is taken, and each is read.
use Rattle.std.specs.Prelude.{◌≡◌, refl, ℕ, List, [], ◌∷◌, ◌++◌, Bool, true, false, not, ◌||◌, Ok, filter, if◌then◌else◌}
use Rattle.std.proofs.Common.{ap, sym, ◌∙◌, append-nil}
use Rattle.std.proofs.lemmas.Bool.{false≢true, and_parts, not_from_true, or_from, or_left, or_parts}
use Rattle.rls_value.specs.{declared.object.Object.TheVariants.Key, declared.value.Value.Value, Giving.and_then}
use Rattle.rls_guard.specs.rls_catalog.specs.{declared.stored.Stored.Stored, State.State, State.is_same_id, State.is_same_row, State.rows_of}
use Rattle.rls_guard.specs.rls_source.specs.{Asked.keyed_at, Readings.Reading, Readings.next_reads, Readings.unread}
use Rattle.rls_dml.specs.{Numbers.are_numbered_as, Numbers.has_number, Writing.keys_read, Writing.keys_taken, Writing.stays_any}

-- ---- rows with the numbers of those that are replaced

not_more : (one rest : Bool) → not rest ≡ false → not (one || rest) ≡ false
not_more true rest none = refl
not_more false rest none = none

-- what doesn't stay beside some doesn't beside more
stay_beside : (other : Stored) (others rows : List Stored) → stays_any others rows ≡ false → stays_any (other ∷ others) rows ≡ false
stay_beside other others [] none = refl
stay_beside other others (row ∷ rows) none =
    let parts = or_parts (not (has_number others row.id)) (stays_any others rows) none in
    or_from (not (has_number (other ∷ others) row.id)) (stays_any (other ∷ others) rows)
    (not_more (is_same_id row.id other.id) (has_number others row.id) parts.0) (stay_beside other others rows parts.1)

-- none of the rows that have the numbers of others stays beside these
pub none_of_those : (rows others : List Stored) → are_numbered_as rows others ≡ true → stays_any others rows ≡ false
none_of_those [] others are = refl
none_of_those (row ∷ rows) [] are = absurd (false≢true are)
none_of_those (row ∷ rows) (other ∷ others) are =
    let parts = and_parts (is_same_id row.id other.id) (are_numbered_as rows others) are in
    or_from (not (has_number (other ∷ others) row.id)) (stays_any (other ∷ others) rows)
    (not_from_true (has_number (other ∷ others) row.id) (or_left (is_same_id row.id other.id) (has_number others row.id) parts.0))
    (stay_beside other others rows (none_of_those rows others parts.1))

-- ---- the keys of a table of which no row stays

kept_or_not : (replaced : List Stored) (is : Bool) (row : Stored) (rows : List Stored) → not (has_number replaced row.id) ≡ false → stays_any replaced rows ≡ false
    → stays_any replaced (if is then row ∷ rows else rows) ≡ false
kept_or_not replaced true row rows here rest = or_from (not (has_number replaced row.id)) (stays_any replaced rows) here rest
kept_or_not replaced false row rows here rest = rest

-- of some of the rows none stays
some_stay : (replaced : List Stored) (test : Stored → Bool) (rows : List Stored) → stays_any replaced rows ≡ false → stays_any replaced (filter test rows) ≡ false
some_stay replaced test [] none = refl
some_stay replaced test (row ∷ rows) none =
    let parts = or_parts (not (has_number replaced row.id)) (stays_any replaced rows) none in
    kept_or_not replaced (test row) row (filter test rows) parts.0 (some_stay replaced test rows parts.1)

keyed_stay : (s : State) (table : List ℕ) (replaced : List Stored) (key : List Value) → stays_any replaced (rows_of s table) ≡ false → stays_any replaced (keyed_at s table key) ≡ false
unfolding keyed_at
keyed_stay s table replaced key none = some_stay replaced (λ stored. is_same_row stored.key key) (rows_of s table) none

-- what the first key's rows make of what is read for the others
beside : List ℕ → List Value → Bool → Reading Bool → Reading Bool
beside table key stays rest = record {
  gives = and_then rest.gives (λ taken. Ok (stays || taken));
  reads = Key table key ∷ (rest.reads ++ next_reads rest.gives (λ taken. unread (Ok (stays || taken))));
}

-- none is taken, and each is read
pub none_taken : (s : State) (table : List ℕ) (replaced : List Stored) (keys : List (List Value)) → stays_any replaced (rows_of s table) ≡ false
    → (keys_taken table replaced keys).in_state s ≡ record { gives = Ok false; reads = keys_read table keys }
unfolding beside
none_taken s table replaced [] none = refl
none_taken s table replaced (key ∷ keys) none =
    ap (beside table key (stays_any replaced (keyed_at s table key))) (none_taken s table replaced keys none)
    ∙ ap (λ stays. beside table key stays (record { gives = Ok false; reads = keys_read table keys })) (keyed_stay s table replaced key none)
    ∙ ap (λ reads. record { gives = Ok false; reads = Key table key ∷ reads }) (append-nil (keys_read table keys))

pub none_taken_gives : (s : State) (table : List ℕ) (replaced : List Stored) (keys : List (List Value)) → stays_any replaced (rows_of s table) ≡ false
    → ((keys_taken table replaced keys).in_state s).gives ≡ Ok false
none_taken_gives s table replaced keys none = ap (λ reading. reading.gives) (none_taken s table replaced keys none)

pub none_taken_reads : (s : State) (table : List ℕ) (replaced : List Stored) (keys : List (List Value)) → stays_any replaced (rows_of s table) ≡ false
    → keys_read table keys ≡ ((keys_taken table replaced keys).in_state s).reads
none_taken_reads s table replaced keys none = sym (ap (λ reading. reading.reads) (none_taken s table replaced keys none))
