-- The columns of a new table's key are there, and take no null.
use Rattle.std.specs.Prelude.{◌≡◌, refl, ℕ, List, [], ◌∷◌, Option, Some, None, Bool, true, false, ◌||◌, Result, Ok, Err, get_or, map, slice_get, is_some}
use Rattle.std.specs.{List.All, Option.option_map, Str.bytes_eq}
use Rattle.std.proofs.Common.{ap, sym, subst, ◌∙◌}
use Rattle.std.proofs.{lemmas.Bool.true≢false, lemmas.List.Quantifiers.position-Some}
use Rattle.std.proofs.lemmas.List.Elements.{All-nil, All-cons}
use Rattle.std.proofs.lemmas.Option.{slice_get-get_or, slice_get-map}
use Rattle.rls_value.specs.{Names.one_of, Giving.and_then, declared.refusal.Refusal.Refusal, declared.refusal.Refusal.TheVariants.Undefined, declared.refusal.NameKind.NameKind}
use Rattle.rls_guard.specs.rls_catalog.specs.SoundRows.{takes_no_null}
use Rattle.rls_guard.specs.rls_catalog.proofs.Walks.{bytes_own, bytes_same}
use Rattle.rls_guard.specs.rls_source.specs.{Named.found_or, Sequences.each_of}
use Rattle.rls_statement.specs.{declared.statement.MarkedColumn.MarkedColumn, declared.statement.CreateTable.CreateTable}
use Rattle.rls_ddl.specs.CreatingTables.{key_names, key_or_undefined, place_of, place_or_undefined, column_in, table_with}

abbrev NoNullAt : List (List ℕ) → List MarkedColumn → ℕ → Type 0
NoNullAt key columns place = takes_no_null (slice_get (map (column_in key) columns) place) ≡ true

-- ---- one column

either_true : (a b : Bool) → b ≡ true → (a || b) ≡ true
either_true true b is = refl
either_true false b is = is

marked_true : (key : List (List ℕ)) (name : List ℕ) (marked : MarkedColumn) → bytes_eq marked.column.name name ≡ true → one_of key name ≡ true → (column_in key marked).not_null ≡ true
marked_true key name marked same among =
    either_true marked.column.not_null (one_of key marked.column.name) (ap (one_of key) (bytes_same marked.column.name name same) ∙ among)

place_true : (key : List (List ℕ)) (name : List ℕ) (columns : List MarkedColumn) (place : ℕ) → place_of columns name ≡ Some place → one_of key name ≡ true → NoNullAt key columns place
place_true key name [] place found among = absurd (true≢false (sym (ap is_some found)))
place_true key name (first ∷ columns) place found among =
    let there = position-Some (λ marked. bytes_eq marked.column.name name) (first ∷ columns) place first found in
    ap takes_no_null (slice_get-map (column_in key) (first ∷ columns) place ∙ ap (option_map (column_in key)) (slice_get-get_or (first ∷ columns) place first there.0))
    ∙ marked_true key name (get_or (first ∷ columns) place first) there.1 among

-- ---- all of them

abbrev places_in : Result (List ℕ) Refusal → List ℕ
places_in (Ok places) = places
places_in (Err refusal) = []

abbrev is_given : Result (List ℕ) Refusal → Bool
is_given (Ok places) = true
is_given (Err refusal) = false

places_true : (key : List (List ℕ)) (columns : List MarkedColumn) (name : List ℕ) (place : Option ℕ) (more : Result (List ℕ) Refusal) (places : List ℕ)
    → ((p : ℕ) → place ≡ Some p → NoNullAt key columns p)
    → ((ps : List ℕ) → more ≡ Ok ps → All (NoNullAt key columns) ps)
    → and_then (found_or (Undefined NameKind.Column name) place) (λ p. and_then more (λ ps. Ok (p ∷ ps))) ≡ Ok places → All (NoNullAt key columns) places
places_true key columns name None more places one others given = absurd (true≢false (sym (ap is_given given)))
places_true key columns name (Some p) (Err refusal) places one others given = absurd (true≢false (sym (ap is_given given)))
places_true key columns name (Some p) (Ok ps) places one others given = subst (All (NoNullAt key columns)) (ap places_in given) (All-cons (NoNullAt key columns) p ps (one p refl) (others ps refl))

each_true : (key : List (List ℕ)) (columns : List MarkedColumn) (names : List (List ℕ)) (places : List ℕ)
    → ((name : List ℕ) → one_of names name ≡ true → one_of key name ≡ true) → each_of (place_or_undefined columns) names ≡ Ok places → All (NoNullAt key columns) places
each_true key columns [] places among given = subst (All (NoNullAt key columns)) (ap places_in given) (All-nil (NoNullAt key columns))
each_true key columns (name ∷ names) places among given =
    places_true key columns name (place_of columns name) (each_of (place_or_undefined columns) names) places
    (λ p found. place_true key name columns p found (among name (ap (λ b. b || one_of names name) (bytes_own name))))
    (λ ps found. each_true key columns names ps (λ other is. among other (either_true (bytes_eq name other) (one_of names other) is)) found)
    given

pub key_takes_no_null : (owner : List ℕ) (create : CreateTable) (key : List ℕ) → key_or_undefined create ≡ Ok key → All (λ place. takes_no_null (slice_get (table_with owner create key).columns place) ≡ true) key
key_takes_no_null owner create key given = each_true (key_names create) create.columns (key_names create) key (λ name is. is) given
