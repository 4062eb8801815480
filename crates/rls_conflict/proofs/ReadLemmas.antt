-- What the indexes tell of the rw-antidependencies of a transaction that commits now.
use Rattle.std.specs.Prelude.{◌≡◌, refl, ℕ, suc, List, ◌<◌, ◌≤◌, Bool, true, ◌&&◌, ◌⊎◌, nat_eq, nat_le, nat_lt, length, slice_get, Option, Some, None}
use Rattle.std.specs.Option.{is_some}
use Rattle.std.proofs.Common.{ap, sym, ◌∙◌, subst, inl, inr, arith}
use Rattle.std.proofs.lemmas.Bool.{true≢false, and_parts, and_from, lt-ltb, ltb-true, le-leb, leb-true}
use Rattle.std.proofs.lemmas.Option.{none-some}
use Rattle.rls_value.specs.declared.object.Object.{Object}
use Rattle.rls_catalog.specs.Bases.{covers_any}
use Rattle.rls_source.specs.Footprints.{is_among}
use Rattle.rls_history.specs.History.{rw}
use Rattle.rls_siread.specs.Covering.{covered_of}
use Rattle.rls_siread.specs.Locks.{Notes, Locks, commit_in, commit_of, has_notes, held_by, noted_by, notes_at, is_number_in}
use Rattle.rls_siread.specs.Index.{HolderList, held_at}
use Rattle.rls_siread.proofs.CoveringLaws.{among_covered_of}
use Rattle.rls_siread.proofs.LocksLaws.{same_number, number_itself}
use Rattle.rls_conflict.specs.declared.committed.Committed.{Committed}
use Rattle.rls_conflict.specs.Transactions.{Transaction, reads_from, history_of}
use Rattle.rls_conflict.specs.Begun.{Begun, at_number}
use Rattle.rls_conflict.specs.Commits.{is_place_in, AreReadBy, AreReadersOf}
use Rattle.rls_conflict.specs.Kept.{AreEntries, IsRecent, IsIndexed}
use Rattle.rls_conflict.specs.declared.committed.Access.TheVariants.{Read, Write}
use Rattle.rls_conflict.specs.Search.{passes, holds_at}
use Rattle.rls_conflict.specs.Concurrent.{has_accessed, holds_since, is_at_place, is_place_of, is_place_of_reader, is_place_of_writer, AreReadersTold, AreWritersTold}
use Rattle.rls_conflict.specs.Dangers.{with_last}
use Rattle.rls_conflict.proofs.WritingLemmas.{in_from_any}
use Rattle.rls_conflict.proofs.MemberLemmas.{same_test, number_in, any_number, object_in, any_object, some_is}
use Rattle.rls_conflict.proofs.EdgeLemmas.{there_within, within_there, edge_in, edge_out}

-- ---- commits and places

-- it committed at the place
pub record IsCommitAt (commit : Option ℕ) (snap place : ℕ) : Type 0 where
  pub is : commit ≡ Some (suc place)
  pub since : snap ≤ place

at_place_is : (snap : ℕ) (commit : Option ℕ) (place : ℕ) → is_at_place snap commit place ≡ true → IsCommitAt commit snap place
at_place_is snap None place is = absurd (true≢false (sym is))
at_place_is snap (Some commit) place is =
    let parts = and_parts (nat_lt snap commit) (nat_eq commit (suc place)) is in
    let same = same_number commit (suc place) parts.1 in
    let less : snap < suc place = subst (λ n. snap < n) same (ltb-true snap commit parts.0) in
    record { is = ap Some same; since = omega arith }

at_place_from : (snap : ℕ) (commit : Option ℕ) (place : ℕ) → commit ≡ Some (suc place) → snap ≤ place → is_at_place snap commit place ≡ true
at_place_from snap commit place is since =
    let less : snap < suc place = omega arith in
    ap (λ c. is_at_place snap c place) is ∙ and_from (nat_lt snap (suc place)) (nat_eq (suc place) (suc place)) (lt-ltb snap (suc place) less) (number_itself (suc place))

noted_if : (notes : Option Notes) (commit : ℕ) → commit_in notes ≡ Some commit → is_some notes ≡ true
noted_if None commit is = absurd (none-some commit is)
noted_if (Some notes) commit is = refl

commit_is_noted : (locks : Locks) (number commit : ℕ) → commit_of locks number ≡ Some commit → has_notes locks number ≡ true
commit_is_noted locks number commit is = noted_if (notes_at locks.notes number) commit is

same_commit : (one other : ℕ) → Some (suc one) ≡ Some (suc other) → one ≡ other
same_commit one other is = cc

-- ---- who stands at the place

-- the one of that number stands at the place, above the floor
pub record StandsAt (committed : List Committed) (floor number place : ℕ) : Type 0 where
  pub it : Committed
  pub there : slice_get committed place ≡ Some it
  pub number_is : it.transaction.number ≡ number
  pub recent : floor ≤ place

-- one that passes the test stands at the place, and so many had committed before it
pub record StandsSince (test : Committed → Bool) (committed : List Committed) (snap place : ℕ) : Type 0 where
  pub it : Committed
  pub there : slice_get committed place ≡ Some it
  pub since : snap ≤ place
  pub passing : test it ≡ true

passing_it : (test : Committed → Bool) (found : Option Committed) → passes test found ≡ true → (it : Committed) × (found ≡ Some it) × (test it ≡ true)
passing_it test None is = absurd (true≢false (sym is))
passing_it test (Some it) is = (it, refl, is)

since_is : (test : Committed → Bool) (committed : List Committed) (snap place : ℕ) → holds_since test committed snap place ≡ true → StandsSince test committed snap place
since_is test committed snap place is =
    let parts = and_parts (nat_le snap place) (holds_at test committed place) is in
    let one = passing_it test (slice_get committed place) parts.1 in
    record { it = one.0; there = one.1; since = leb-true snap place parts.0; passing = one.2 }

since_from : (test : Committed → Bool) (committed : List Committed) (snap place : ℕ) (it : Committed) → slice_get committed place ≡ Some it → snap ≤ place → test it ≡ true → holds_since test committed snap place ≡ true
since_from test committed snap place it there since passing =
    and_from (nat_le snap place) (holds_at test committed place) (le-leb snap place since) (ap (passes test) there ∙ passing)

module _ (committed : List Committed) (running : List (ℕ × Begun)) (locks : Locks) (writers : List (Object × HolderList)) (floor : ℕ)
    (entries : AreEntries committed) (indexed : IsIndexed committed running locks writers floor) where
  -- it doesn't run, since those that run didn't commit
  stands_at : (number place : ℕ) → (is_some (at_number number running) ≡ true) ⊎ IsRecent committed floor number → commit_of locks number ≡ Some (suc place) → StandsAt committed floor number place
  stands_at number place which is = elim which [
    | inl runs ↦ (let found = some_is (at_number number running) runs in absurd (none-some (suc place) (sym (indexed.run number found.0 found.1).1 ∙ is)))
    | inr recent ↦
        (let marked = ap (commit_of locks) (sym recent.number) ∙ indexed.marked recent.place recent.it recent.there recent.recent in
        let same : place ≡ recent.place = same_commit place recent.place (sym is ∙ marked) in
        record {
          it = recent.it;
          there = ap (slice_get committed) same ∙ recent.there;
          number_is = recent.number;
          recent = subst (λ n. floor ≤ n) (sym same) recent.recent;
        })
  ]

  -- ---- those that committed since, by the indexes and by themselves

  module _ (snap : ℕ) (within : floor ≤ snap) where
    module _ (noting : (object : Object) (number : ℕ) → is_number_in (held_by locks object) number ≡ is_among (noted_by locks number) object) where
      reader_since : (object : Object) (place : ℕ) → is_place_of locks snap (held_by locks object) place ≡ true → holds_since (has_accessed Read object) committed snap place ≡ true
      reader_since object place is =
          let number = in_from_any (λ number. is_at_place snap (commit_of locks number) place) (held_by locks object) is in
          let commit = at_place_is snap (commit_of locks number.0) place number.2 in
          let stands = stands_at number.0 place (indexed.no_reader number.0 (commit_is_noted locks number.0 (suc place) commit.is)) commit.is in
          since_from (has_accessed Read object) committed snap place stands.it stands.there commit.since
          (ap (λ list. is_among list object) (sym (indexed.noted place stands.it stands.there stands.recent))
          ∙ ap (λ n. is_among (noted_by locks n) object) stands.number_is
          ∙ sym (noting object number.0)
          ∙ number_in (held_by locks object) number.0 number.1)

      since_reader : (object : Object) (place : ℕ) → holds_since (has_accessed Read object) committed snap place ≡ true → is_place_of locks snap (held_by locks object) place ≡ true
      since_reader object place is =
          let one = since_is (has_accessed Read object) committed snap place is in
          let since : snap ≤ place = one.since in
          let recent : floor ≤ place = omega arith in
          any_number (λ number. is_at_place snap (commit_of locks number) place) (held_by locks object) one.it.transaction.number
          (noting object one.it.transaction.number ∙ ap (λ list. is_among list object) (indexed.noted place one.it one.there recent) ∙ one.passing)
          (at_place_from snap (commit_of locks one.it.transaction.number) place (indexed.marked place one.it one.there recent) since)

      pub readers_told : AreReadersTold committed locks snap
      readers_told object place =
          same_test (is_place_of locks snap (held_by locks object) place) (holds_since (has_accessed Read object) committed snap place) (reader_since object place) (since_reader object place)

    writer_since : (object : Object) (place : ℕ) → is_place_of locks snap (held_at writers object) place ≡ true → holds_since (has_accessed Write object) committed snap place ≡ true
    writer_since object place is =
        let number = in_from_any (λ number. is_at_place snap (commit_of locks number) place) (held_at writers object) is in
        let commit = at_place_is snap (commit_of locks number.0) place number.2 in
        let holds = number_in (held_at writers object) number.0 number.1 in
        let stands = stands_at number.0 place (indexed.no_writer number.0 object holds) commit.is in
        since_from (has_accessed Write object) committed snap place stands.it stands.there commit.since
        (sym (indexed.covered place stands.it stands.there stands.recent object) ∙ ap (is_number_in (held_at writers object)) stands.number_is ∙ holds)

    since_writer : (object : Object) (place : ℕ) → holds_since (has_accessed Write object) committed snap place ≡ true → is_place_of locks snap (held_at writers object) place ≡ true
    since_writer object place is =
        let one = since_is (has_accessed Write object) committed snap place is in
        let since : snap ≤ place = one.since in
        let recent : floor ≤ place = omega arith in
        any_number (λ number. is_at_place snap (commit_of locks number) place) (held_at writers object) one.it.transaction.number
        (indexed.covered place one.it one.there recent object ∙ one.passing)
        (at_place_from snap (commit_of locks one.it.transaction.number) place (indexed.marked place one.it one.there recent) since)

    pub writers_told : AreWritersTold committed writers locks snap
    writers_told object place =
        same_test (is_place_of locks snap (held_at writers object) place) (holds_since (has_accessed Write object) committed snap place) (writer_since object place) (since_writer object place)

  -- ---- those that read from the last one

  module _ (last : Transaction) (within : floor ≤ last.snap) where
    module _ (noting : (object : Object) (number : ℕ) → is_number_in (held_by locks object) number ≡ is_among (noted_by locks number) object) where
      reader_there : (objects : List Object) → objects ≡ covered_of last.changes → (place : ℕ) → is_place_of_reader locks last.snap objects place ≡ true
          → (nat_lt place (length committed) && rw (history_of (with_last committed last)) place (length committed)) ≡ true
      reader_there objects are place is =
          let object = in_from_any (λ object. is_place_of locks last.snap (held_by locks object) place) objects is in
          let one = since_is (has_accessed Read object.0) committed last.snap place (reader_since last.snap within noting object.0 place object.2) in
          let covered = sym (among_covered_of last.changes object.0) ∙ ap (λ list. is_among list object.0) (sym are) ∙ object_in objects object.0 object.1 in
          let reads = any_object (λ object. covers_any object last.changes) one.it.transaction.noted object.0 one.passing covered in
          and_from (nat_lt place (length committed)) (rw (history_of (with_last committed last)) place (length committed)) (lt-ltb place (length committed) (there_within committed place one.it one.there))
          (edge_in committed last place one.it one.there (entries place one.it one.there).began
          ∙ and_from (nat_le last.snap place) (reads_from one.it.transaction.noted last.changes) (le-leb last.snap place one.since) reads)

      reader_back : (objects : List Object) → objects ≡ covered_of last.changes → (place : ℕ)
          → (nat_lt place (length committed) && rw (history_of (with_last committed last)) place (length committed)) ≡ true → is_place_of_reader locks last.snap objects place ≡ true
      reader_back objects are place is =
          let parts = and_parts (nat_lt place (length committed)) (rw (history_of (with_last committed last)) place (length committed)) is in
          let one = within_there committed place (ltb-true place (length committed) parts.0) in
          let it = one.0 in
          let edge = and_parts (nat_le last.snap place) (reads_from it.transaction.noted last.changes) (sym (edge_in committed last place it one.1 (entries place it one.1).began) ∙ parts.1) in
          let object = in_from_any (λ object. covers_any object last.changes) it.transaction.noted edge.1 in
          any_object (λ object. is_place_of locks last.snap (held_by locks object) place) objects object.0
          (ap (λ list. is_among list object.0) are ∙ among_covered_of last.changes object.0 ∙ object.2)
          (since_reader last.snap within noting object.0 place
          (since_from (has_accessed Read object.0) committed last.snap place it one.1 (leb-true last.snap place edge.0) (object_in it.transaction.noted object.0 object.1)))

      -- the holders of what its changes cover are its readers
      pub are_readers : (objects : List Object) → objects ≡ covered_of last.changes → (places : List ℕ) → ((place : ℕ) → is_place_in places place ≡ is_place_of_reader locks last.snap objects place)
          → AreReadersOf (with_last committed last) (length committed) places
      are_readers objects are places found place =
          found place ∙ same_test (is_place_of_reader locks last.snap objects place) (nat_lt place (length committed) && rw (history_of (with_last committed last)) place (length committed))
          (reader_there objects are place) (reader_back objects are place)

    -- ---- those that the last one read from

    covers_of : (place : ℕ) (it : Committed) → slice_get committed place ≡ Some it → (object : Object) → is_among it.covered object ≡ covers_any object it.transaction.changes
    covers_of place it there object = ap (λ list. is_among list object) (entries place it there).covered ∙ among_covered_of it.transaction.changes object

    writer_there : (objects : List Object) → objects ≡ last.noted → (place : ℕ) → is_place_of_writer writers locks last.snap objects place ≡ true
        → (nat_lt place (length committed) && rw (history_of (with_last committed last)) (length committed) place) ≡ true
    writer_there objects are place is =
        let object = in_from_any (λ object. is_place_of locks last.snap (held_at writers object) place) objects is in
        let one = since_is (has_accessed Write object.0) committed last.snap place (writer_since last.snap within object.0 place object.2) in
        let noted = ap (λ list. is_among list object.0) (sym are) ∙ object_in objects object.0 object.1 in
        let reads = any_object (λ object. covers_any object one.it.transaction.changes) last.noted object.0 noted (sym (covers_of place one.it one.there object.0) ∙ one.passing) in
        and_from (nat_lt place (length committed)) (rw (history_of (with_last committed last)) (length committed) place) (lt-ltb place (length committed) (there_within committed place one.it one.there))
        (edge_out committed last place one.it one.there (entries place one.it one.there).began
        ∙ and_from (nat_le last.snap place) (reads_from last.noted one.it.transaction.changes) (le-leb last.snap place one.since) reads)

    writer_back : (objects : List Object) → objects ≡ last.noted → (place : ℕ)
        → (nat_lt place (length committed) && rw (history_of (with_last committed last)) (length committed) place) ≡ true → is_place_of_writer writers locks last.snap objects place ≡ true
    writer_back objects are place is =
        let parts = and_parts (nat_lt place (length committed)) (rw (history_of (with_last committed last)) (length committed) place) is in
        let one = within_there committed place (ltb-true place (length committed) parts.0) in
        let it = one.0 in
        let edge = and_parts (nat_le last.snap place) (reads_from last.noted it.transaction.changes) (sym (edge_out committed last place it one.1 (entries place it one.1).began) ∙ parts.1) in
        let object = in_from_any (λ object. covers_any object it.transaction.changes) last.noted edge.1 in
        any_object (λ object. is_place_of locks last.snap (held_at writers object) place) objects object.0
        (ap (λ list. is_among list object.0) are ∙ object_in last.noted object.0 object.1)
        (since_writer last.snap within object.0 place
        (since_from (has_accessed Write object.0) committed last.snap place it one.1 (leb-true last.snap place edge.0) (covers_of place it one.1 object.0 ∙ object.2)))

    -- those whose changes cover what it noted are those that it read from
    pub are_read : (objects : List Object) → objects ≡ last.noted → (places : List ℕ) → ((place : ℕ) → is_place_in places place ≡ is_place_of_writer writers locks last.snap objects place)
        → AreReadBy (with_last committed last) (length committed) places
    are_read objects are places found place =
        found place ∙ same_test (is_place_of_writer writers locks last.snap objects place) (nat_lt place (length committed) && rw (history_of (with_last committed last)) (length committed) place)
        (writer_there objects are place) (writer_back objects are place)
