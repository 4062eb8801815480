-- What the search finds is a dangerous structure with a cause, and where it finds none there is none.
use Rattle.std.specs.Prelude.{◌≡◌, refl, ℕ, List, [], ◌∷◌, ◌<◌, ◌≤◌, ◌⊎◌, Bool, true, false, not, ◌&&◌, ◌==◌, ltb, nat_eq, nat_le, nat_lt, length, slice_get, Option, Some, None, MatchOption}
use Rattle.std.proofs.Common.{ap, sym, ◌∙◌, subst, arith, inl, inr}
use Rattle.std.proofs.lemmas.Bool.{true≢false, false≢true, cases_eq, lt-ltb, ltb-true, leb-true, le-leb, eq-eqb, ne_eqb, and_parts, and_from, or_cases, or_left, or_right}
use Rattle.rls_value.specs.declared.object.Object.{Object}
use Rattle.rls_value.specs.declared.refusal.Cause.{Cause}
use Rattle.rls_value.specs.declared.refusal.Cause.TheVariants as c
use Rattle.rls_catalog.specs.declared.change.Change.{Change}
use Rattle.rls_catalog.specs.Bases.{covers_any}
use Rattle.rls_source.specs.Footprints.{is_among}
use Rattle.rls_history.specs.History.{rw}
use Rattle.rls_history.specs.Structures.{IsStructure}
use Rattle.rls_history.specs.Transactions.{is_empty}
use Rattle.rls_siread.specs.Covering.{covered_of}
use Rattle.rls_siread.proofs.CoveringLaws.{among_covered_of, any_same}
use Rattle.rls_conflict.specs.declared.committed.Committed.{Committed}
use Rattle.rls_conflict.specs.declared.ready.Ready.{Ready}
use Rattle.rls_conflict.specs.Transactions.{Transaction, at, reads_from, history_of}
use Rattle.rls_conflict.specs.Causes.{IsReadBy, IsCauseOf, IsInNoStructure}
use Rattle.rls_conflict.specs.Commits.{is_place_in}
use Rattle.rls_conflict.specs.Kept.{all_committed, AreEntries}
use Rattle.rls_conflict.specs.Dangers.{with_last, HasEdges, IsNoPivot, IsNoFirst}
use Rattle.rls_conflict.specs.Named.{meets, IsCommon, IsNamed}
use Rattle.rls_conflict.specs.Search.{passes, holds_at, is_first_for, counts_now, has_read_from, NoneAround, IsAround, NoneBeyond, IsBeyond}
use Rattle.rls_conflict.proofs.EdgeLemmas.{at_kept, at_last, there_within, within_there, edge_between, rw_at}

-- ---- what holds at a place

holds_of : (test : Committed → Bool) (committed : List Committed) (place : ℕ) (it : Committed) → slice_get committed place ≡ Some it → holds_at test committed place ≡ test it
holds_of test committed place it is = ap (passes test) is

-- a list is empty where its length is 0
pub empty_length : (changes : List Change) → is_empty changes ≡ (length changes == 0)
empty_length [] = refl
empty_length (x ∷ xs) = sym (ne_eqb (length (x ∷ xs)) 0 (λ same. absurd (omega arith)))

-- ---- who reads whom

own_parts : (a b c d : Bool) → a ≡ true → ((not a && b && c) && d) ≡ true → ⊥
own_parts true b c d same is = false≢true is
own_parts false b c d same is = false≢true same

-- nobody reads from itself
no_own_edge : (transactions : List Transaction) (i : ℕ) → rw (history_of transactions) i i ≡ true → ⊥
no_own_edge transactions i is =
    own_parts (nat_eq i i) (not (nat_lt i (at transactions i).snap)) (not (nat_lt i (at transactions i).snap)) (reads_from (at transactions i).noted (at transactions i).changes) (eq-eqb i i refl) is

edge_reads : (a b c d : Bool) → ((a && b && c) && d) ≡ true → d ≡ true
edge_reads a b c d is = (and_parts (a && b && c) d is).1

-- a rw-antidependency is a noted object that is covered
reads_at : (transactions : List Transaction) (i j : ℕ) (one other : Transaction) → at transactions i ≡ one → at transactions j ≡ other → rw (history_of transactions) i j ≡ true → reads_from one.noted other.changes ≡ true
reads_at transactions i j one other first second is =
    edge_reads (not (i == j)) (not (ltb i other.snap)) (not (ltb j one.snap)) (reads_from one.noted other.changes) (sym (rw_at transactions i j one other first second) ∙ is)

meets_reads : (noted covered : List Object) (changes : List Change) → covered ≡ covered_of changes → meets noted covered ≡ reads_from noted changes
meets_reads noted covered changes is = any_same (is_among covered) (λ object. covers_any object changes) (λ object. ap (λ list. is_among list object) is ∙ among_covered_of changes object) noted

common_read : (object : Object) (reader writer one other : Transaction) (covered : List Object) → reader ≡ one → writer ≡ other → covered ≡ covered_of other.changes → IsCommon one.noted covered object → IsReadBy object reader writer
common_read object reader writer one other covered first second is common = record {
  noted = ap (λ (t : Transaction). is_among t.noted object) first ∙ common.in_noted;
  written = ap (λ (t : Transaction). covers_any object t.changes) second ∙ sym (among_covered_of other.changes object) ∙ ap (λ list. is_among list object) (sym is) ∙ common.in_covered;
}

both_meet : (a b : Bool) → a ≡ true → b ≡ true → (a && b) ≡ false → ⊥
both_meet a b one two none = true≢false (sym (and_from a b one two) ∙ none)

-- ---- the cause of a structure

module _ (transactions : List Transaction) (place first pivot last : ℕ) (one two three : Transaction) (covered_by_pivot covered_by_last : List Object)
    (structure : IsStructure (history_of transactions) first pivot last)
    (at_first : at transactions first ≡ one) (at_pivot : at transactions pivot ≡ two) (at_third : at transactions last ≡ three)
    (pivot_covered : covered_by_pivot ≡ covered_of two.changes) (last_covered : covered_by_last ≡ covered_of three.changes)
    (first_within : first ≤ place) (pivot_within : pivot ≤ place) (takes_part : (first ≡ place) ⊎ (pivot ≡ place)) where
  -- where a structure was found its cause is named
  pub named_cause : (None' : Type 0) (found : Option Cause) → IsNamed one covered_by_pivot two covered_by_last three found → MatchOption found None' (IsCauseOf transactions place)
  named_cause None' None named =
      absurd (both_meet (meets one.noted covered_by_pivot) (meets two.noted covered_by_last)
      (meets_reads one.noted covered_by_pivot two.changes pivot_covered ∙ reads_at transactions first pivot one two at_first at_pivot structure.read_by_first)
      (meets_reads two.noted covered_by_last three.changes last_covered ∙ reads_at transactions pivot last two three at_pivot at_third structure.read_by_pivot) named)
  named_cause None' (Some cause) named = record {
    first = first;
    pivot = pivot;
    last = last;
    one = named.one;
    two = named.two;
    structure = structure;
    names = named.names ∙ (λ k. c.Structure (sym at_first k).number named.one (sym at_pivot k).number named.two (sym at_third k).number);
    by_first = common_read named.one (at transactions first) (at transactions pivot) one two covered_by_pivot at_first at_pivot pivot_covered named.by_first;
    by_pivot = common_read named.two (at transactions pivot) (at transactions last) two three covered_by_last at_pivot at_third last_covered named.by_pivot;
    first_within = first_within;
    pivot_within = pivot_within;
    takes_part = takes_part;
  }

-- ---- among the rw-antidependencies of the transaction

module _ (committed : List Committed) (ready : Ready) (entries : AreEntries committed) (edges : HasEdges committed ready) where
  abbrev all : List Transaction
  all = with_last committed ready.transaction

  abbrev count : ℕ
  count = length committed

  reader_is : (i : ℕ) → is_place_in ready.readers.items i ≡ true → (i < count) × (rw (history_of all) i count ≡ true)
  reader_is i is =
      let parts = and_parts (nat_lt i count) (rw (history_of all) i count) (sym (edges.readers i) ∙ is) in
      (ltb-true i count parts.0, parts.1)

  read_is : (i : ℕ) → is_place_in ready.read.items i ≡ true → (i < count) × (rw (history_of all) count i ≡ true)
  read_is i is =
      let parts = and_parts (nat_lt i count) (rw (history_of all) count i) (sym (edges.read i) ∙ is) in
      (ltb-true i count parts.0, parts.1)

  inside : (i : ℕ) → i ≤ count → (i ≡ count → ⊥) → i < count
  inside i within apart = elim (cases_eq i count) [ inl same ↦ absurd (apart same) | inr other ↦ omega arith ]

  counts_is : (first last : ℕ) (it : Committed) → slice_get committed first ≡ Some it → is_first_for last it ≡ true → ((history_of all).has_written first ≡ true) ⊎ (last < (history_of all).snap first)
  counts_is first last it there is =
      let seen = at_kept committed (ready.transaction ∷ []) first it there in
      elim (or_cases (not (is_empty it.transaction.changes)) (nat_lt last it.transaction.snap) is) [
        | inl wrote ↦ inl (ap (λ (t : Transaction). not (is_empty t.changes)) seen ∙ wrote)
        | inr early ↦ inr (subst (λ (t : Transaction). last < t.snap) (sym seen) (ltb-true last it.transaction.snap early))
      ]

  counts_from : (first last : ℕ) (it : Committed) → slice_get committed first ≡ Some it → ((history_of all).has_written first ≡ true) ⊎ (last < (history_of all).snap first) → is_first_for last it ≡ true
  counts_from first last it there is =
      let seen = at_kept committed (ready.transaction ∷ []) first it there in
      elim is [
        | inl wrote ↦ or_left (not (is_empty it.transaction.changes)) (nat_lt last it.transaction.snap) (ap (λ (t : Transaction). not (is_empty t.changes)) (sym seen) ∙ wrote)
        | inr early ↦ or_right (not (is_empty it.transaction.changes)) (nat_lt last it.transaction.snap) (lt-ltb last it.transaction.snap (subst (λ (t : Transaction). last < t.snap) seen early))
      ]

  -- ---- as the pivot

  around_is : (found : ℕ × ℕ) → IsAround committed ready.readers.items ready.read.items found → IsStructure (history_of all) found.0 count found.1
  around_is found is =
      let first = reader_is found.0 is.reader in
      let third = read_is found.1 is.last.read in
      let parts = and_parts (nat_le found.1 found.0) (holds_at (is_first_for found.1) committed found.0) is.last.counts in
      let one = within_there committed found.0 first.0 in
      record {
        read_by_first = first.1;
        read_by_pivot = third.1;
        last_before_pivot = third.0;
        last_before_first = leb-true found.1 found.0 parts.0;
        counts = counts_is found.0 found.1 one.0 one.1 (sym (holds_of (is_first_for found.1) committed found.0 one.0 one.1) ∙ parts.1);
      }

  pub around_none : NoneAround committed ready.readers.items ready.read.items → IsNoPivot all count
  around_none none first last within is =
      let inner = inside first within (λ same. no_own_edge all count (subst (λ i. rw (history_of all) i count ≡ true) same is.read_by_first)) in
      let one = within_there committed first inner in
      let fails = none first (edges.readers first ∙ and_from (nat_lt first count) (rw (history_of all) first count) (lt-ltb first count inner) is.read_by_first)
      last (edges.read last ∙ and_from (nat_lt last count) (rw (history_of all) count last) (lt-ltb last count is.last_before_pivot) is.read_by_pivot) in
      both_meet (nat_le last first) (holds_at (is_first_for last) committed first) (le-leb last first is.last_before_first)
      (holds_of (is_first_for last) committed first one.0 one.1 ∙ counts_from first last one.0 one.1 is.counts) fails

  pub around_named : (found : ℕ × ℕ) → IsAround committed ready.readers.items ready.read.items found → (result : Option Cause)
      → ((one three : Committed) → slice_get committed found.0 ≡ Some one → slice_get committed found.1 ≡ Some three → IsNamed one.transaction ready.covered ready.transaction three.covered three.transaction result)
      → MatchOption result (IsNoPivot all count) (IsCauseOf all count)
  around_named found around result named =
      let structure = around_is found around in
      let less : found.0 < count = (reader_is found.0 around.reader).0 in
      let one = within_there committed found.0 less in
      let three = within_there committed found.1 (read_is found.1 around.last.read).0 in
      named_cause all count found.0 count found.1 one.0.transaction ready.transaction three.0.transaction ready.covered three.0.covered structure
      (at_kept committed (ready.transaction ∷ []) found.0 one.0 one.1) (at_last committed ready.transaction) (at_kept committed (ready.transaction ∷ []) found.1 three.0 three.1)
      edges.covered (entries found.1 three.0 three.1).covered (omega arith) (omega arith) (inr refl) (IsNoPivot all count) result (named one.0 three.0 one.1 three.1)

  -- ---- as the first

  further_is : (pivot last : ℕ) (two : Committed) → slice_get committed pivot ≡ Some two → has_read_from committed pivot last ≡ true → (last < pivot) × (rw (history_of all) pivot last ≡ true)
  further_is pivot last two there is =
      let parts = and_parts (nat_lt last pivot) (rw (history_of (all_committed committed)) pivot last)
      (sym ((entries pivot two there).read last) ∙ sym (holds_of (λ it. is_place_in it.read.items last) committed pivot two there) ∙ is) in
      let less : last < pivot = ltb-true last pivot parts.0 in
      let most : pivot < count = there_within committed pivot two there in
      let three = within_there committed last (omega arith) in
      (less, edge_between committed (ready.transaction ∷ []) pivot last two three.0 there three.1 ∙ parts.1)

  further_from : (pivot last : ℕ) (two : Committed) → slice_get committed pivot ≡ Some two → last < pivot → rw (history_of all) pivot last ≡ true → has_read_from committed pivot last ≡ true
  further_from pivot last two there less is =
      let most : pivot < count = there_within committed pivot two there in
      let three = within_there committed last (omega arith) in
      holds_of (λ it. is_place_in it.read.items last) committed pivot two there ∙ (entries pivot two there).read last
      ∙ and_from (nat_lt last pivot) (rw (history_of (all_committed committed)) pivot last) (lt-ltb last pivot less) (sym (edge_between committed (ready.transaction ∷ []) pivot last two three.0 there three.1) ∙ is)

  abbrev has_written : Bool
  has_written = not (is_empty ready.transaction.changes)

  now_is : (last : ℕ) → counts_now has_written ready.transaction.snap last ≡ true → ((history_of all).has_written count ≡ true) ⊎ (last < (history_of all).snap count)
  now_is last is =
      let seen = at_last committed ready.transaction in
      elim (or_cases has_written (nat_lt last ready.transaction.snap) is) [
        | inl wrote ↦ inl (ap (λ (t : Transaction). not (is_empty t.changes)) seen ∙ wrote)
        | inr early ↦ inr (subst (λ (t : Transaction). last < t.snap) (sym seen) (ltb-true last ready.transaction.snap early))
      ]

  now_from : (last : ℕ) → ((history_of all).has_written count ≡ true) ⊎ (last < (history_of all).snap count) → counts_now has_written ready.transaction.snap last ≡ true
  now_from last is =
      let seen = at_last committed ready.transaction in
      elim is [
        | inl wrote ↦ or_left has_written (nat_lt last ready.transaction.snap) (ap (λ (t : Transaction). not (is_empty t.changes)) (sym seen) ∙ wrote)
        | inr early ↦ or_right has_written (nat_lt last ready.transaction.snap) (lt-ltb last ready.transaction.snap (subst (λ (t : Transaction). last < t.snap) seen early))
      ]

  beyond_is : (found : ℕ × ℕ) → IsBeyond committed ready.read.items has_written ready.transaction.snap found → IsStructure (history_of all) count found.0 found.1
  beyond_is found is =
      let pivot = read_is found.0 is.read in
      let most : found.0 < count = pivot.0 in
      let two = within_there committed found.0 pivot.0 in
      let further = further_is found.0 found.1 two.0 two.1 is.last.further in
      let less : found.1 < found.0 = further.0 in
      record {
        read_by_first = pivot.1;
        read_by_pivot = further.1;
        last_before_pivot = further.0;
        last_before_first = omega arith;
        counts = now_is found.1 is.last.counts;
      }

  pub beyond_none : NoneBeyond committed ready.read.items has_written ready.transaction.snap → IsNoFirst all count
  beyond_none none pivot last within is =
      let inner = inside pivot within (λ same. no_own_edge all count (subst (λ i. rw (history_of all) count i ≡ true) same is.read_by_first)) in
      let two = within_there committed pivot inner in
      let fails = none pivot (edges.read pivot ∙ and_from (nat_lt pivot count) (rw (history_of all) count pivot) (lt-ltb pivot count inner) is.read_by_first)
      last (further_from pivot last two.0 two.1 is.last_before_pivot is.read_by_pivot) in
      true≢false (sym (now_from last is.counts) ∙ fails)

  pub beyond_named : (found : ℕ × ℕ) → IsBeyond committed ready.read.items has_written ready.transaction.snap found → (result : Option Cause)
      → ((two three : Committed) → slice_get committed found.0 ≡ Some two → slice_get committed found.1 ≡ Some three → IsNamed ready.transaction two.covered two.transaction three.covered three.transaction result)
      → MatchOption result (IsNoFirst all count) (IsCauseOf all count)
  beyond_named found beyond result named =
      let structure = beyond_is found beyond in
      let most : found.0 < count = (read_is found.0 beyond.read).0 in
      let less : found.1 < found.0 = structure.last_before_pivot in
      let two = within_there committed found.0 most in
      let three = within_there committed found.1 (omega arith) in
      named_cause all count count found.0 found.1 ready.transaction two.0.transaction three.0.transaction two.0.covered three.0.covered structure
      (at_last committed ready.transaction) (at_kept committed (ready.transaction ∷ []) found.0 two.0 two.1) (at_kept committed (ready.transaction ∷ []) found.1 three.0 three.1)
      (entries found.0 two.0 two.1).covered (entries found.1 three.0 three.1).covered (omega arith) (omega arith) (inl refl) (IsNoFirst all count) result (named two.0 three.0 two.1 three.1)

-- ---- none at all

pub in_none : (transactions : List Transaction) (place : ℕ) → IsNoPivot transactions place → IsNoFirst transactions place → IsInNoStructure transactions place
in_none transactions place no_pivot no_first it =
    elim it.takes_part [
      | inl as_first ↦ no_first it.pivot it.last it.pivot_within (subst (λ i. IsStructure (history_of transactions) i it.pivot it.last) as_first it.is)
      | inr rest ↦
          elim rest [
            | inl as_pivot ↦ no_pivot it.first it.last it.first_within (subst (λ i. IsStructure (history_of transactions) it.first i it.last) as_pivot it.is)
            | inr as_last ↦ absurd (last_is_none it.last it.pivot place as_last it.is.last_before_pivot it.pivot_within)
          ]
    ]
  where
    last_is_none : (last pivot place : ℕ) → last ≡ place → last < pivot → pivot ≤ place → ⊥
    last_is_none last pivot place same less within = omega arith
