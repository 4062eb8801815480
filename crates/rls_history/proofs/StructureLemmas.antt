-- The test at a commit is true exactly where the transaction takes part in a structure.
use Rattle.std.proofs.Common.{◌≡◌, ℕ, suc, ◌<◌, ◌≤◌, ltb, leb, true, false, ◌&&◌, ◌||◌, ◌↔◌, refl, arith, inl, inr, ◌⊎◌}
use Rattle.std.proofs.lemmas.Bool.{and_parts, and_from, or_cases, or_left, or_right, both_ways, cases_eq, ltb-true, leb-true, lt-ltb, le-leb, false_from_ne_true}
use Rattle.rls_history.specs.History.{History, rw as edge, any_below}
use Rattle.rls_history.specs.Structures.{IsStructure, NoStructureBelow, IsInStructure, is_structure, is_dangerous, Finds}
use Rattle.rls_history.specs.Orders.{IsHistory}
use Rattle.rls_history.proofs.HistoryLemmas.{rw_numbers, rw_read, any_below_some, any_below_from}

module _ (h : History) where
  -- what the test of three says
  structure_from_test : (first pivot last : ℕ) → is_structure h first pivot last ≡ true → IsStructure h first pivot last
  structure_from_test first pivot last e =
      let a = and_parts (edge h first pivot) (edge h pivot last && (ltb last pivot && (leb last first && (h.has_written first || ltb last (h.snap first))))) e in
      let b = and_parts (edge h pivot last) (ltb last pivot && (leb last first && (h.has_written first || ltb last (h.snap first)))) a.1 in
      let c = and_parts (ltb last pivot) (leb last first && (h.has_written first || ltb last (h.snap first))) b.1 in
      let d = and_parts (leb last first) (h.has_written first || ltb last (h.snap first)) c.1 in
      record {
        read_by_first = a.0;
        read_by_pivot = b.0;
        last_before_pivot = ltb-true _ _ c.0;
        last_before_first = leb-true _ _ d.0;
        counts = elim (or_cases (h.has_written first) (ltb last (h.snap first)) d.1) [ inl wrote ↦ inl wrote | inr early ↦ inr (ltb-true _ _ early) ];
      }

  -- and the other way round
  test_from_structure : (first pivot last : ℕ) → IsStructure h first pivot last → is_structure h first pivot last ≡ true
  test_from_structure first pivot last is =
      let counts : (h.has_written first || ltb last (h.snap first)) ≡ true = elim (is.counts) [
        | inl wrote ↦ or_left (h.has_written first) _ wrote
        | inr early ↦ or_right (h.has_written first) _ (lt-ltb _ _ early)
      ] in
      and_from _ _ is.read_by_first (and_from _ _ is.read_by_pivot (and_from _ _ (lt-ltb _ _ is.last_before_pivot) (and_from _ _ (le-leb _ _ is.last_before_first) counts)))

  -- found as the pivot
  as_pivot : (n : ℕ) → any_below (λ (first : ℕ). any_below (λ (last : ℕ). is_structure h first n last) n) n ≡ true → IsInStructure h n
  as_pivot n e =
      let a = any_below_some (λ (first : ℕ). any_below (λ (last : ℕ). is_structure h first n last) n) n e in
      let b = any_below_some (λ (last : ℕ). is_structure h a.0 n last) n a.2 in
      record {
        first = a.0;
        pivot = n;
        last = b.0;
        first_within = (let l = a.1 in omega arith);
        pivot_within = omega arith;
        last_within = (let l = b.1 in omega arith);
        takes_part = inr (inl refl);
        is = structure_from_test a.0 n b.0 b.2;
      }

  -- found as the first
  as_first : (n : ℕ) → any_below (λ (pivot : ℕ). any_below (λ (last : ℕ). is_structure h n pivot last) n) n ≡ true → IsInStructure h n
  as_first n e =
      let a = any_below_some (λ (pivot : ℕ). any_below (λ (last : ℕ). is_structure h n pivot last) n) n e in
      let b = any_below_some (λ (last : ℕ). is_structure h n a.0 last) n a.2 in
      record {
        first = n;
        pivot = a.0;
        last = b.0;
        first_within = omega arith;
        pivot_within = (let l = a.1 in omega arith);
        last_within = (let l = b.1 in omega arith);
        takes_part = inl refl;
        is = structure_from_test n a.0 b.0 b.2;
      }

  -- where the test is true there is one
  in_structure_from_test : (n : ℕ) → is_dangerous h n ≡ true → IsInStructure h n
  in_structure_from_test n e = elim (or_cases (any_below (λ (first : ℕ). any_below (λ (last : ℕ). is_structure h first n last) n) n) _ e) [ inl pivot ↦ as_pivot n pivot | inr first ↦ as_first n first ]

  -- one is found as the pivot
  pivot_found : (n first last : ℕ) → first ≤ n → IsStructure h first n last → is_dangerous h n ≡ true
  pivot_found n first last within is =
      let apart = (rw_numbers h first n is.read_by_first).2 in
      let less : first < n = elim (cases_eq first n) [ inl same ↦ absurd (apart same) | inr other ↦ omega arith ] in
      or_left _ _ (any_below_from (λ (first : ℕ). any_below (λ (last : ℕ). is_structure h first n last) n) n first less
      (any_below_from (λ (last : ℕ). is_structure h first n last) n last is.last_before_pivot (test_from_structure first n last is)))

  -- or as the first
  first_found : (n pivot last : ℕ) → pivot ≤ n → IsStructure h n pivot last → is_dangerous h n ≡ true
  first_found n pivot last within is =
      let apart = (rw_numbers h n pivot is.read_by_first).2 in
      let less : pivot < n = elim (cases_eq n pivot) [ inl same ↦ absurd (apart same) | inr other ↦ omega arith ] in
      let early : last < n = (let l = is.last_before_pivot in omega arith) in
      or_right (any_below (λ (first : ℕ). any_below (λ (last : ℕ). is_structure h first n last) n) n) _
      (any_below_from (λ (pivot : ℕ). any_below (λ (last : ℕ). is_structure h n pivot last) n) n pivot less
      (any_below_from (λ (last : ℕ). is_structure h n pivot last) n last early (test_from_structure n pivot last is)))

  -- and never as the last, which commits before the pivot
  test_from_in_structure : (n : ℕ) → IsInStructure h n → is_dangerous h n ≡ true
  test_from_in_structure n it = by_part it.first it.pivot it.last it.first_within it.pivot_within it.is it.takes_part
    where
      by_part : (first pivot last : ℕ) → first ≤ n → pivot ≤ n → IsStructure h first pivot last → (first ≡ n) ⊎ ((pivot ≡ n) ⊎ (last ≡ n)) → is_dangerous h n ≡ true
      by_part first pivot last fn pn is part = elim part [
        | inl same ↦ first_found n pivot last pn (rw same at is)
        | inr rest ↦ elim rest [
          | inl same ↦ pivot_found n first last fn (rw same at is)
          | inr same ↦ (let l = is.last_before_pivot in absurd (omega arith))
        ]
      ]

  -- so the test is exact
  pub dangerous_exactly : (n : ℕ) → (is_dangerous h n ≡ true) ↔ IsInStructure h n
  dangerous_exactly n = (in_structure_from_test n, test_from_in_structure n)

  -- one more commit brings only structures in which it takes part
  pub none_more : (n : ℕ) → NoStructureBelow h n → (IsInStructure h n → ⊥) → NoStructureBelow h (suc n)
  none_more n old none first pivot last lf lp ll is =
      let part : (first ≡ n) ⊎ ((pivot ≡ n) ⊎ (last ≡ n)) → ⊥ = λ takes_part.
      none (record { first = first; pivot = pivot; last = last; first_within = omega arith; pivot_within = omega arith; last_within = omega arith; takes_part = takes_part; is = is }) in
      elim (cases_eq first n) [
        | inl same ↦ part (inl same)
        | inr a ↦ elim (cases_eq pivot n) [
          | inl same ↦ part (inr (inl same))
          | inr b ↦ elim (cases_eq last n) [
            | inl same ↦ part (inr (inr same))
            | inr c ↦ old first pivot last (omega arith) (omega arith) (omega arith) is
          ]
        ]
      ]

  -- so the test tells whether one more commit leaves the history without
  pub safe_exactly : (n : ℕ) → NoStructureBelow h n → (is_dangerous h n ≡ false) ↔ NoStructureBelow h (suc n)
  safe_exactly n old = (
    λ safe. none_more n old (λ found. both_ways _ safe (test_from_in_structure n found)),
    λ none. false_from_ne_true _ (λ e. let it = in_structure_from_test n e in
        let a = it.first_within in let b = it.pivot_within in let d = it.last_within in none it.first it.pivot it.last (omega arith) (omega arith) (omega arith) it.is),
  )

  module _ (is_history : IsHistory h) where
    -- one that changed nothing is the first of its structures
    pub reader_is_first : (n : ℕ) → h.has_written n ≡ false → (it : IsInStructure h n) → it.first ≡ n
    reader_is_first n nothing it = by_part it.first it.pivot it.last it.is it.takes_part
      where
        by_part : (first pivot last : ℕ) → IsStructure h first pivot last → (first ≡ n) ⊎ ((pivot ≡ n) ⊎ (last ≡ n)) → first ≡ n
        by_part first pivot last is part = elim part [
          | inl same ↦ same
          | inr rest ↦ elim rest [
            | inl same ↦ absurd (both_ways _ nothing (rw same at (is_history.was_written first pivot (rw_read h first pivot is.read_by_first))))
            | inr same ↦ absurd (both_ways _ nothing (rw same at (is_history.was_written pivot last (rw_read h pivot last is.read_by_pivot))))
          ]
        ]

    -- and one that read nothing either is in none
    pub idle_is_safe : (n : ℕ) → h.has_written n ≡ false → ((j : ℕ) → h.has_read n j ≡ false) → IsInStructure h n → ⊥
    idle_is_safe n nothing unread it =
        let same = reader_is_first n nothing it in
        both_ways _ (unread it.pivot) (rw same at (rw_read h it.first it.pivot it.is.read_by_first))

-- and misses none
pub dangerous_finds : Finds is_dangerous
dangerous_finds h n it = test_from_in_structure h n it
