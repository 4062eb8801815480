-- An order is made by giving the next in turn, which is found by the rw-antidependencies alone.
use Rattle.std.proofs.Common.{◌≡◌, ℕ, zero, suc, ◌<◌, ◌≤◌, ◌==◌, Bool, true, false, not, ◌&&◌, List, [], ◌∷◌, ◌++◌, length, get_or, refl, ap, arith, inl, inr, ◌⊎◌, ◌↔◌, ltb, ltb-true, lt-ltb, ne_eqb, eq-eqb}
use Rattle.std.proofs.lemmas.Bool.{and_parts, and_cases, and_from, not-true, not-false, not_from_false, cases_Bool, or_cases, cases_eq, cases_lt, both_ways, or_parts, or_from, false_from_ne_true, true_from_ne_false}
use Rattle.rls_history.specs.History.{History, before, rw as edge, any_below}
use Rattle.rls_history.specs.Structures.{NoStructureBelow}
use Rattle.rls_history.specs.Orders.{IsHistory, precedes, with_placed, none_placed, IsNext, StandInTurn, placed_by, IsOrder, place_in, IsInOrder, is_next, stand_in_turn, is_order, left_below, IsFirstLeft, IsReaderLeft, NoReaderLeft}
use Rattle.rls_history.proofs.HistoryLemmas.{rw_numbers, rw_read, any_below_none, any_below_some, least_below, search_below}

-- ---- who is left

-- of those below a number just the placed one counts
left_same : (placed : ℕ → Bool) (t n : ℕ) → n ≤ t → left_below (with_placed placed t) n ≡ left_below placed n
left_same placed t zero l = refl
left_same placed t (suc n) l =
    let other : (n == t) ≡ false = ne_eqb n t (λ e. omega arith) in
    let rest = left_same placed t n (omega arith) in
    rw other (rw rest refl)

-- one fewer is left
pub left_falls : (placed : ℕ → Bool) (t n : ℕ) → t < n → placed t ≡ false → suc (left_below (with_placed placed t) n) ≡ left_below placed n
left_falls placed t zero l is_left = absurd (omega arith)
left_falls placed t (suc n) l is_left =
    elim (cases_eq n t) [
      | inl same ↦
          (let here : (n == t) ≡ true = eq-eqb _ _ same in
          let left : placed n ≡ false = rw same is_left in
          let rest = left_same placed t n (omega arith) in
          rw here (rw left (rw rest (omega arith))))
      | inr other ↦
          (let there : (n == t) ≡ false = ne_eqb n t other in
          let rest = left_falls placed t n (omega arith) is_left in
          rw there (omega (arith, rest)))
    ]

-- where none is left all are placed
pub none_left : (placed : ℕ → Bool) (n : ℕ) → left_below placed n ≡ 0 → (i : ℕ) → i < n → placed i ≡ true
none_left placed zero e i l = absurd (omega arith)
none_left placed (suc n) e i l =
    elim (cases_Bool (placed n)) [
      | inl yes' ↦
          (let rest : left_below placed n ≡ 0 = (let x = rw yes' at e in omega (arith, x)) in
          elim (cases_eq i n) [ inl same ↦ rw same yes' | inr other ↦ none_left placed n rest i (omega arith) ])
      | inr no' ↦ (let x = rw no' at e in absurd (omega (arith, x)))
    ]

-- ---- an order that grows

-- one more is placed
pub placed_by_push : (placed : ℕ → Bool) (ts : List ℕ) (t : ℕ) → placed_by placed (ts ++ t ∷ []) ≡ with_placed (placed_by placed ts) t
placed_by_push placed [] t = refl
placed_by_push placed (u ∷ ts) t = placed_by_push (with_placed placed u) ts t

module _ (h : History) where
  -- one more stands in its turn
  pub in_turn_push : (placed : ℕ → Bool) (ts : List ℕ) (t : ℕ) → StandInTurn h placed ts → IsNext h (placed_by placed ts) t → StandInTurn h placed (ts ++ t ∷ [])
  in_turn_push placed [] t turns next = (next, tt)
  in_turn_push placed (u ∷ ts) t turns next = (turns.0, in_turn_push (with_placed placed u) ts t turns.1 next)

  module _ (is_history : IsHistory h) (free : NoStructureBelow h h.count) (placed : ℕ → Bool) where
    -- where no reader is left, only those that were to be in its snapshot have to stand before it
    next_from : (c t : ℕ) → IsFirstLeft h placed c → t < h.count → placed t ≡ false → h.snap t ≤ c → NoReaderLeft h placed t → IsNext h placed t
    next_from c t first within is_left low none = record {
      within = within;
      is_left = is_left;
      all_before = λ i li p. elim (or_cases (before h i t) (edge h i t) p) [
        | inl earlier ↦ (let x : i < h.snap t = ltb-true _ _ earlier in first.least i (omega arith))
        | inr read ↦ elim (cases_Bool (placed i)) [ inl there ↦ there | inr left ↦ absurd (both_ways _ (none i li left) read) ]
      ];
    }

    -- the first that is left, if no reader of it is
    pub first_next : (c : ℕ) → IsFirstLeft h placed c → NoReaderLeft h placed c → IsNext h placed c
    first_next c first none = next_from c c first first.within first.is_left (is_history.began c first.within) none

    -- else one that read what the first wrote, if no reader of this one is
    pub second_next : (c b : ℕ) → IsFirstLeft h placed c → IsReaderLeft h placed c b → NoReaderLeft h placed b → IsNext h placed b
    second_next c b first reader none = next_from c b first reader.within reader.is_left (rw_numbers h b c reader.reads).1 none

    -- else one that read what that one wrote
    pub third_next : (c b a : ℕ) → IsFirstLeft h placed c → IsReaderLeft h placed c b → IsReaderLeft h placed b a → IsNext h placed a
    third_next c b a first reader further =
        let not_earlier : (w : ℕ) → placed w ≡ false → c ≤ w = λ w left. elim (cases_lt w c) [ inl l ↦ absurd (both_ways _ left (first.least w l)) | inr ge ↦ ge ] in
        let ca : c ≤ a = not_earlier a further.is_left in
        let cb : c ≤ b = not_earlier b reader.is_left in
        let apart = (rw_numbers h b c reader.reads).2 in
        let less : c < b = elim (cases_eq b c) [ inl same ↦ absurd (apart same) | inr other ↦ omega arith ] in
        let structure : (h.has_written a ≡ true) ⊎ (c < h.snap a) → ⊥ = λ counts.
        free a b c further.within reader.within first.within (record { read_by_first = further.reads; read_by_pivot = reader.reads; last_before_pivot = less; last_before_first = ca; counts = counts }) in
        elim (cases_Bool (h.has_written a)) [
          | inl wrote ↦ absurd (structure (inl wrote))
          | inr nothing ↦ elim (cases_lt c (h.snap a)) [
            | inl early ↦ absurd (structure (inr early))
            | inr late ↦ next_from c a first further.within further.is_left late (λ i li left. elim (cases_Bool (edge h i a)) [
              | inl read ↦ absurd (both_ways _ nothing (is_history.was_written i a (rw_read h i a read)))
              | inr no' ↦ no'
            ])
          ]
        ]

    -- a reader that is left, or none
    reader_or_none : (t : ℕ) → ((i : ℕ) × IsReaderLeft h placed t i) ⊎ NoReaderLeft h placed t
    reader_or_none t = elim (search_below (λ (i : ℕ). not (placed i) && edge h i t) h.count) [
      | inl r ↦ (let p = and_parts (not (placed r.0)) (edge h r.0 t) r.2 in inl (r.0, record { within = r.1; is_left = not-true _ p.0; reads = p.1 }))
      | inr none ↦ inr (λ i li left. elim (and_cases (not (placed i)) (edge h i t) (none i li)) [
        | inl there ↦ absurd (both_ways _ left (not-false _ there))
        | inr unread ↦ unread
      ])
    ]

    -- while one is left there is a next
    pub next_exists : (s : ℕ) → s < h.count → placed s ≡ false → (t : ℕ) × IsNext h placed t
    next_exists s within is_left = elim (least_below (λ (i : ℕ). not (placed i)) h.count) [
      | inr all ↦ absurd (both_ways _ (all s within) (not_from_false _ is_left))
      | inl r ↦ of_first r.0 (record { within = r.1; is_left = not-true _ r.2; least = λ i l. not-false _ (r.3 i l) })
    ]
      where
        of_second : (c b : ℕ) → IsFirstLeft h placed c → IsReaderLeft h placed c b → (t : ℕ) × IsNext h placed t
        of_second c b first reader = elim (reader_or_none b) [
          | inl further ↦ (further.0, third_next c b further.0 first reader further.1)
          | inr none ↦ (b, second_next c b first reader none)
        ]

        of_first : (c : ℕ) → IsFirstLeft h placed c → (t : ℕ) × IsNext h placed t
        of_first c first = elim (reader_or_none c) [
          | inl reader ↦ of_second c reader.0 first reader.1
          | inr none ↦ (c, first_next c first none)
        ]

  module _ (is_history : IsHistory h) (free : NoStructureBelow h h.count) where
    -- what is left can be placed
    rest_exists : (fuel : ℕ) (placed : ℕ → Bool) → left_below placed h.count ≡ fuel
        → (order : List ℕ) × StandInTurn h placed order × ((i : ℕ) → i < h.count → placed_by placed order i ≡ true)
    rest_exists zero placed e = ([], tt, none_left placed h.count e)
    rest_exists (suc fuel) placed e =
        elim (search_below (λ (i : ℕ). not (placed i)) h.count) [
          | inr all ↦ ([], tt, λ i l. not-false _ (all i l))
          | inl s ↦
              (let t = next_exists is_history free placed s.0 s.1 (not-true _ s.2) in
              let falls = left_falls placed t.0 h.count t.1.within t.1.is_left in
              let rest = rest_exists fuel (with_placed placed t.0) (omega arith) in
              (t.0 ∷ rest.0, (t.1, rest.1), rest.2))
        ]

    -- so there is an order
    pub order_exists : (order : List ℕ) × IsOrder h order
    order_exists =
        let r = rest_exists (left_below none_placed h.count) none_placed refl in
        (r.0, record { in_turn = r.1; all = r.2 })

-- ---- the test of an order

module _ (h : History) where
  -- where the test is true
  next_from_test : (placed : ℕ → Bool) (t : ℕ) → is_next h placed t ≡ true → IsNext h placed t
  next_from_test placed t e =
      let a = and_parts (ltb t h.count) (not (placed t) && not (any_below (λ (i : ℕ). precedes h i t && not (placed i)) h.count)) e in
      let b = and_parts (not (placed t)) (not (any_below (λ (i : ℕ). precedes h i t && not (placed i)) h.count)) a.1 in
      record {
        within = ltb-true _ _ a.0;
        is_left = not-true _ b.0;
        all_before = λ i li p. elim (and_cases (precedes h i t) (not (placed i)) (any_below_none (λ (i : ℕ). precedes h i t && not (placed i)) h.count (not-true _ b.1) i li)) [
          | inl not_before ↦ absurd (both_ways _ not_before p)
          | inr there ↦ not-false _ there
        ];
      }

  -- and the other way round
  test_from_next : (placed : ℕ → Bool) (t : ℕ) → IsNext h placed t → is_next h placed t ≡ true
  test_from_next placed t next =
      let none : any_below (λ (i : ℕ). precedes h i t && not (placed i)) h.count ≡ false = false_from_ne_true _ (λ e.
      let a = any_below_some (λ (i : ℕ). precedes h i t && not (placed i)) h.count e in
      let b = and_parts (precedes h a.0 t) (not (placed a.0)) a.2 in
      both_ways _ (not-true _ b.1) (next.all_before a.0 a.1 b.0)) in
      and_from _ _ (lt-ltb _ _ next.within) (and_from _ _ (not_from_false _ next.is_left) (not_from_false _ none))

  -- of all in turn
  turns_from_test : (placed : ℕ → Bool) (ts : List ℕ) → stand_in_turn h placed ts ≡ true → StandInTurn h placed ts
  turns_from_test placed [] e = tt
  turns_from_test placed (t ∷ ts) e = let a = and_parts (is_next h placed t) (stand_in_turn h (with_placed placed t) ts) e in (next_from_test placed t a.0, turns_from_test (with_placed placed t) ts a.1)

  -- and back
  test_from_turns : (placed : ℕ → Bool) (ts : List ℕ) → StandInTurn h placed ts → stand_in_turn h placed ts ≡ true
  test_from_turns placed [] turns = refl
  test_from_turns placed (t ∷ ts) turns = and_from _ _ (test_from_next placed t turns.0) (test_from_turns (with_placed placed t) ts turns.1)

  -- of an order
  order_from_test : (order : List ℕ) → is_order h order ≡ true → IsOrder h order
  order_from_test order e =
      let a = and_parts (stand_in_turn h none_placed order) (not (any_below (λ (i : ℕ). not (placed_by none_placed order i)) h.count)) e in
      record {
        in_turn = turns_from_test none_placed order a.0;
        all = λ i l. not-false _ (any_below_none (λ (i : ℕ). not (placed_by none_placed order i)) h.count (not-true _ a.1) i l);
      }

  -- and back
  test_from_order : (order : List ℕ) → IsOrder h order → is_order h order ≡ true
  test_from_order order is =
      let none : any_below (λ (i : ℕ). not (placed_by none_placed order i)) h.count ≡ false = false_from_ne_true _ (λ e.
      let a = any_below_some (λ (i : ℕ). not (placed_by none_placed order i)) h.count e in
      both_ways _ (not-true _ a.2) (is.all a.0 a.1)) in
      and_from _ _ (test_from_turns none_placed order is.in_turn) (not_from_false _ none)

  -- the test is true exactly of orders
  pub order_exactly : (order : List ℕ) → (is_order h order ≡ true) ↔ IsOrder h order
  order_exactly order = (order_from_test order, test_from_order order)

  -- ---- what an order means

  -- what has to stand before another does
  places_kept : (placed : ℕ → Bool) (ts : List ℕ) → StandInTurn h placed ts → ((i : ℕ) → i < h.count → placed_by placed ts i ≡ true)
      → (i j : ℕ) → i < h.count → j < h.count → placed i ≡ false → placed j ≡ false → precedes h i j ≡ true → place_in ts i < place_in ts j
  places_kept placed [] turns all i j li lj ni nj p = absurd (both_ways _ ni (all i li))
  places_kept placed (t ∷ ts) turns all i j li lj ni nj p = elim (cases_eq j t) [
    | inl sj ↦ absurd (both_ways _ ni (turns.0.all_before i li (rw (← sj) p)))
    | inr oj ↦ elim (cases_eq i t) [
      | inl si ↦ rw (eq-eqb i t si) (rw (ne_eqb j t oj) (omega arith))
      | inr oi ↦
          (let rest = places_kept (with_placed placed t) ts turns.1 all i j li lj (rw (ne_eqb i t oi) ni) (rw (ne_eqb j t oj) nj) p in
          rw (ne_eqb i t oi) (rw (ne_eqb j t oj) (omega (arith, rest))))
    ]
  ]

  -- each that isn't placed before stands in it
  places_found : (placed : ℕ → Bool) (ts : List ℕ) → ((i : ℕ) → i < h.count → placed_by placed ts i ≡ true) → (i : ℕ) → i < h.count → placed i ≡ false → place_in ts i < length ts
  places_found placed [] all i li ni = absurd (both_ways _ ni (all i li))
  places_found placed (t ∷ ts) all i li ni = elim (cases_eq i t) [
    | inl same ↦ rw (eq-eqb i t same) (omega arith)
    | inr other ↦ (let rest = places_found (with_placed placed t) ts all i li (rw (ne_eqb i t other) ni) in rw (ne_eqb i t other) (omega (arith, rest)))
  ]

  -- at each place stands one whose place it is
  places_own : (placed : ℕ → Bool) (ts : List ℕ) → StandInTurn h placed ts → (k : ℕ) → k < length ts → (get_or ts k 0 < h.count) × (placed (get_or ts k 0) ≡ false) × (place_in ts (get_or ts k 0) ≡ k)
  places_own placed [] turns k l = absurd (omega arith)
  places_own placed (t ∷ ts) turns zero l = (turns.0.within, turns.0.is_left, rw (eq-eqb t t refl) refl)
  places_own placed (t ∷ ts) turns (suc k) l =
      let rest = places_own (with_placed placed t) ts turns.1 k (omega arith) in
      let apart = or_parts (get_or ts k 0 == t) (placed (get_or ts k 0)) rest.1 in
      (rest.0, apart.1, rw (apart.0) (ap suc rest.2))

  -- the rest of an order, told by places
  record Places (placed : ℕ → Bool) (ts : List ℕ) : Type 0 where
    stands : (i : ℕ) → i < h.count → placed i ≡ false → place_in ts i < length ts
    once : (k : ℕ) → k < length ts → (get_or ts k 0 < h.count) × (placed (get_or ts k 0) ≡ false) × (place_in ts (get_or ts k 0) ≡ k)
    kept : (i j : ℕ) → i < h.count → j < h.count → placed i ≡ false → placed j ≡ false → precedes h i j ≡ true → place_in ts i < place_in ts j

  -- without its first it is one again
  places_rest : (placed : ℕ → Bool) (t : ℕ) (ts : List ℕ) → Places placed (t ∷ ts) → Places (with_placed placed t) ts
  places_rest placed t ts places = record {
    stands = λ i li ni.
        let apart = or_parts (i == t) (placed i) ni in
        let l : suc (place_in ts i) < suc (length ts) = rw (apart.0) at (places.stands i li apart.1) in
        omega (arith, l);
    once = λ k l.
        let r = places.once (suc k) (omega arith) in
        let other : (get_or ts k 0 == t) ≡ false = false_from_ne_true _ (λ e. let z : 0 ≡ suc k = rw e at (r.2) in absurd (omega (arith, z))) in
        let same : suc (place_in ts (get_or ts k 0)) ≡ suc k = rw other at (r.2) in
        (r.0, or_from (get_or ts k 0 == t) (placed (get_or ts k 0)) other r.1, omega (arith, same));
    kept = λ i j li lj ni nj p.
        let a = or_parts (i == t) (placed i) ni in
        let b = or_parts (j == t) (placed j) nj in
        let l : suc (place_in ts i) < suc (place_in ts j) = rw (a.0) at (rw (b.0) at (places.kept i j li lj a.1 b.1 p)) in
        omega (arith, l);
  }

  -- each stands in its turn, and all are placed
  turns_from_places : (placed : ℕ → Bool) (ts : List ℕ) → Places placed ts → StandInTurn h placed ts × ((i : ℕ) → i < h.count → placed_by placed ts i ≡ true)
  turns_from_places placed [] places = (tt, λ i li. true_from_ne_false _ (λ ni. let l = places.stands i li ni in absurd (omega (arith, l))))
  turns_from_places placed (t ∷ ts) places =
      let first = places.once zero (omega arith) in
      let rest = turns_from_places (with_placed placed t) ts (places_rest placed t ts places) in (
        (
          record {
            within = first.0;
            is_left = first.1;
            all_before = λ i li p. true_from_ne_false _ (λ ni.
                let l : place_in (t ∷ ts) i < 0 = rw (eq-eqb t t refl) at (places.kept i t li first.0 ni first.1 p) in
                absurd (omega (arith, l)));
          },
          rest.0,
        ),
        rest.1,
      )

  order_from_places : (order : List ℕ) → IsInOrder h order → IsOrder h order
  order_from_places order is =
      let r = turns_from_places none_placed order (record {
        stands = λ i li ni. is.stands i li;
        once = λ k l. ((is.once k l).0, refl, (is.once k l).1);
        kept = λ i j li lj ni nj p. is.kept i j li lj p;
      }) in
      record { in_turn = r.0; all = r.1 }

  places_from_order : (order : List ℕ) → IsOrder h order → IsInOrder h order
  places_from_order order is = record {
    stands = λ i li. places_found none_placed order is.all i li refl;
    once = λ k l. let r = places_own none_placed order is.in_turn k l in (r.0, r.2);
    kept = λ i j li lj p. places_kept none_placed order is.in_turn is.all i j li lj refl refl p;
  }

  -- so that is what an order is
  pub order_means : (order : List ℕ) → IsOrder h order ↔ IsInOrder h order
  order_means order = (places_from_order order, order_from_places order)
