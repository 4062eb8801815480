-- Run alone along an order that keeps `before` and `rw`, each transaction finds on what it noted what its snapshot had.
use Rattle.std.proofs.Common.{◌≡◌, ℕ, zero, suc, ◌<◌, ◌≤◌, ◌==◌, Bool, true, false, None, List, [], ◌∷◌, length, refl, sym, ◌∙◌, arith, inl, inr, ◌⊎◌, eqb-true, lt-ltb, le-ltb, eq-eqb}
use Rattle.std.proofs.lemmas.Bool.{cases_Bool, or_cases, or_left, or_right, cases_order, cases_eq, cases_lt, and_from, both_ways, false_from_ne_true}
use Rattle.rls_history.specs.History.{History, before, concurrent}
use Rattle.rls_history.specs.Orders.{precedes, with_placed, none_placed, StandInTurn, placed_by, IsOrder}
use Rattle.rls_history.specs.States.{States, IsAmong, put_all, touches, Fits, meet, shown, Agree}
use Rattle.rls_history.specs.Transactions.{Transaction, nth, history_of, state_after}
use Rattle.rls_history.specs.Lawful.{PutsAre}
use Rattle.rls_history.proofs.HistoryLemmas.{concurrent_from}
use Rattle.rls_history.proofs.StateLemmas.{put_all_stays, put_elsewhere, put_here, fits_same, uncovered, uncovered_since_unmet}

module _ (s : States) {InOrder : s.State → Type 0} (puts : PutsAre s InOrder) (opening : s.State) (opens : InOrder opening) where
  -- each committed state is in order
  pub state_in_order : (ts : List (Transaction s)) (n : ℕ) → InOrder (state_after s opening ts n)
  state_in_order ts zero = opens
  state_in_order ts (suc n) = put_all_stays s puts (nth s ts n).changes (state_after s opening ts n) (state_in_order ts n)

  -- a place that no commit between changes is as it was
  pub same_between : (ts : List (Transaction s)) (place : s.Place) (lo hi : ℕ) → lo ≤ hi → ((w : ℕ) → lo ≤ w → w < hi → touches s (nth s ts w).changes place ≡ false)
      → s.look (state_after s opening ts hi) place ≡ s.look (state_after s opening ts lo) place
  same_between ts place lo zero le none = let z : lo ≡ 0 = omega arith in rw z refl
  same_between ts place lo (suc hi) le none =
      elim (cases_eq lo (suc hi)) [
        | inl same ↦ rw same refl
        | inr less ↦
            (let t = none hi (omega arith) (omega arith) in
            let rest = same_between ts place lo hi (omega arith) (λ w l u. none w l (omega arith)) in
            put_elsewhere s puts (nth s ts hi).changes (state_after s opening ts hi) (state_in_order ts hi) place t ∙ rest)
      ]

  -- and what an object shows there is as it was where it shows nothing before or after any change between
  same_shown : (ts : List (Transaction s)) (o : s.Object) (place : s.Place) (lo hi : ℕ) → lo ≤ hi
      → ((w : ℕ) → lo ≤ w → w < hi → touches s (nth s ts w).changes place ≡ true
      → (s.shows o place (s.look (state_after s opening ts w) place) ≡ false) × (s.shows o place (s.look (state_after s opening ts (suc w)) place) ≡ false))
      → shown s o (state_after s opening ts hi) place ≡ shown s o (state_after s opening ts lo) place
  same_shown ts o place lo zero le quiet = let z : lo ≡ 0 = omega arith in rw z refl
  same_shown ts o place lo (suc hi) le quiet =
      elim (cases_eq lo (suc hi)) [
        | inl same ↦ rw same refl
        | inr less ↦
            (let rest = same_shown ts o place lo hi (omega arith) (λ w l u t. quiet w l (omega arith) t) in
            elim (cases_Bool (touches s (nth s ts hi).changes place)) [
              | inl t ↦
                  (let q = quiet hi (omega arith) (omega arith) t in
                  let one : shown s o (state_after s opening ts hi) place ≡ None = rw (q.0) refl in
                  let two : shown s o (state_after s opening ts (suc hi)) place ≡ None = rw (q.1) refl in
                  two ∙ (sym one ∙ rest))
              | inr f ↦ rw (put_elsewhere s puts (nth s ts hi).changes (state_after s opening ts hi) (state_in_order ts hi) place f) rest
            ])
      ]

  -- what is asked of the committed ones: each began before it committed, its changes fit its snapshot, and concurrent ones
  -- change no common place
  pub record AreKept (ts : List (Transaction s)) : Type 0 where
    pub began : (i : ℕ) → i < length ts → (nth s ts i).snap ≤ i
    pub fits : (i : ℕ) → i < length ts → Fits s (nth s ts i).changes (state_after s opening ts (nth s ts i).snap)
    pub no_common : (i j : ℕ) (place : s.Place) → i < length ts → j < length ts → concurrent (history_of s ts) i j ≡ true
        → touches s (nth s ts i).changes place ≡ true → touches s (nth s ts j).changes place ≡ true → ⊥

  -- Along the order each finds on what it noted what its snapshot had, and the end is the committed state.
  abbrev pub RunsThrough : List (Transaction s) → List ℕ → s.State → Type 0
  RunsThrough ts [] state = (place : s.Place) → s.look state place ≡ s.look (state_after s opening ts (length ts)) place
  RunsThrough ts (t ∷ order) state =
      ((o : s.Object) → IsAmong o (nth s ts t).noted → Agree s o state (state_after s opening ts (nth s ts t).snap)) × RunsThrough ts order (put_all s (nth s ts t).changes state)

  module _ (ts : List (Transaction s)) (kept : AreKept ts) where
    -- their history
    abbrev h : History
    h = history_of s ts

    -- of two that change a place the earlier committed before the later began
    writers_apart : (i j : ℕ) (place : s.Place) → i < j → j < length ts → touches s (nth s ts i).changes place ≡ true → touches s (nth s ts j).changes place ≡ true → before h i j ≡ true
    writers_apart i j place l lj ti tj =
        elim (cases_Bool (before h i j)) [
          | inl yes' ↦ yes'
          | inr no' ↦
              (let began = kept.began i (omega arith) in
              absurd (kept.no_common i j place (omega arith) lj (concurrent_from h i j (λ e. omega arith) no' (le-ltb _ _ (omega arith))) ti tj))
        ]

    -- a change that meets nothing that was noted is shown by none of it, before or after
    unread : (i j : ℕ) (o : s.Object) (place : s.Place) → j < length ts → meet s (nth s ts i).noted (nth s ts j).changes ≡ false → IsAmong o (nth s ts i).noted
        → touches s (nth s ts j).changes place ≡ true
        → (s.shows o place (s.look (state_after s opening ts j) place) ≡ false) × (s.shows o place (s.look (state_after s opening ts (suc j)) place) ≡ false)
    unread i j o place lj none noted t =
        let cs = (nth s ts j).changes in
        let snap = (nth s ts j).snap in
        let began = kept.began j lj in
        let same : (p : s.Place) → touches s cs p ≡ true → s.look (state_after s opening ts snap) p ≡ s.look (state_after s opening ts j) p = λ p tp.
        sym (same_between ts p snap j began (λ w l u. elim (cases_Bool (touches s (nth s ts w).changes p)) [
          | inr f ↦ f
          | inl tw ↦
              (let lw : w < length ts = omega arith in
              let bw = kept.began w lw in
              absurd (kept.no_common w j p lw lj (concurrent_from h w j (λ e. omega arith) (le-ltb _ _ l) (le-ltb _ _ (omega arith))) tw tp))
        ])) in
        let fits = fits_same s puts cs (state_after s opening ts snap) (state_after s opening ts j) (state_in_order ts snap) (state_in_order ts j) same (kept.fits j lj) in
        uncovered s puts o cs (state_after s opening ts j) (state_in_order ts j) place (uncovered_since_unmet s o (nth s ts i).noted cs noted none) fits t

    -- where the placed ones have led at a place: to the state after some commits, below which those that change the place are
    -- just those that are placed
    abbrev Where : (ℕ → Bool) → s.State → s.Place → Type 0
    Where placed state place = (n : ℕ) × (n ≤ length ts) × (s.look state place ≡ s.look (state_after s opening ts n) place)
        × ((w : ℕ) → w < length ts → touches s (nth s ts w).changes place ≡ true → placed w ≡ true → w < n)
        × ((w : ℕ) → w < length ts → touches s (nth s ts w).changes place ≡ true → w < n → placed w ≡ true)

    -- with each that is placed, all that have to stand before it are
    abbrev IsClosed : (ℕ → Bool) → Type 0
    IsClosed placed = (i w : ℕ) → i < length ts → w < length ts → placed w ≡ true → precedes h i w ≡ true → placed i ≡ true

    -- so at its turn each finds what its snapshot had
    agrees : (placed : ℕ → Bool) (state : s.State) → IsClosed placed → ((place : s.Place) → Where placed state place)
        → (t : ℕ) → t < length ts → placed t ≡ false → ((i : ℕ) → i < length ts → precedes h i t ≡ true → placed i ≡ true)
        → (o : s.Object) → IsAmong o (nth s ts t).noted → Agree s o state (state_after s opening ts (nth s ts t).snap)
    agrees placed state closed at_places t lt is_left all o noted place =
        let here = at_places place in
        let n = here.0 in
        let snap = (nth s ts t).snap in
        let began = kept.began t lt in
        let seen : shown s o state place ≡ shown s o (state_after s opening ts n) place = rw (here.2) refl in
        elim (cases_lt snap n) [
          | inr old ↦
              (let quiet : (w : ℕ) → n ≤ w → w < snap → touches s (nth s ts w).changes place ≡ false = λ w l u. false_from_ne_true _ (λ touched.
              let there : placed w ≡ true = all w (omega arith) (or_left _ _ (lt-ltb _ _ u)) in
              let below : w < n = here.3 w (omega arith) touched there in
              omega arith) in
              let same : s.look (state_after s opening ts snap) place ≡ s.look (state_after s opening ts n) place = same_between ts place n snap old quiet in
              rw (here.2) (rw same refl))
          | inl new ↦
              seen ∙ same_shown ts o place snap n (omega arith) (λ w l u touched.
              let lw : w < length ts = omega arith in
              let there : placed w ≡ true = here.4 w lw touched u in
              let free : precedes h t w ≡ true → ⊥ = λ p. both_ways _ is_left (closed t w lt lw there p) in
              let apart : t ≡ w → ⊥ = λ e. both_ways _ is_left (rw e there) in
              let a : before h t w ≡ false = false_from_ne_true _ (λ x. free (or_left _ _ x)) in
              let c : concurrent h t w ≡ true = concurrent_from h t w apart a (le-ltb _ _ l) in
              let r : h.has_read t w ≡ false = false_from_ne_true _ (λ x. free (or_right (before h t w) _ (and_from _ _ c x))) in
              unread t w o place lw r noted touched)
        ]

    -- it is the new one, or was placed
    placed_cases : (placed : ℕ → Bool) (t w : ℕ) → with_placed placed t w ≡ true → (w ≡ t) ⊎ (placed w ≡ true)
    placed_cases placed t w e = elim (or_cases (w == t) (placed w) e) [ inl a ↦ inl (eqb-true _ _ a) | inr b ↦ inr b ]

    -- one more is placed
    closed_step : (placed : ℕ → Bool) (t : ℕ) → IsClosed placed → ((i : ℕ) → i < length ts → precedes h i t ≡ true → placed i ≡ true) → IsClosed (with_placed placed t)
    closed_step placed t closed all i w li lw there p =
        elim (placed_cases placed t w there) [
          | inl same ↦ or_right (i == t) _ (all i li (rw (← same) p))
          | inr old ↦ or_right (i == t) _ (closed i w li lw old p)
        ]

    where_step : (placed : ℕ → Bool) (state : s.State) → InOrder state → IsClosed placed → ((place : s.Place) → Where placed state place)
        → (t : ℕ) → t < length ts → placed t ≡ false → ((i : ℕ) → i < length ts → precedes h i t ≡ true → placed i ≡ true)
        → (place : s.Place) → Where (with_placed placed t) (put_all s (nth s ts t).changes state) place
    where_step placed state in_order closed at_places t lt is_left all place =
        let here = at_places place in
        let cs = (nth s ts t).changes in
        elim (cases_Bool (touches s cs place)) [
          | inl writes ↦ (
            suc t,
            omega arith,
            put_here s puts cs state (state_after s opening ts t) in_order (state_in_order ts t) place writes,
            (λ w lw touched there. elim (placed_cases placed t w there) [
              | inl same ↦ omega arith
              | inr old ↦ elim (cases_order w t) [
                | inl same ↦ omega arith
                | inr rest ↦ elim rest [
                  | inl less ↦ omega arith
                  | inr more ↦ absurd (both_ways _ is_left (closed t w lt lw old (or_left _ _ (writers_apart t w place more lw writes touched))))
                ]
              ]
            ]),
            (λ w lw touched below. elim (cases_eq w t) [
              | inl same ↦ or_left _ _ (eq-eqb _ _ same)
              | inr other ↦ or_right (w == t) _ (all w lw (or_left _ _ (writers_apart w t place (omega arith) lt touched writes)))
            ]),
          )
          | inr quiet ↦ (
            here.0,
            here.1,
            put_elsewhere s puts cs state in_order place quiet ∙ here.2,
            (λ w lw touched there. elim (placed_cases placed t w there) [
              | inl same ↦ absurd (both_ways _ quiet (rw (← same) touched))
              | inr old ↦ here.3 w lw touched old
            ]),
            (λ w lw touched below. or_right (w == t) _ (here.4 w lw touched below)),
          )
        ]

    -- along the rest of an order
    along : (order : List ℕ) (placed : ℕ → Bool) (state : s.State) → InOrder state → IsClosed placed → ((place : s.Place) → Where placed state place)
        → StandInTurn h placed order → ((i : ℕ) → i < length ts → placed_by placed order i ≡ true) → RunsThrough ts order state
    along [] placed state in_order closed at_places turns all = λ place.
        let here = at_places place in
        let quiet : (w : ℕ) → here.0 ≤ w → w < length ts → touches s (nth s ts w).changes place ≡ false = λ w l u. false_from_ne_true _ (λ touched.
        let below : w < here.0 = here.3 w u touched (all w u) in omega arith) in
        here.2 ∙ sym (same_between ts place (here.0) (length ts) (here.1) quiet)
    along (t ∷ order) placed state in_order closed at_places turns all = (
      agrees placed state closed at_places t turns.0.within turns.0.is_left turns.0.all_before,
      along order (with_placed placed t) (put_all s (nth s ts t).changes state) (put_all_stays s puts (nth s ts t).changes state in_order) (closed_step placed t closed turns.0.all_before)
          (where_step placed state in_order closed at_places t turns.0.within turns.0.is_left turns.0.all_before) turns.1 all,
    )

    -- from the opening state, along the whole of it
    pub runs_through : (order : List ℕ) → IsOrder h order → RunsThrough ts order opening
    runs_through order is = along order none_placed opening opens (λ i w li lw there p. absurd cc)
        (λ place. (0, omega arith, refl, (λ w lw touched there. absurd cc), (λ w lw touched below. absurd (omega arith)))) is.in_turn is.all
