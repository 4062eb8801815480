-- Sets of places, one for each place: which numbers stand in which of them once they are turned, and what that says of transactions.
use Rattle.std.proofs.Common.{◌≡◌, refl, ℕ, zero, suc, ◌+◌, ◌-◌, ◌<◌, ◌≤◌, ◌==◌, ltb, max, Bool, true, false, not, ◌&&◌, ◌||◌, cond, List, [], ◌∷◌, ◌++◌, map, length, get_or, set, replicate, sym, ap, ◌∙◌, subst, arith, inl, inr, ◌⊎◌, append_assoc, append-nil}
use Rattle.std.specs.List.{All, filter, flat_map, range_with_len}
use Rattle.std.proofs.lemmas.Bool.{and_parts, and_from, and_left, and_right, cases_Bool, cases_eq, cases_lt, eqb-true, eqb-false, eq-eqb, ne_eqb, false_from_ne_true, le-ltb, lt-ltb, ltb-false, ltb-true, not-true, not_from_false, or_cases, or_left, or_right, or_parts, cases_order}
use Rattle.std.proofs.lemmas.List.{get_or-map, get_or-replicate, get_or-set_other, get_or-set_same, length-set, length-replicate}
use Rattle.std.proofs.Math.Nat.{le-max_left, le-max_right, max-le}
use Rattle.rls_history.specs.History.{History, any_below, before, concurrent}
use Rattle.rls_check.specs.GraphEdges.{is_right_before}
use Rattle.rls_check.specs.GraphSteps.{before_sets, greatest_from, later_sets, near_sets, numbers_between, open_sets, sets_from, turned_of, turned_on, with_each, with_number}

-- ---- which numbers stand in which set

-- the number, as often as the place is among the places
abbrev pub times : ℕ → List ℕ → ℕ → List ℕ
times place [] number = []
times place (one ∷ places) number = cond (one == place) (number ∷ []) [] ++ times place places number

number_if : (b : Bool) (sets : List (List ℕ)) (one place number : ℕ) → (one == place) ≡ b → place < length sets → get_or (with_number sets one number) place [] ≡ get_or sets place [] ++ cond b (number ∷ []) []
number_if true sets one place number is within =
    ap (λ at. get_or (set sets at (get_or sets at [] ++ number ∷ [])) place []) (eqb-true one place is) ∙ get_or-set_same sets place (get_or sets place [] ++ number ∷ []) [] within
number_if false sets one place number is within =
    get_or-set_other sets one place (get_or sets one [] ++ number ∷ []) [] (λ same. eqb-false one place is (sym same)) ∙ sym (append-nil (get_or sets place []))

number_at : (sets : List (List ℕ)) (one place number : ℕ) → place < length sets → get_or (with_number sets one number) place [] ≡ get_or sets place [] ++ cond (one == place) (number ∷ []) []
number_at sets one place number within = number_if (one == place) sets one place number refl within

each_length : (sets : List (List ℕ)) (places : List ℕ) (number : ℕ) → length (with_each sets places number) ≡ length sets
each_length sets [] number = refl
each_length sets (one ∷ places) number = each_length (with_number sets one number) places number ∙ length-set sets one (get_or sets one [] ++ number ∷ [])

each_at : (sets : List (List ℕ)) (places : List ℕ) (place number : ℕ) → place < length sets → get_or (with_each sets places number) place [] ≡ get_or sets place [] ++ times place places number
each_at sets [] place number within = sym (append-nil (get_or sets place []))
each_at sets (one ∷ places) place number within =
    each_at (with_number sets one number) places place number (subst (λ n. place < n) (sym (length-set sets one (get_or sets one [] ++ number ∷ []))) within)
    ∙ ap (λ before. before ++ times place places number) (number_at sets one place number within)
    ∙ append_assoc (get_or sets place []) (cond (one == place) (number ∷ []) []) (times place places number)

-- of the numbers, in their order, those whose sets have the place
abbrev pub turned_to : List (List ℕ) → ℕ → List ℕ → List ℕ
turned_to sets place numbers = flat_map (λ number. times place (get_or sets number []) number) numbers

turned_on_at : (turned sets : List (List ℕ)) (numbers : List ℕ) (place : ℕ) → place < length turned → get_or (turned_on turned sets numbers) place [] ≡ get_or turned place [] ++ turned_to sets place numbers
turned_on_at turned sets [] place within = sym (append-nil (get_or turned place []))
turned_on_at turned sets (number ∷ numbers) place within =
    turned_on_at (with_each turned (get_or sets number []) number) sets numbers place (subst (λ n. place < n) (sym (each_length turned (get_or sets number []) number)) within)
    ∙ ap (λ before. before ++ turned_to sets place numbers) (each_at turned (get_or sets number []) place number within)
    ∙ append_assoc (get_or turned place []) (times place (get_or sets number []) number) (turned_to sets place numbers)

pub turned_at : (count : ℕ) (sets : List (List ℕ)) (numbers : List ℕ) (place : ℕ) → place < count → get_or (turned_of count sets numbers) place [] ≡ turned_to sets place numbers
turned_at count sets numbers place within =
    turned_on_at (replicate count []) sets numbers place (subst (λ n. place < n) (sym (length-replicate count [])) within) ∙ ap (λ before. before ++ turned_to sets place numbers) (get_or-replicate count place [] [] within)

-- ---- the numbers between two

skipped : (place from count number : ℕ) → (from ≡ place → ⊥) → times place (range_with_len from (suc count)) number ≡ times place (range_with_len (from + 1) count) number
skipped place from count number other = ap (λ b. cond b (number ∷ []) [] ++ times place (range_with_len (from + 1) count) number) (ne_eqb from place other)

times_below : (place from count number : ℕ) → place < from → times place (range_with_len from count) number ≡ []
times_below place from zero number below = refl
times_below place from (suc count) number below = skipped place from count number (λ same. omega (arith, same, below)) ∙ times_below place (from + 1) count number (omega (arith, below))

times_above : (place from count number : ℕ) → from + count ≤ place → times place (range_with_len from count) number ≡ []
times_above place from zero number above = refl
times_above place from (suc count) number above = skipped place from count number (λ same. omega (arith, same, above)) ∙ times_above place (from + 1) count number (omega (arith, above))

times_in : (place from count number : ℕ) → from ≤ place → place < from + count → times place (range_with_len from count) number ≡ number ∷ []
times_in place from zero number least most = absurd (omega (arith, least, most))
times_in place from (suc count) number least most = elim (cases_eq from place) [
  | inl same ↦ ap (λ b. cond b (number ∷ []) [] ++ times place (range_with_len (from + 1) count) number) (eq-eqb from place same) ∙ ap (λ rest. number ∷ rest) (times_below place (from + 1) count number (omega (arith, same)))
  | inr other ↦ skipped place from count number other ∙ times_in place (from + 1) count number (omega (arith, least, other)) (omega (arith, most))
]

-- whether the number is from the one on, and below the other
abbrev pub is_between : ℕ → ℕ → ℕ → Bool
is_between from to place = not (ltb place from) && ltb place to

pub times_between : (from to place number : ℕ) → times place (numbers_between from to) number ≡ cond (is_between from to place) (number ∷ []) []
times_between from to place number = elim (cases_lt place from) [
  | inl below ↦ times_below place from (to - from) number below ∙ sym (ap (λ b. cond (not b && ltb place to) (number ∷ []) []) (lt-ltb place from below))
  | inr least ↦
      elim (cases_lt place to) [
        | inl most ↦
            times_in place from (to - from) number least (omega (arith, least, most))
            ∙ sym (ap (λ b. cond (not b && ltb place to) (number ∷ []) []) (le-ltb place from least) ∙ ap (λ b. cond b (number ∷ []) []) (lt-ltb place to most))
        | inr above ↦
            times_above place from (to - from) number (omega (arith, least, above))
            ∙ sym (ap (λ b. cond (not b && ltb place to) (number ∷ []) []) (le-ltb place from least) ∙ ap (λ b. cond b (number ∷ []) []) (le-ltb place to above))
      ]
]

-- where one more is put, those that are left still make the whole
fewer_between : (number to : ℕ) → number < to → to - number ≡ suc (to - (number + 1))
fewer_between number to less = omega (arith, less)

pub between_on : (number to : ℕ) (old new whole : List ℕ) → number < to → new ≡ old ++ number ∷ [] → old ++ range_with_len number (to - number) ≡ whole → new ++ range_with_len (number + 1) (to - (number + 1)) ≡ whole
between_on number to old new whole less grew so_far =
    ap (λ numbers. numbers ++ range_with_len (number + 1) (to - (number + 1))) grew
    ∙ append_assoc old (number ∷ []) (range_with_len (number + 1) (to - (number + 1)))
    ∙ ap (λ count. old ++ range_with_len number count) (sym (fewer_between number to less)) ∙ so_far

pub between_all : (number to : ℕ) (numbers whole : List ℕ) → to ≤ number → numbers ++ range_with_len number (to - number) ≡ whole → numbers ≡ whole
between_all number to numbers whole over so_far =
    let none : to - number ≡ 0 = omega (arith, over) in
    sym (append-nil numbers) ∙ ap (λ count. numbers ++ range_with_len number count) (sym none) ∙ so_far

-- ---- what a filter keeps

times_append : (place : ℕ) (places more : List ℕ) (number : ℕ) → times place (places ++ more) number ≡ times place places number ++ times place more number
times_append place [] more number = refl
times_append place (one ∷ places) more number =
    ap (λ rest. cond (one == place) (number ∷ []) [] ++ rest) (times_append place places more number) ∙ sym (append_assoc (cond (one == place) (number ∷ []) []) (times place places number) (times place more number))

none_if : (b : Bool) → ◌≡◌ {A = List ℕ} [] (cond b [] [])
none_if true = refl
none_if false = refl

-- where the first is kept or not, and is the place or not
filter_if : (kept is other : Bool) (number : ℕ) (rest all : List ℕ) (place one : ℕ) (places : List ℕ) → (is ≡ true → kept ≡ other) → times place all number ≡ cond other rest []
    → (one == place) ≡ is → times place (cond kept (one ∷ all) all) number ≡ cond other (cond is (number ∷ []) [] ++ rest) []
filter_if true true other number rest all place one places same so is =
    ap (λ b. cond b (number ∷ []) [] ++ times place all number) is ∙ ap (λ them. number ∷ them) (so ∙ ap (λ b. cond b rest []) (sym (same refl))) ∙ ap (λ b. cond b (number ∷ rest) []) (same refl)
filter_if true false other number rest all place one places same so is = ap (λ b. cond b (number ∷ []) [] ++ times place all number) is ∙ so
filter_if false true other number rest all place one places same so is =
    so ∙ ap (λ b. cond b rest []) (sym (same refl)) ∙ ap (λ b. cond b (number ∷ rest) []) (same refl)
filter_if false false other number rest all place one places same so is = so

times_filter : (test : ℕ → Bool) (place : ℕ) (places : List ℕ) (number : ℕ) → times place (filter test places) number ≡ cond (test place) (times place places number) []
times_filter test place [] number = none_if (test place)
times_filter test place (one ∷ places) number =
    filter_if (test one) (one == place) (test place) number (times place places number) (filter test places) place one places (λ same. ap test (eqb-true one place same)) (times_filter test place places number) refl

-- each of them is so
abbrev pub Each : (ℕ → Type 0) → List ℕ → Type 0
Each P [] = Unit {0}
Each P (number ∷ numbers) = P number × Each P numbers

pub each_of : (P : ℕ → Type 0) (numbers : List ℕ) → All P numbers → Each P numbers
each_of P [] all = tt
each_of P (number ∷ numbers) all = (all 0 0 (omega arith), each_of P numbers (λ k d l. all (suc k) d (omega (arith, l))))

each_between : (from count limit : ℕ) → from + count ≤ limit → Each (λ place. place < limit) (range_with_len from count)
each_between from zero limit fits = tt
each_between from (suc count) limit fits = (omega (arith, fits), each_between (from + 1) count limit (omega (arith, fits)))

kept_if : (b : Bool) (number : ℕ) (rest : List ℕ) → cond b (number ∷ []) [] ++ rest ≡ cond b (number ∷ rest) rest
kept_if true number rest = refl
kept_if false number rest = refl

-- where each gives itself or nothing, by a test, a filter is left
pub flat_filter : (f : ℕ → List ℕ) (test : ℕ → Bool) (P : ℕ → Type 0) (numbers : List ℕ) → ((number : ℕ) → P number → f number ≡ cond (test number) (number ∷ []) []) → Each P numbers → flat_map f numbers ≡ filter test numbers
flat_filter f test P [] is each = refl
flat_filter f test P (number ∷ numbers) is each =
    (λ k. is number each.0 k ++ flat_filter f test P numbers is each.1 k) ∙ kept_if (test number) number (filter test numbers)

-- ---- searches among numbers

any_some : (test : ℕ → Bool) (n : ℕ) → any_below test n ≡ true → (i : ℕ) × (i < n) × (test i ≡ true)
any_some test zero is = absurd cc
any_some test (suc n) is = elim (or_cases (test n) (any_below test n) is) [
  | inl here ↦ (n, omega arith, here)
  | inr below ↦ (let found = any_some test n below in (found.0, omega (arith, found.1), found.2))
]

any_from : (test : ℕ → Bool) (n i : ℕ) → i < n → test i ≡ true → any_below test n ≡ true
any_from test zero i within is = absurd (omega (arith, within))
any_from test (suc n) i within is = elim (cases_eq i n) [
  | inl same ↦ or_left (test n) (any_below test n) (subst (λ k. test k ≡ true) same is)
  | inr other ↦ or_right (test n) (any_below test n) (any_from test n i (omega (arith, within, other)) is)
]

bool_same : (a b : Bool) → (a ≡ true → b ≡ true) → (b ≡ true → a ≡ true) → a ≡ b
bool_same true b one other = sym (one refl)
bool_same false true one other = other refl
bool_same false false one other = refl

-- ---- the greatest snapshot in front of a place

greatest_least : (most : ℕ) (snaps : List ℕ) (k : ℕ) → k ≤ length snaps → most ≤ get_or (greatest_from most snaps) k 0
greatest_least most [] zero within = omega arith
greatest_least most [] (suc k) within = absurd (omega (arith, within))
greatest_least most (snap ∷ snaps) zero within = omega arith
greatest_least most (snap ∷ snaps) (suc k) within = (let rest = greatest_least (max most snap) snaps k (omega (arith, within)) in let over = le-max_left most snap in omega (arith, rest, over))

greatest_each : (most : ℕ) (snaps : List ℕ) (k third : ℕ) → k ≤ length snaps → third < k → get_or snaps third 0 ≤ get_or (greatest_from most snaps) k 0
greatest_each most [] k third within before = absurd (omega (arith, within, before))
greatest_each most (snap ∷ snaps) zero third within before = absurd (omega (arith, before))
greatest_each most (snap ∷ snaps) (suc k) zero within before = (let rest = greatest_least (max most snap) snaps k (omega (arith, within)) in let over = le-max_right most snap in omega (arith, rest, over))
greatest_each most (snap ∷ snaps) (suc k) (suc third) within before = greatest_each (max most snap) snaps k third (omega (arith, within)) (omega (arith, before))

lt_max_other : (one most snap : ℕ) → one < max most snap → most ≤ one → one < snap
lt_max_other one most snap below over = elim (cases_lt one snap) [
  | inl first ↦ first
  | inr other ↦ (let both = max-le over other in absurd (omega (arith, below, both)))
]

greatest_some : (most : ℕ) (snaps : List ℕ) (k one : ℕ) → k ≤ length snaps → one < get_or (greatest_from most snaps) k 0 → (one < most) ⊎ ((third : ℕ) × (third < k) × (one < get_or snaps third 0))
greatest_some most [] zero one within below = inl below
greatest_some most [] (suc k) one within below = absurd (omega (arith, within))
greatest_some most (snap ∷ snaps) zero one within below = inl below
greatest_some most (snap ∷ snaps) (suc k) one within below = elim (greatest_some (max most snap) snaps k one (omega (arith, within)) below) [
  | inl under ↦ elim (cases_lt one most) [
    | inl first ↦ inl first
    | inr over ↦ inr (0, omega arith, lt_max_other one most snap under over)
  ]
  | inr found ↦ inr (suc found.0, omega (arith, found.1), found.2)
]

-- ---- who stands right before whom

and_turned : (a b : Bool) → (a && b) ≡ (b && a)
and_turned true true = refl
and_turned true false = refl
and_turned false true = refl
and_turned false false = refl

module _ (h : History) (snaps : List ℕ) (counted : length snaps ≡ h.count) (snap_is : (i : ℕ) → i < h.count → get_or snaps i 0 ≡ h.snap i) (began : (i : ℕ) → i < h.count → h.snap i ≤ i) where
  third_same : (one other : ℕ) → other < h.count → ltb one (get_or (greatest_from 0 snaps) (h.snap other) 0) ≡ any_below (λ third. before h one third && before h third other) h.count
  third_same one other within =
      let fits : h.snap other ≤ length snaps = (let first = began other within in omega (arith, first, within, counted)) in
      bool_same (ltb one (get_or (greatest_from 0 snaps) (h.snap other) 0)) (any_below (λ third. before h one third && before h third other) h.count)
      (λ is. elim (greatest_some 0 snaps (h.snap other) one fits (ltb-true one (get_or (greatest_from 0 snaps) (h.snap other) 0) is)) [
        | inl none ↦ absurd (omega (arith, none))
        | inr found ↦
            (let there : found.0 < h.count = omega (arith, found.1, fits, counted) in
            any_from (λ third. before h one third && before h third other) h.count found.0 there
            (and_from (before h one found.0) (before h found.0 other) (lt-ltb one (h.snap found.0) (subst (λ k. one < k) (snap_is found.0 there) found.2)) (lt-ltb found.0 (h.snap other) found.1)))
      ])
      (λ is.
      let found = any_some (λ third. before h one third && before h third other) h.count is in
      let both = and_parts (before h one found.0) (before h found.0 other) found.2 in
      let low : one < h.snap found.0 = ltb-true one (h.snap found.0) both.0 in
      let least : get_or snaps found.0 0 ≤ get_or (greatest_from 0 snaps) (h.snap other) 0 = greatest_each 0 snaps (h.snap other) found.0 fits (ltb-true found.0 (h.snap other) both.1) in
      lt-ltb one (get_or (greatest_from 0 snaps) (h.snap other) 0) (let same = snap_is found.0 found.1 in omega (arith, low, least, same)))

  sets_are : (greatest them : List ℕ) → sets_from greatest them ≡ map (λ snap. numbers_between (get_or greatest snap 0) snap) them
  sets_are greatest [] = refl
  sets_are greatest (snap ∷ them) = ap (λ rest. numbers_between (get_or greatest snap 0) snap ∷ rest) (sets_are greatest them)

  before_set : (one other : ℕ) → other < h.count → times one (get_or (before_sets snaps) other []) other ≡ cond (is_right_before h one other) (other ∷ []) []
  before_set one other within =
      ap (λ (sets : List (List ℕ)). times one (get_or sets other []) other) (sets_are (greatest_from 0 snaps) snaps)
      ∙ ap (λ set. times one set other) (get_or-map (λ snap. numbers_between (get_or (greatest_from 0 snaps) snap 0) snap) snaps other 0 [] (subst (λ n. other < n) (sym counted) within))
      ∙ ap (λ snap. times one (numbers_between (get_or (greatest_from 0 snaps) snap 0) snap) other) (snap_is other within)
      ∙ times_between (get_or (greatest_from 0 snaps) (h.snap other) 0) (h.snap other) one other
      ∙ ap (λ b. cond b (other ∷ []) []) (and_turned (not (ltb one (get_or (greatest_from 0 snaps) (h.snap other) 0))) (before h one other) ∙ ap (λ b. before h one other && not b) (third_same one other within))

  pub right_before_is : (places : List ℕ) (one : ℕ) → All (λ place. place < h.count) places → one < h.count → get_or (turned_of (length snaps) (before_sets snaps) places) one [] ≡ filter (is_right_before h one) places
  right_before_is places one all within =
      turned_at (length snaps) (before_sets snaps) places one (subst (λ n. one < n) (sym counted) within)
      ∙ flat_filter (λ other. times one (get_or (before_sets snaps) other []) other) (is_right_before h one) (λ place. place < h.count) places (before_set one) (each_of (λ place. place < h.count) places all)

  -- ---- who is concurrent with whom

  open_at : (from : ℕ) (them : List ℕ) (place : ℕ) → place < length them → get_or (open_sets from them) place [] ≡ numbers_between (get_or them place 0) (from + place)
  open_at from [] place within = absurd (omega (arith, within))
  open_at from (snap ∷ them) zero within = ap (numbers_between snap) (omega arith)
  open_at from (snap ∷ them) (suc place) within = open_at (from + 1) them place (omega (arith, within)) ∙ ap (numbers_between (get_or them place 0)) (omega arith)

  near_at : (later : List (List ℕ)) (from : ℕ) (them : List ℕ) (place : ℕ) → place < length them → get_or (near_sets later from them) place [] ≡ numbers_between (get_or them place 0) (from + place) ++ get_or later (from + place) []
  near_at later from [] place within = absurd (omega (arith, within))
  near_at later from (snap ∷ them) zero within = ap (λ at. numbers_between snap at ++ get_or later at []) (omega arith)
  near_at later from (snap ∷ them) (suc place) within = near_at later (from + 1) them place (omega (arith, within)) ∙ ap (λ at. numbers_between (get_or them place 0) at ++ get_or later at []) (omega arith)

  open_first : (place : ℕ) → place < length snaps → get_or (open_sets 0 snaps) place [] ≡ numbers_between (get_or snaps place 0) place
  open_first place within =
      let same : 0 + place ≡ place = omega arith in
      open_at 0 snaps place within ∙ ap (numbers_between (get_or snaps place 0)) same

  near_first : (later : List (List ℕ)) (place : ℕ) → place < length snaps → get_or (near_sets later 0 snaps) place [] ≡ numbers_between (get_or snaps place 0) place ++ get_or later place []
  near_first later place within =
      let same : 0 + place ≡ place = omega arith in
      near_at later 0 snaps place within ∙ ap (λ at. numbers_between (get_or snaps place 0) at ++ get_or later at []) same

  later_at : (place : ℕ) → place < length snaps → get_or (later_sets snaps) place [] ≡ filter (λ other. is_between (get_or snaps other 0) other place) (numbers_between 0 (length snaps))
  later_at place within =
      turned_at (length snaps) (open_sets 0 snaps) (numbers_between 0 (length snaps)) place within
      ∙ flat_filter (λ other. times place (get_or (open_sets 0 snaps) other []) other) (λ other. is_between (get_or snaps other 0) other place) (λ other. other < length snaps) (numbers_between 0 (length snaps))
      (λ other there. ap (λ set. times place set other) (open_first other there) ∙ times_between (get_or snaps other 0) other place other) (each_between 0 (length snaps - 0) (length snaps) (omega arith))

  open_last : (a : Bool) (number : ℕ) → cond (not a && true) (number ∷ []) [] ++ cond (not false && false) (number ∷ []) [] ≡ cond (not false && not a && not false) (number ∷ []) []
  open_last true number = refl
  open_last false number = refl

  later_last : (c : Bool) (number : ℕ) → cond (not false && false) (number ∷ []) [] ++ cond (not c && true) (number ∷ []) [] ≡ cond (not false && not false && not c) (number ∷ []) []
  later_last true number = refl
  later_last false number = refl

  same_last : (a c : Bool) (number : ℕ) → cond (not a && false) (number ∷ []) [] ++ cond (not c && false) (number ∷ []) [] ≡ cond (not true && not a && not c) (number ∷ []) []
  same_last true true number = refl
  same_last true false number = refl
  same_last false true number = refl
  same_last false false number = refl

  -- of two concurrent ones just one committed while the other was open
  near_same : (one other : ℕ) → one < h.count → other < h.count → cond (is_between (h.snap other) other one) (other ∷ []) [] ++ cond (is_between (h.snap one) one other) (other ∷ []) [] ≡ cond (concurrent h one other) (other ∷ []) []
  near_same one other there within = elim (cases_order one other) [
    | inl same ↦
        (let is : (one == other) ≡ true = eq-eqb one other same in
        let b : ltb one other ≡ false = le-ltb one other (omega (arith, same)) in
        let d : ltb other one ≡ false = le-ltb other one (omega (arith, same)) in
        (λ k. cond (not (ltb one (h.snap other)) && b k) (other ∷ []) [] ++ cond (not (ltb other (h.snap one)) && d k) (other ∷ []) []) ∙ same_last (ltb one (h.snap other)) (ltb other (h.snap one)) other
        ∙ sym (λ k. cond (not (is k) && not (ltb one (h.snap other)) && not (ltb other (h.snap one))) (other ∷ []) []))
    | inr apart ↦
        elim apart [
          | inl less ↦
              (let is : (one == other) ≡ false = ne_eqb one other (λ same. omega (arith, same, less)) in
              let b : ltb one other ≡ true = lt-ltb one other less in
              let d : ltb other one ≡ false = le-ltb other one (omega (arith, less)) in
              let c : ltb other (h.snap one) ≡ false = le-ltb other (h.snap one) (let first = began one there in omega (arith, first, less)) in
              (λ k. cond (not (ltb one (h.snap other)) && b k) (other ∷ []) [] ++ cond (not (c k) && d k) (other ∷ []) []) ∙ open_last (ltb one (h.snap other)) other
              ∙ sym (λ k. cond (not (is k) && not (ltb one (h.snap other)) && not (c k)) (other ∷ []) []))
          | inr more ↦
              (let is : (one == other) ≡ false = ne_eqb one other (λ same. omega (arith, same, more)) in
              let b : ltb one other ≡ false = le-ltb one other (omega (arith, more)) in
              let d : ltb other one ≡ true = lt-ltb other one more in
              let a : ltb one (h.snap other) ≡ false = le-ltb one (h.snap other) (let first = began other within in omega (arith, first, more)) in
              (λ k. cond (not (a k) && b k) (other ∷ []) [] ++ cond (not (ltb other (h.snap one)) && d k) (other ∷ []) []) ∙ later_last (ltb other (h.snap one)) other
              ∙ sym (λ k. cond (not (is k) && not (a k) && not (ltb other (h.snap one))) (other ∷ []) []))
        ]
  ]

  near_set : (one : ℕ) → one < h.count → (other : ℕ) → other < h.count → times one (get_or (near_sets (later_sets snaps) 0 snaps) other []) other ≡ cond (concurrent h one other) (other ∷ []) []
  near_set one there other within =
      let within' : other < length snaps = subst (λ n. other < n) (sym counted) within in
      let there' : one < length snaps = subst (λ n. one < n) (sym counted) there in
      ap (λ set. times one set other) (near_first (later_sets snaps) other within')
      ∙ times_append one (numbers_between (get_or snaps other 0) other) (get_or (later_sets snaps) other []) other
      ∙ (λ k. times_between (get_or snaps other 0) other one other k ++ (ap (λ set. times one set other) (later_at other within') ∙ times_filter (λ third. is_between (get_or snaps third 0) third other) one (numbers_between 0 (length snaps)) other
      ∙ ap (λ them. cond (is_between (get_or snaps one 0) one other) them []) (times_in one 0 (length snaps - 0) other (omega arith) (omega (arith, there')))) k)
      ∙ (λ k. cond (is_between (snap_is other within k) other one) (other ∷ []) [] ++ cond (is_between (snap_is one there k) one other) (other ∷ []) [])
      ∙ near_same one other there within

  pub concurrent_is : (places : List ℕ) (one : ℕ) → All (λ place. place < h.count) places → one < h.count → get_or (turned_of (length snaps) (near_sets (later_sets snaps) 0 snaps) places) one [] ≡ filter (concurrent h one) places
  concurrent_is places one all within =
      turned_at (length snaps) (near_sets (later_sets snaps) 0 snaps) places one (subst (λ n. one < n) (sym counted) within)
      ∙ flat_filter (λ other. times one (get_or (near_sets (later_sets snaps) 0 snaps) other []) other) (concurrent h one) (λ place. place < h.count) places (near_set one within) (each_of (λ place. place < h.count) places all)
