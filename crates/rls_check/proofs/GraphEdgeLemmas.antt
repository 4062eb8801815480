-- The edges of a graph are those of the history that the runs make.
use Rattle.std.proofs.Common.{◌≡◌, refl, ℕ, zero, suc, ◌<◌, ◌≤◌, ◌==◌, Bool, true, false, not, ◌&&◌, ◌||◌, cond, List, [], ◌∷◌, ◌++◌, map, length, get_or, set, replicate, filter, flat_map, Option, Some, None, inl, inr, ◌⊎◌, sym, ap, subst, ◌∙◌, arith}
use Rattle.std.specs.Prelude.{nat_lt}
use Rattle.std.specs.List.{All, list_any}
use Rattle.std.proofs.lemmas.Bool.{cases_Bool, eqb-true, lt-ltb, ltb-false, true≢false}
use Rattle.std.proofs.lemmas.List.{get_or-map, length-map}
use Rattle.rls_value.specs.declared.object.Object.{Object}
use Rattle.rls_catalog.specs.Bases.{covers_any}
use Rattle.rls_history.specs.History.{History, before, concurrent, rw as edge}
use Rattle.rls_history.specs.Orders.{IsNext, IsOrder, StandInTurn, none_placed, placed_by, precedes, with_placed}
use Rattle.rls_explain.specs.rls_meaning.specs.rls_guard.specs.rls_source.specs.Footprints.{is_among}
use Rattle.rls_check.specs.declared.edges.Before.{Before}
use Rattle.rls_check.specs.declared.edges.Conflict.{Conflict}
use Rattle.rls_check.specs.declared.transaction.Transaction.{Transaction}
use Rattle.rls_check.specs.declared.works.Work.{Work}
use Rattle.rls_check.specs.Audited.{nobody, transaction_at}
use Rattle.rls_check.specs.Checking.{IsPlaced, history_of}
use Rattle.rls_check.specs.GraphEdges.{before_edge, befores_of, conflict_on, conflicts_of, is_right_before}
use Rattle.rls_check.specs.GraphHistory.{changed_at, history_in, objects_between, read_at}
use Rattle.rls_check.specs.GraphSteps.{EachBegan, before_sets, befores_along, befores_by, common, conflicts_along, conflicts_between, conflicts_by, later_sets, near_sets, no_work, noted_all, snap_of, turned_of}
use Rattle.rls_check.specs.Walking.{Standing}
use Rattle.rls_check.proofs.GraphCommonLemmas.{common_is}
use Rattle.rls_check.proofs.GraphSetLemmas.{Each, concurrent_is, each_of, right_before_is}
use Rattle.rls_check.proofs.GraphWorkLemmas.{covered_noted, reads_noted}

-- ---- each began before it committed

module _ (h : History) (one : ℕ) (within : one < h.count) where
  -- one that isn't placed, and is placed by these, began before it committed
  began_by : (placed : ℕ → Bool) (places : List ℕ) → StandInTurn h placed places → placed one ≡ false → placed_by placed places one ≡ true → before h one one ≡ false
  began_by placed [] turns left there = absurd (true≢false (sym there ∙ left))
  began_by placed (place ∷ places) turns left there = elim (cases_Bool (one == place)) [
    | inl same ↦
        (let next : IsNext h placed place = turns.0 in
        let is : one ≡ place = eqb-true one place same in
        elim (cases_Bool (before h one one)) [
          | inl itself ↦
              absurd (true≢false (sym (next.all_before place next.within (ap (λ b. b || edge h place place) (ap (λ it. before h it it) (sym is) ∙ itself))) ∙ next.is_left))
          | inr never ↦ never
        ])
    | inr other ↦ began_by (with_placed placed place) places turns.1 (ap (λ b. b || placed one) other ∙ left) there
  ]

pub began : (ts : List Transaction) (numbers places : List ℕ) → IsPlaced ts numbers places → EachBegan ts
began ts numbers places placed = record {
  began = λ one within. ltb-false one (transaction_at ts one).snap (began_by (history_of ts) one within none_placed places placed.in_order.in_turn refl (placed.in_order.all one within));
}

-- the places are those of transactions
pub all_there : (ts : List Transaction) (numbers places : List ℕ) → IsPlaced ts numbers places → All (λ place. place < length ts) places
all_there ts numbers places placed = placed.within

-- ---- lists

filter_same : {X : Type 0} (test other : X → Bool) → ((x : X) → test x ≡ other x) → (xs : List X) → filter test xs ≡ filter other xs
filter_same test other same [] = refl
filter_same test other same (x ∷ xs) = λ i. cond (same x i) (x ∷ filter_same test other same xs i) (filter_same test other same xs i)

flat_same : {B : Type 0} (f g : ℕ → List B) (P : ℕ → Type 0) → ((x : ℕ) → P x → f x ≡ g x) → (xs : List ℕ) → Each P xs → flat_map f xs ≡ flat_map g xs
flat_same f g P same [] each = refl
flat_same f g P same (x ∷ xs) each = λ i. same x each.0 i ++ flat_same f g P same xs each.1 i

-- those of a filter that pass another test too make all, where those that don't make nothing
kept_if : {B : Type 0} (f : ℕ → List B) (a b : Bool) (x : ℕ) (some all : List ℕ) → (b ≡ false → f x ≡ []) → flat_map f some ≡ flat_map f all → flat_map f (cond a (x ∷ some) some) ≡ flat_map f (cond (a && b) (x ∷ all) all)
kept_if f true true x some all none rest = ap (λ more. f x ++ more) rest
kept_if f true false x some all none rest = ap (λ first. first ++ flat_map f some) (none refl) ∙ rest
kept_if f false b x some all none rest = rest

flat_kept : {B : Type 0} (f : ℕ → List B) (a b : ℕ → Bool) → ((x : ℕ) → b x ≡ false → f x ≡ []) → (xs : List ℕ) → flat_map f (filter a xs) ≡ flat_map f (filter (λ x. a x && b x) xs)
flat_kept f a b none [] = refl
flat_kept f a b none (x ∷ xs) = kept_if f (a x) (b x) x (filter a xs) (filter (λ x. a x && b x) xs) (none x) (flat_kept f a b none xs)

nothing_if : {X : Type 0} (xs : List X) → nat_lt 0 (length xs) ≡ false → xs ≡ []
nothing_if [] is = refl
nothing_if (x ∷ xs) is = absurd (true≢false (sym (lt-ltb 0 (length (x ∷ xs)) (omega arith)) ∙ is))

each_if : (P : ℕ → Type 0) (b : Bool) (x : ℕ) (some : List ℕ) → P x → Each P some → Each P (cond b (x ∷ some) some)
each_if P true x some here rest = (here, rest)
each_if P false x some here rest = rest

pub each_filter : (P : ℕ → Type 0) (test : ℕ → Bool) (xs : List ℕ) → Each P xs → Each P (filter test xs)
each_filter P test [] each = tt
each_filter P test (x ∷ xs) each = each_if P (test x) x (filter test xs) each.0 (each_filter P test xs each.1)

-- ---- edges

befores_flat : (sets : List (List ℕ)) (places : List ℕ) → befores_by sets places ≡ flat_map (λ one. map (before_edge one) (get_or sets one [])) places
befores_flat sets [] = refl
befores_flat sets (one ∷ places) = ap (λ rest. map (before_edge one) (get_or sets one []) ++ rest) (befores_flat sets places)

conflicts_flat : (works : List Work) (sets : List (List ℕ)) (places : List ℕ) → conflicts_by works sets places ≡ flat_map (λ one. flat_map (conflicts_between works one) (get_or sets one [])) places
conflicts_flat works sets [] = refl
conflicts_flat works sets (one ∷ places) = ap (λ rest. flat_map (conflicts_between works one) (get_or sets one []) ++ rest) (conflicts_flat works sets places)

module _ (ts : List Transaction) (standings : List Standing) (places : List ℕ) (fits : (one : ℕ) → one < length ts → (transaction_at ts one).snap ≤ one) (all : All (λ place. place < length ts) places) where
  counted : length (map snap_of ts) ≡ length ts
  counted = length-map ts snap_of

  snap_is : (one : ℕ) → one < length ts → get_or (map snap_of ts) one 0 ≡ (transaction_at ts one).snap
  snap_is one within = get_or-map snap_of ts one nobody 0 within

  pub befores_are : befores_along (map snap_of ts) places ≡ befores_of (history_in ts standings) places
  befores_are =
      befores_flat (turned_of (length (map snap_of ts)) (before_sets (map snap_of ts)) places) places
      ∙ flat_same (λ one. map (before_edge one) (get_or (turned_of (length (map snap_of ts)) (before_sets (map snap_of ts)) places) one [])) (λ one. map (before_edge one) (filter (is_right_before (history_in ts standings) one) places)) (λ one. one < length ts)
      (λ one within. ap (map (before_edge one)) (right_before_is (history_in ts standings) (map snap_of ts) counted snap_is fits places one all within)) places (each_of (λ one. one < length ts) places all)

  objects_are : (one other : ℕ) → one < length ts → other < length ts
      → common (get_or (noted_all (replicate (length ts) no_work) standings) one no_work).reads (get_or (noted_all (replicate (length ts) no_work) standings) other no_work).covered ≡ objects_between standings one other
  objects_are one other within there =
      let covered = (get_or (noted_all (replicate (length ts) no_work) standings) other no_work).covered in
      common_is (get_or (noted_all (replicate (length ts) no_work) standings) one no_work).reads covered ∙ ap (filter (is_among covered)) (reads_noted (length ts) standings one within)
      ∙ filter_same (is_among covered) (λ object. covers_any object (changed_at standings other)) (covered_noted (length ts) standings other there) (read_at standings one)

  conflicts_from : (one : ℕ) → one < length ts
      → flat_map (conflicts_between (noted_all (replicate (length ts) no_work) standings) one) (get_or (turned_of (length (map snap_of ts)) (near_sets (later_sets (map snap_of ts)) 0 (map snap_of ts)) places) one [])
      ≡ flat_map (λ other. map (conflict_on one other) (objects_between standings one other)) (filter (edge (history_in ts standings) one) places)
  conflicts_from one within =
      let h = history_in ts standings in
      let works = noted_all (replicate (length ts) no_work) standings in
      let each = each_of (λ place. place < length ts) places all in
      ap (flat_map (conflicts_between works one)) (concurrent_is h (map snap_of ts) counted snap_is fits places one all within)
      ∙ flat_same (conflicts_between works one) (λ other. map (conflict_on one other) (objects_between standings one other)) (λ other. other < length ts) (λ other there. ap (map (conflict_on one other)) (objects_are one other within there)) (filter (concurrent h one) places)
      (each_filter (λ place. place < length ts) (concurrent h one) places each)
      ∙ flat_kept (λ other. map (conflict_on one other) (objects_between standings one other)) (concurrent h one) (h.has_read one) (λ other none. ap (map (conflict_on one other)) (nothing_if (objects_between standings one other) none)) places

  pub conflicts_are : conflicts_along (map snap_of ts) places (noted_all (replicate (length ts) no_work) standings) ≡ conflicts_of ts standings places
  conflicts_are =
      let works = noted_all (replicate (length ts) no_work) standings in
      conflicts_flat works (turned_of (length (map snap_of ts)) (near_sets (later_sets (map snap_of ts)) 0 (map snap_of ts)) places) places
      ∙ flat_same (λ one. flat_map (conflicts_between works one) (get_or (turned_of (length (map snap_of ts)) (near_sets (later_sets (map snap_of ts)) 0 (map snap_of ts)) places) one []))
      (λ one. flat_map (λ other. map (conflict_on one other) (objects_between standings one other)) (filter (edge (history_in ts standings) one) places)) (λ one. one < length ts) conflicts_from places (each_of (λ one. one < length ts) places all)
