-- What is told of a search: it refuses where a chain closes, and else has each table in order.
use Rattle.std.specs.Prelude.{◌≡◌, ◌↔◌, refl, ℕ, suc, ◌<◌, List, [], ◌∷◌, Bool, true, false, Option, Some, None, Result, Ok, Err, length}
use Rattle.std.proofs.Common.{arith, ap, sym, ◌∙◌, subst}
use Rattle.std.proofs.lemmas.Bool.{true≢false}
use Rattle.rls_value.specs.{declared.refusal.Refusal.Refusal, declared.refusal.Refusal.TheVariants.Recursion}
use Rattle.rls_catalog.specs.Membership.{Within}
use Rattle.rls_recursion.specs.{declared.dependency.PolicyDependency.PolicyDependency, declared.progress.Progress.Progress, declared.searching.Reached.Reached}
use Rattle.rls_recursion.specs.Searching.{or_next, first_closed, closes, first_closing, nothing_yet, Found, Fits, Loops, Deep, found_then, visit_all, visit, searched_from, searched, told_by, ordered_by, InOrder, IsOnce, ListsEach, IsEnough}
use Rattle.rls_recursion.proofs.Closing.{IsOpen, Says, visits_say}
use Rattle.rls_recursion.proofs.Listing.{Stands, Lists, Keeps, both_list, visits_keep}
use Rattle.rls_recursion.proofs.Ending.{IsTold, told_then, all_told, visit_told, visits_same, left_most}

-- ---- both parts of a search

-- the tables come in order, those that the search began with among them
pub record Reaches (dependencies : List PolicyDependency) (own queries secured : List (List ℕ)) : Type 0 where
  pub ordered : InOrder dependencies secured
  pub own_met : Within own secured
  pub queries_met : Within queries secured

-- what is found tells which chain closes first
abbrev Ends : List PolicyDependency → List (List ℕ) → List (List ℕ) → Option (List ℕ) → Found → Type 0
Ends dependencies own queries closed (Fits more) = (closed ≡ None) × Reaches dependencies own queries more.done
Ends dependencies own queries closed (Loops t) = closed ≡ Some t
Ends dependencies own queries closed Deep = Unit {0}

-- nothing is on an empty chain
open_empty : (dependencies : List PolicyDependency) (done : List (List ℕ)) → IsOpen dependencies [] done
open_empty dependencies done t is on = absurd (true≢false (sym on))

both_end : (dependencies : List PolicyDependency) (chain own queries : List (List ℕ)) (progress more : Progress) (one rest : Option (List ℕ)) (found : Found)
    → Says dependencies chain progress own one (Fits more) → Says dependencies [] more queries rest found → Ends dependencies own queries (or_next one rest) found
both_end dependencies chain own queries progress more one rest (Fits all) here there = (
  ap (λ c. or_next c rest) here.0 ∙ there.0,
  record { ordered = there.1.ordered; own_met = λ u is. there.1.kept u (here.1.met u is); queries_met = there.1.met },
)
both_end dependencies chain own queries progress more one rest (Loops u) here there = ap (λ c. or_next c rest) here.0 ∙ there
both_end dependencies chain own queries progress more one rest Deep here there = tt

ends_then : (dependencies : List PolicyDependency) (chain own queries : List (List ℕ)) (progress : Progress) (one rest : Option (List ℕ)) (found : Found) (next : Progress → Found)
    → Says dependencies chain progress own one found
    → ((more : Progress) → InOrder dependencies more.done → Says dependencies [] more queries rest (next more))
    → Ends dependencies own queries (or_next one rest) (found_then found next)
ends_then dependencies chain own queries progress one rest (Fits more) next here further = both_end dependencies chain own queries progress more one rest (next more) here (further more here.1.ordered)
ends_then dependencies chain own queries progress one rest (Loops u) next here further = ap (λ c. or_next c rest) here
ends_then dependencies chain own queries progress one rest Deep next here further = tt

search_ends : (n : ℕ) (dependencies : List PolicyDependency) (target : List ℕ) (own queries : List (List ℕ)) → Ends dependencies own queries (first_closing n dependencies target own queries) (searched_from n dependencies nothing_yet target own queries)
search_ends n dependencies target own queries =
    ends_then dependencies (target ∷ []) own queries nothing_yet (first_closed (closes n dependencies (target ∷ [])) own) (first_closed (closes n dependencies []) queries)
    (visit_all (visit n dependencies (target ∷ [])) nothing_yet own) (λ more. visit_all (visit n dependencies []) more queries)
    (visits_say n dependencies (target ∷ []) own nothing_yet tt (λ t is on. absurd (true≢false (sym is))))
    (λ more ordered. visits_say n dependencies [] queries more ordered (open_empty dependencies more.done))

enough_for : (dependencies : List PolicyDependency) (chain : List (List ℕ)) (n : ℕ) → length dependencies < n → IsEnough dependencies chain n
enough_for dependencies chain n more = omega (arith, more, left_most dependencies chain)

-- a search that may go far enough isn't cut off
search_told : (n : ℕ) (dependencies : List PolicyDependency) (target : List ℕ) (own queries : List (List ℕ)) → length dependencies < n → IsTold (searched_from n dependencies nothing_yet target own queries)
search_told n dependencies target own queries more =
    told_then (visit_all (visit n dependencies (target ∷ [])) nothing_yet own) (λ far. visit_all (visit n dependencies []) far queries)
    (all_told (visit n dependencies (target ∷ [])) (λ far t. visit_told n dependencies (target ∷ []) far t (enough_for dependencies (target ∷ []) n more)) nothing_yet own)
    (λ far. all_told (visit n dependencies []) (λ further t. visit_told n dependencies [] further t (enough_for dependencies [] n more)) far queries)

-- and finds what each other such finds
search_same : (n m : ℕ) (dependencies : List PolicyDependency) (target : List ℕ) (own queries : List (List ℕ)) → length dependencies < n → length dependencies < m
    → searched_from n dependencies nothing_yet target own queries ≡ searched_from m dependencies nothing_yet target own queries
search_same n m dependencies target own queries more also =
    ap (λ found. found_then found (λ far. visit_all (visit n dependencies []) far queries)) (visits_same n m dependencies (target ∷ []) nothing_yet own (enough_for dependencies (target ∷ []) n more) (enough_for dependencies (target ∷ []) m also))
    ∙ (λ i. found_then (visit_all (visit m dependencies (target ∷ [])) nothing_yet own) (λ far. visits_same n m dependencies [] far queries (enough_for dependencies [] n more) (enough_for dependencies [] m also) i))

-- ---- the refusal

abbrev table_or : List ℕ → Option (List ℕ) → List ℕ
table_or d (Some t) = t
table_or d None = d

abbrev is_some_table : Option (List ℕ) → Bool
is_some_table (Some t) = true
is_some_table None = false

abbrev refused_or : List ℕ → Result Reached Refusal → List ℕ
refused_or d (Err (Recursion t)) = t
refused_or d (Err refusal) = d
refused_or d (Ok reached) = d

abbrev is_refused : Result Reached Refusal → Bool
is_refused (Err refusal) = true
is_refused (Ok reached) = false

refused_if : (found : Found) (dependencies : List PolicyDependency) (own queries : List (List ℕ)) (closed : Option (List ℕ)) → Ends dependencies own queries closed found → IsTold found → (t : List ℕ) → (told_by queries found ≡ Err (Recursion t)) ↔ (closed ≡ Some t)
refused_if (Fits more) dependencies own queries closed ends told t = (
  λ is. absurd (true≢false (sym (ap is_refused is))),
  λ is. absurd (true≢false (sym (ap is_some_table (sym ends.0 ∙ is)))),
)
refused_if (Loops u) dependencies own queries closed ends told t = (
  λ is. ends ∙ ap (λ result. Some (refused_or t result)) is,
  λ is. ap (λ found. Err (Recursion (table_or t found))) (sym ends ∙ is),
)
refused_if Deep dependencies own queries closed ends told t = absurd told

-- a search refuses just where a chain closes, and names the table that the first one closes on
pub recursion_means : (dependencies : List PolicyDependency) (target : List ℕ) (own queries : List (List ℕ)) (t : List ℕ) (n : ℕ) → length dependencies < n
    → (ordered_by dependencies target own queries ≡ Err (Recursion t)) ↔ (first_closing n dependencies target own queries ≡ Some t)
recursion_means dependencies target own queries t n more =
    let law : (told_by queries (searched_from n dependencies nothing_yet target own queries) ≡ Err (Recursion t)) ↔ (first_closing n dependencies target own queries ≡ Some t) =
    refused_if (searched_from n dependencies nothing_yet target own queries) dependencies own queries (first_closing n dependencies target own queries) (search_ends n dependencies target own queries) (search_told n dependencies target own queries more) t in
    let same : told_by queries (searched_from n dependencies nothing_yet target own queries) ≡ ordered_by dependencies target own queries =
    ap (told_by queries) (search_same n (suc (length dependencies)) dependencies target own queries more (omega arith)) in
    (λ is. law.0 (same ∙ is), λ is. sym same ∙ law.1 is)

-- ---- the order

abbrev reached_or : Reached → Result Reached Refusal → Reached
reached_or d (Ok reached) = reached
reached_or d (Err refusal) = d

reaches_if : (found : Found) (dependencies : List PolicyDependency) (own queries : List (List ℕ)) (closed : Option (List ℕ)) (reached : Reached) → Ends dependencies own queries closed found → IsTold found → told_by queries found ≡ Ok reached → Reaches dependencies own queries reached.secured
reaches_if (Fits more) dependencies own queries closed reached ends told is =
    subst (λ secured. Reaches dependencies own queries secured) (ap (λ result. (reached_or reached result).secured) is) ends.1
reaches_if (Loops u) dependencies own queries closed reached ends told is = absurd (true≢false (ap is_refused is))
reaches_if Deep dependencies own queries closed reached ends told is = absurd told

-- where no chain closes the tables come in order
pub reached_means : (dependencies : List PolicyDependency) (target : List ℕ) (own queries : List (List ℕ)) (reached : Reached) → ordered_by dependencies target own queries ≡ Ok reached → Reaches dependencies own queries reached.secured
reached_means dependencies target own queries reached is =
    reaches_if (searched dependencies target own queries) dependencies own queries (first_closing (suc (length dependencies)) dependencies target own queries) reached
    (search_ends (suc (length dependencies)) dependencies target own queries) (search_told (suc (length dependencies)) dependencies target own queries (omega arith)) is

pub ordered_means : (dependencies : List PolicyDependency) (target : List ℕ) (own queries : List (List ℕ)) (reached : Reached) → ordered_by dependencies target own queries ≡ Ok reached → InOrder dependencies reached.secured
ordered_means dependencies target own queries reached is = (reached_means dependencies target own queries reached is).ordered

pub own_means : (dependencies : List PolicyDependency) (target : List ℕ) (own queries : List (List ℕ)) (reached : Reached) → ordered_by dependencies target own queries ≡ Ok reached → Within own reached.secured
own_means dependencies target own queries reached is = (reached_means dependencies target own queries reached is).own_met

pub queries_means : (dependencies : List PolicyDependency) (target : List ℕ) (own queries : List (List ℕ)) (reached : Reached) → ordered_by dependencies target own queries ≡ Ok reached → Within queries reached.secured
queries_means dependencies target own queries reached is = (reached_means dependencies target own queries reached is).queries_met

-- ---- the tables that are listed

nothing_stands : (dependencies : List PolicyDependency) (chain : List (List ℕ)) → Stands dependencies chain nothing_yet
nothing_stands dependencies chain = record { once = tt; opened = λ t is not_done. absurd (true≢false (sym is)) }

-- what is met is done, since nothing was met before
stands_alone : (dependencies : List PolicyDependency) (chain other : List (List ℕ)) (more : Progress) → Stands dependencies chain more → Lists nothing_yet more → Stands dependencies other more
stands_alone dependencies chain other more stands lists = record {
  once = stands.once;
  opened = λ t is not_done. absurd (true≢false (sym (lists.listed_done t is refl) ∙ not_done));
}

abbrev Finds : Found → Type 0
Finds (Fits more) = IsOnce more.listed × Lists nothing_yet more
Finds (Loops t) = Unit {0}
Finds Deep = Unit {0}

tells_further : (dependencies : List PolicyDependency) (between : Progress) (found : Found) → Lists nothing_yet between → Keeps dependencies [] between found → Finds found
tells_further dependencies between (Fits more) lists keeps = (keeps.0.once, both_list nothing_yet between more lists keeps.1)
tells_further dependencies between (Loops t) lists keeps = tt
tells_further dependencies between Deep lists keeps = tt

tells_then : (dependencies : List PolicyDependency) (chain : List (List ℕ)) (found : Found) (next : Progress → Found) → Keeps dependencies chain nothing_yet found
    → ((more : Progress) → Stands dependencies [] more → Keeps dependencies [] more (next more)) → Finds (found_then found next)
tells_then dependencies chain (Fits more) next keeps further = tells_further dependencies more (next more) keeps.1 (further more (stands_alone dependencies chain [] more keeps.0 keeps.1))
tells_then dependencies chain (Loops t) next keeps further = tt
tells_then dependencies chain Deep next keeps further = tt

search_tells : (n : ℕ) (dependencies : List PolicyDependency) (target : List ℕ) (own queries : List (List ℕ)) → Finds (searched_from n dependencies nothing_yet target own queries)
search_tells n dependencies target own queries =
    tells_then dependencies (target ∷ []) (visit_all (visit n dependencies (target ∷ [])) nothing_yet own) (λ more. visit_all (visit n dependencies []) more queries)
    (visits_keep n dependencies (target ∷ []) own nothing_yet (nothing_stands dependencies (target ∷ [])))
    (λ more stands. visits_keep n dependencies [] queries more stands)

asks_if : (found : Found) (queries : List (List ℕ)) (reached : Reached) → Finds found → IsTold found → told_by queries found ≡ Ok reached → ListsEach queries reached
asks_if (Fits more) queries reached tells told is = subst (λ all. ListsEach queries all) (ap (reached_or reached) is) (record {
  listed = more.listed;
  behind = refl;
  once = tells.0;
  all = λ t among. tells.1.done_listed t among refl;
  only = λ t among. tells.1.listed_done t among refl;
})
asks_if (Loops t) queries reached tells told is = absurd (true≢false (ap is_refused is))
asks_if Deep queries reached tells told is = absurd told

-- listed are the tables of the subqueries, then each that is reached, once
pub tables_mean : (dependencies : List PolicyDependency) (target : List ℕ) (own queries : List (List ℕ)) (reached : Reached) → ordered_by dependencies target own queries ≡ Ok reached → ListsEach queries reached
tables_mean dependencies target own queries reached is =
    asks_if (searched dependencies target own queries) queries reached (search_tells (suc (length dependencies)) dependencies target own queries) (search_told (suc (length dependencies)) dependencies target own queries (omega arith)) is
