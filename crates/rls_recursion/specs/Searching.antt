-- Chains of policies. A policy that holds a subquery brings in the policies of the subquery's table, these those of the
-- tables of their subqueries, and so on. A chain that meets a table again whose policies hold a subquery never ends
-- (PostgreSQL: SQLSTATE 42P17, infinite recursion detected in policy).
use Rattle.std.specs.Prelude.{◌≡◌, ℕ, zero, suc, ◌+◌, ◌≤◌, List, [], ◌∷◌, ◌++◌, Bool, true, false, Option, Some, None, Result, Ok, Err, length, if◌then◌else◌}
use Rattle.std.specs.Str.{bytes_eq}
use Rattle.rls_value.specs.Names.{one_of}
use Rattle.rls_value.specs.declared.refusal.Refusal.{Refusal}
use Rattle.rls_value.specs.declared.refusal.Refusal.TheVariants.{Recursion}
use Rattle.rls_catalog.specs.Membership.{Within}
use Rattle.rls_recursion.specs.declared.dependency.PolicyDependency.{PolicyDependency}
use Rattle.rls_recursion.specs.declared.progress.Progress.{Progress}
use Rattle.rls_recursion.specs.declared.searching.Reached.{Reached}

-- ---- dependencies

-- the first dependency of the table
abbrev pub dependency_in : List PolicyDependency → List ℕ → Option PolicyDependency
dependency_in [] table = None
dependency_in (r ∷ rs) table = if bytes_eq r.table table then Some r else dependency_in rs table

-- whether the policies of the dependency hold a subquery; none where there is no dependency
abbrev pub has_subquery_in : Option PolicyDependency → Bool
has_subquery_in (Some r) = r.has_subquery
has_subquery_in None = false

-- the tables that the policies of the dependency lead to
abbrev pub subquery_tables_in : Option PolicyDependency → List (List ℕ)
subquery_tables_in (Some r) = r.subquery_tables
subquery_tables_in None = []

-- whether the table's policies hold a subquery
abbrev pub has_subquery_of : List PolicyDependency → List ℕ → Bool
has_subquery_of dependencies table = has_subquery_in (dependency_in dependencies table)

-- the tables of the subqueries in the expressions that are asked for
abbrev pub subquery_tables_of : List PolicyDependency → List ℕ → List (List ℕ)
subquery_tables_of dependencies table = subquery_tables_in (dependency_in dependencies table)

-- ---- chains: what has to be believed

-- the first of two, if there is one
abbrev pub or_next : Option (List ℕ) → Option (List ℕ) → Option (List ℕ)
or_next (Some t) rest = Some t
or_next None rest = rest

-- the first that some chain on from one of the tables closes on
abbrev pub first_closed : (List ℕ → Option (List ℕ)) → List (List ℕ) → Option (List ℕ)
first_closed closes [] = None
first_closed closes (t ∷ ts) = or_next (closes t) (first_closed closes ts)

-- the table that a chain on from this one closes on first, depth first, in order: one that the chain meets again and whose
-- policies hold a subquery. The chain so far is given, the last table first; no chains are walked that are longer by more
abbrev pub closes : ℕ → List PolicyDependency → List (List ℕ) → List ℕ → Option (List ℕ)
closes zero dependencies chain t = None
closes (suc n) dependencies chain t =
    if has_subquery_of dependencies t then (if one_of chain t then Some t else first_closed (closes n dependencies (t ∷ chain)) (subquery_tables_of dependencies t)) else None

-- the table that a statement's chains close on first: those from its target, whose policies lead to its own tables, then
-- those that each begin with the table of one of its subqueries
abbrev pub first_closing : ℕ → List PolicyDependency → List ℕ → List (List ℕ) → List (List ℕ) → Option (List ℕ)
first_closing n dependencies target own queries = or_next (first_closed (closes n dependencies (target ∷ [])) own) (first_closed (closes n dependencies []) queries)

-- ---- the search: each table once

-- no table is met yet
abbrev pub nothing_yet : Progress
nothing_yet = record { done = []; listed = [] }

-- the table is met: it stands behind the others
abbrev pub put_listed : Progress → List ℕ → Progress
put_listed progress t = record { done = progress.done; listed = progress.listed ++ t ∷ [] }

-- the table is done: it stands in front of the others
abbrev pub put_done : Progress → List ℕ → Progress
put_done progress t = record { done = t ∷ progress.done; listed = progress.listed }

-- what a search finds: the tables, or one that a chain closes on; or it was cut off
pub data Found : Type 0 where
  Fits : Progress → Found
  Loops : List ℕ → Found
  Deep : Found

-- the search goes on where the tables fit
abbrev pub found_then : Found → (Progress → Found) → Found
found_then (Fits progress) next = next progress
found_then (Loops t) next = Loops t
found_then Deep next = Deep

-- one table after the other
abbrev pub visit_all : (Progress → List ℕ → Found) → Progress → List (List ℕ) → Found
visit_all visit progress [] = Fits progress
visit_all visit progress (t ∷ ts) = found_then (visit progress t) (λ more. visit_all visit more ts)

-- a visit of a table, at the end of the chain: nothing where it is done; a table whose policies hold no subquery is done at
-- once; one on the chain closes it; else its tables are visited, and then it is done
abbrev pub visit : ℕ → List PolicyDependency → List (List ℕ) → Progress → List ℕ → Found
visit zero dependencies chain progress t = Deep
visit (suc n) dependencies chain progress t =
    if one_of progress.done t then Fits progress else
    (if has_subquery_of dependencies t then
    (if one_of chain t then Loops t else found_then (visit_all (visit n dependencies (t ∷ chain)) (put_listed progress t) (subquery_tables_of dependencies t)) (λ more. Fits (put_done more t)))
    else Fits (put_done (put_listed progress t) t))

-- the search, from what is done before it: from the target over its own tables, then over those of the subqueries, each of
-- which begins a chain. No chain is longer than so much
abbrev pub searched_from : ℕ → List PolicyDependency → Progress → List ℕ → List (List ℕ) → List (List ℕ) → Found
searched_from n dependencies progress target own queries =
    found_then (visit_all (visit n dependencies (target ∷ [])) progress own) (λ more. visit_all (visit n dependencies []) more queries)

-- the search of a statement: no chain is longer than there are dependencies
abbrev pub searched : List PolicyDependency → List ℕ → List (List ℕ) → List (List ℕ) → Found
searched dependencies target own queries = searched_from (suc (length dependencies)) dependencies nothing_yet target own queries

-- what is told of a search: the tables in their two orders, or the refusal; it is never cut off
abbrev pub told_by : List (List ℕ) → Found → Result Reached Refusal
told_by queries (Fits progress) = Ok (record { secured = progress.done; tables = queries ++ progress.listed })
told_by queries (Loops t) = Err (Recursion t)
told_by queries Deep = Ok (record { secured = []; tables = [] })

-- the tables that a statement reaches, in their two orders, or the table that a chain closes on
abbrev pub ordered_by : List PolicyDependency → List ℕ → List (List ℕ) → List (List ℕ) → Result Reached Refusal
ordered_by dependencies target own queries = told_by queries (searched dependencies target own queries)

-- ---- what holds of the order

-- each once, and behind each one whose policies hold a subquery the tables that they lead to
abbrev pub InOrder : List PolicyDependency → List (List ℕ) → Type 0
InOrder dependencies [] = Unit {0}
InOrder dependencies (t ∷ ts) = (one_of ts t ≡ false) × ((has_subquery_of dependencies t ≡ true → Within (subquery_tables_of dependencies t) ts) × InOrder dependencies ts)

-- each once
abbrev pub IsOnce : List (List ℕ) → Type 0
IsOnce [] = Unit {0}
IsOnce (t ∷ ts) = (one_of ts t ≡ false) × IsOnce ts

-- those of the subqueries are there, and behind them each table that is reached, once
pub record ListsEach (queries : List (List ℕ)) (reached : Reached) : Type 0 where
  pub listed : List (List ℕ)
  pub behind : reached.tables ≡ queries ++ listed
  pub once : IsOnce listed
  pub all : Within reached.secured listed
  pub only : Within listed reached.secured

-- ---- how long chains get

-- what a table counts that isn't on the chain
abbrev pub cost : Bool → ℕ
cost true = 0
cost false = 1

-- how many of the tables aren't on the chain
abbrev pub left : List (List ℕ) → List (List ℕ) → ℕ
left [] chain = 0
left (t ∷ ts) chain = cost (one_of chain t) + left ts chain

-- the tables that have a dependency
abbrev pub tables_in : List PolicyDependency → List (List ℕ)
tables_in [] = []
tables_in (r ∷ rs) = r.table ∷ tables_in rs

-- the chain gets no longer than so much
abbrev pub IsEnough : List PolicyDependency → List (List ℕ) → ℕ → Type 0
IsEnough dependencies chain n = suc (left (tables_in dependencies) chain) ≤ n

-- what a call found: the table that a chain closes on, or how far it came
abbrev pub as_found : Option (List ℕ) → Progress → Found
as_found (Some t) progress = Loops t
as_found None progress = Fits progress
