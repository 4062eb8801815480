-- Worked examples of searches. Each is a theorem that computes.
use Rattle.std.specs.Prelude.{◌≡◌, refl, ℕ, List, [], ◌∷◌, true, false, Some, None, Ok, Err, codes}
use Rattle.rls_value.specs.declared.refusal.Refusal.TheVariants.{Recursion}
use Rattle.rls_recursion.specs.declared.dependency.PolicyDependency.{PolicyDependency}
use Rattle.rls_recursion.specs.Searching.{first_closing, ordered_by}

-- a table whose policies hold subqueries on these tables
abbrev leading : List ℕ → List (List ℕ) → PolicyDependency
leading table next = record { table = table; known = None; policies = None; has_subquery = true; subquery_tables = next }

-- a table whose policies hold no subquery
abbrev plain : List ℕ → PolicyDependency
plain table = record { table = table; known = None; policies = None; has_subquery = false; subquery_tables = [] }

-- a policy of t reads t, whose policies so hold a subquery
itself : ordered_by (leading (codes "t") (codes "t" ∷ []) ∷ []) (codes "t") (codes "t" ∷ []) [] ≡ Err (Recursion (codes "t"))
itself = refl

-- t leads to u, and u back to t
in_a_circle : ordered_by (leading (codes "t") (codes "u" ∷ []) ∷ leading (codes "u") (codes "t" ∷ []) ∷ []) (codes "t") (codes "u" ∷ []) [] ≡ Err (Recursion (codes "t"))
in_a_circle = refl

-- and so by the definition over chains
circle_by_chains : first_closing 3 (leading (codes "t") (codes "u" ∷ []) ∷ leading (codes "u") (codes "t" ∷ []) ∷ []) (codes "t") (codes "u" ∷ []) [] ≡ Some (codes "t")
circle_by_chains = refl

-- the same circle from outside, of a statement on another table: it is the table that is met again which is named
circle_from_outside : ordered_by (leading (codes "t") (codes "u" ∷ []) ∷ leading (codes "u") (codes "t" ∷ []) ∷ []) (codes "s") (codes "u" ∷ []) [] ≡ Err (Recursion (codes "u"))
circle_from_outside = refl

-- the policy that is asked for reads t again, whose policies hold no subquery: then the chain ends there
back_to_plain : ordered_by (plain (codes "t") ∷ []) (codes "t") (codes "t" ∷ []) [] ≡ Ok (record { secured = codes "t" ∷ []; tables = codes "t" ∷ [] })
back_to_plain = refl

-- a, which leads to b and to c, and b
abbrev diamond : List PolicyDependency
diamond = leading (codes "a") (codes "b" ∷ codes "c" ∷ []) ∷ plain (codes "b") ∷ plain (codes "c") ∷ []

-- t leads to a and b, a to b and c: b is met below a, and in its own place nothing more is done for it
each_once : ordered_by diamond (codes "t") (codes "a" ∷ codes "b" ∷ []) [] ≡ Ok (record { secured = codes "a" ∷ codes "c" ∷ codes "b" ∷ []; tables = codes "a" ∷ codes "b" ∷ codes "c" ∷ [] })
each_once = refl

-- no chain closes there: b is met twice, and by no chain twice
diamond_by_chains : first_closing 4 diamond (codes "t") (codes "a" ∷ codes "b" ∷ []) [] ≡ None
diamond_by_chains = refl

-- a subquery of a statement on a ranges over a: it begins a chain, which the target isn't on
new_chain : ordered_by diamond (codes "a") (codes "b" ∷ codes "c" ∷ []) (codes "a" ∷ []) ≡ Ok (record { secured = codes "a" ∷ codes "c" ∷ codes "b" ∷ []; tables = codes "a" ∷ codes "b" ∷ codes "c" ∷ codes "a" ∷ [] })
new_chain = refl

-- the first chain in order is named: the target's before the subqueries'
first_in_order : ordered_by (leading (codes "a") (codes "a" ∷ []) ∷ leading (codes "b") (codes "b" ∷ []) ∷ []) (codes "t") (codes "b" ∷ []) (codes "a" ∷ []) ≡ Err (Recursion (codes "b"))
first_in_order = refl
