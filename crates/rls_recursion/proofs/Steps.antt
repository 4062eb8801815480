-- The steps of a search, as the code takes them: the same for each length of chains that is enough.
use Rattle.std.specs.Prelude.{◌≡◌, ℕ, zero, suc, List, ◌∷◌, true, false, length, if◌then◌else◌}
use Rattle.std.proofs.Common.{arith}
use Rattle.rls_value.specs.Names.{one_of}
use Rattle.rls_recursion.specs.declared.dependency.PolicyDependency.{PolicyDependency}
use Rattle.rls_recursion.specs.declared.progress.Progress.{Progress}
use Rattle.rls_recursion.specs.Searching.{has_subquery_of, subquery_tables_of, put_listed, put_done, Found, Fits, Loops, found_then, visit_all, visit, IsEnough}
use Rattle.rls_recursion.proofs.Ending.{chain_falls, left_most}

-- a table that is done
pub visit_was : (dependencies : List PolicyDependency) (chain : List (List ℕ)) (progress : Progress) (t : List ℕ) → one_of progress.done t ≡ true → (n : ℕ) → IsEnough dependencies chain n → visit n dependencies chain progress t ≡ Fits progress
visit_was dependencies chain progress t was zero enough = absurd (omega (arith, enough))
visit_was dependencies chain progress t was (suc n) enough = λ i. if was i then Fits progress else
    (if has_subquery_of dependencies t then (if one_of chain t then Loops t else found_then (visit_all (visit n dependencies (t ∷ chain)) (put_listed progress t) (subquery_tables_of dependencies t)) (λ more. Fits (put_done more t))) else Fits (put_done (put_listed progress t) t))

-- a table whose policies hold no subquery
pub visit_leaf : (dependencies : List PolicyDependency) (chain : List (List ℕ)) (progress : Progress) (t : List ℕ) → one_of progress.done t ≡ false → has_subquery_of dependencies t ≡ false → (n : ℕ) → IsEnough dependencies chain n → visit n dependencies chain progress t ≡ Fits (put_done (put_listed progress t) t)
visit_leaf dependencies chain progress t new leaf zero enough = absurd (omega (arith, enough))
visit_leaf dependencies chain progress t new leaf (suc n) enough = λ i. if new i then Fits progress else
    (if leaf i then (if one_of chain t then Loops t else found_then (visit_all (visit n dependencies (t ∷ chain)) (put_listed progress t) (subquery_tables_of dependencies t)) (λ more. Fits (put_done more t))) else Fits (put_done (put_listed progress t) t))

-- a table that the chain meets again
pub visit_loop : (dependencies : List PolicyDependency) (chain : List (List ℕ)) (progress : Progress) (t : List ℕ) → one_of progress.done t ≡ false → has_subquery_of dependencies t ≡ true → one_of chain t ≡ true → (n : ℕ) → IsEnough dependencies chain n → visit n dependencies chain progress t ≡ Loops t
visit_loop dependencies chain progress t new inner on zero enough = absurd (omega (arith, enough))
visit_loop dependencies chain progress t new inner on (suc n) enough = λ i. if new i then Fits progress else
    (if inner i then (if on i then Loops t else found_then (visit_all (visit n dependencies (t ∷ chain)) (put_listed progress t) (subquery_tables_of dependencies t)) (λ more. Fits (put_done more t))) else Fits (put_done (put_listed progress t) t))

-- a table whose own are visited
pub visit_further : (dependencies : List PolicyDependency) (chain : List (List ℕ)) (progress : Progress) (t : List ℕ) (found : Found) → one_of progress.done t ≡ false → has_subquery_of dependencies t ≡ true → one_of chain t ≡ false
    → ((n : ℕ) → IsEnough dependencies (t ∷ chain) n → visit_all (visit n dependencies (t ∷ chain)) (put_listed progress t) (subquery_tables_of dependencies t) ≡ found)
    → (n : ℕ) → IsEnough dependencies chain n → visit n dependencies chain progress t ≡ found_then found (λ more. Fits (put_done more t))
visit_further dependencies chain progress t found new inner off further zero enough = absurd (omega (arith, enough))
visit_further dependencies chain progress t found new inner off further (suc n) enough = λ i. if new i then Fits progress else
    (if inner i then (if off i then Loops t else found_then (further n (omega (arith, enough, chain_falls dependencies chain t inner off)) i) (λ more. Fits (put_done more t))) else Fits (put_done (put_listed progress t) t))

-- chains that are longer by one than there are dependencies are enough
pub dependencies_enough : (dependencies : List PolicyDependency) (chain : List (List ℕ)) → IsEnough dependencies chain (suc (length dependencies))
dependencies_enough dependencies chain = omega (arith, left_most dependencies chain)
