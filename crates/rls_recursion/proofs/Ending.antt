-- A search ends, and finds the same whatever length of chains it allows, if that is enough.
use Rattle.std.specs.Prelude.{◌≡◌, refl, ℕ, zero, suc, ◌≤◌, List, [], ◌∷◌, Bool, true, false, ◌||◌, Some, length, if◌then◌else◌}
use Rattle.std.specs.Str.{bytes_eq}
use Rattle.std.proofs.Common.{arith, ap, sym, ◌∙◌}
use Rattle.std.proofs.lemmas.Bool.{true≢false, or_left, or_right}
use Rattle.rls_value.specs.Names.{one_of}
use Rattle.rls_recursion.specs.declared.dependency.PolicyDependency.{PolicyDependency}
use Rattle.rls_recursion.specs.declared.progress.Progress.{Progress}
use Rattle.rls_recursion.specs.Searching.{dependency_in, has_subquery_in, has_subquery_of, subquery_tables_of, put_listed, put_done, Found, Fits, Loops, Deep, found_then, visit_all, visit, cost, left, tables_in, IsEnough}
use Rattle.rls_recursion.proofs.Closing.{one_cases, one_first}

-- ---- a longer chain leaves fewer tables

cost_or : (a b : Bool) → cost (a || b) ≤ cost b
cost_or true true = omega arith
cost_or true false = omega arith
cost_or false b = omega arith

left_more : (ts chain : List (List ℕ)) (x : List ℕ) → left ts (x ∷ chain) ≤ left ts chain
left_more [] chain x = omega arith
left_more (t ∷ ts) chain x = omega (arith, cost_or (bytes_eq x t) (one_of chain t), left_more ts chain x)

left_here : (chain : List (List ℕ)) (x t : List ℕ) → t ≡ x → one_of chain x ≡ false → suc (cost (one_of (x ∷ chain) t)) ≤ cost (one_of chain t)
left_here chain x t same off =
    let now : cost (one_of (x ∷ chain) t) ≡ 0 = ap (λ u. cost (one_of (x ∷ chain) u)) same ∙ ap cost (one_first x chain) in
    let before : cost (one_of chain t) ≡ 1 = ap (λ u. cost (one_of chain u)) same ∙ ap cost off in
    omega (arith, now, before)

left_falls : (ts chain : List (List ℕ)) (x : List ℕ) → one_of ts x ≡ true → one_of chain x ≡ false → suc (left ts (x ∷ chain)) ≤ left ts chain
left_falls [] chain x is off = absurd (true≢false (sym is))
left_falls (t ∷ ts) chain x is off =
    one_cases t ts x is
    (λ same. omega (arith, left_here chain x t same off, left_more ts chain x))
    (λ further. omega (arith, cost_or (bytes_eq x t) (one_of chain t), left_falls ts chain x further off))

cost_most : (b : Bool) → cost b ≤ 1
cost_most true = omega arith
cost_most false = omega arith

-- no chain leaves more than there are dependencies
pub left_most : (dependencies : List PolicyDependency) (chain : List (List ℕ)) → left (tables_in dependencies) chain ≤ length dependencies
left_most [] chain = omega arith
left_most (r ∷ rs) chain = omega (arith, cost_most (one_of chain r.table), left_most rs chain)

dependency_if : (b : Bool) (r : PolicyDependency) (rs : List PolicyDependency) (t : List ℕ) → bytes_eq r.table t ≡ b → has_subquery_in (if b then Some r else dependency_in rs t) ≡ true → (has_subquery_of rs t ≡ true → one_of (tables_in rs) t ≡ true)
    → one_of (r.table ∷ tables_in rs) t ≡ true
dependency_if true r rs t same is later = or_left (bytes_eq r.table t) (one_of (tables_in rs) t) same
dependency_if false r rs t same is later = or_right (bytes_eq r.table t) (one_of (tables_in rs) t) (later is)

-- a table that holds a subquery has a dependency
has_room : (dependencies : List PolicyDependency) (t : List ℕ) → has_subquery_of dependencies t ≡ true → one_of (tables_in dependencies) t ≡ true
has_room [] t is = absurd (true≢false (sym is))
has_room (r ∷ rs) t is = dependency_if (bytes_eq r.table t) r rs t refl is (λ further. has_room rs t further)

-- a longer chain leaves fewer tables
pub chain_falls : (dependencies : List PolicyDependency) (chain : List (List ℕ)) (t : List ℕ) → has_subquery_of dependencies t ≡ true → one_of chain t ≡ false → suc (left (tables_in dependencies) (t ∷ chain)) ≤ left (tables_in dependencies) chain
chain_falls dependencies chain t inner off = left_falls (tables_in dependencies) chain t (has_room dependencies t inner) off

-- ---- a search that may go far enough isn't cut off

-- the search came to its end
abbrev pub IsTold : Found → Type 0
IsTold (Fits progress) = Unit {0}
IsTold (Loops t) = Unit {0}
IsTold Deep = ⊥

pub told_then : (found : Found) (next : Progress → Found) → IsTold found → ((more : Progress) → IsTold (next more)) → IsTold (found_then found next)
told_then (Fits progress) next told further = further progress
told_then (Loops t) next told further = tt
told_then Deep next told further = told

pub all_told : (step : Progress → List ℕ → Found) → ((progress : Progress) (t : List ℕ) → IsTold (step progress t)) → (progress : Progress) (ts : List (List ℕ)) → IsTold (visit_all step progress ts)
all_told step each progress [] = tt
all_told step each progress (t ∷ ts) = told_then (step progress t) (λ more. visit_all step more ts) (each progress t) (λ more. all_told step each more ts)

told_if : (is_done inner on : Bool) (progress : Progress) (t : List ℕ) (below : Found) → (inner ≡ true → on ≡ false → IsTold below)
    → IsTold (if is_done then Fits progress else (if inner then (if on then Loops t else found_then below (λ more. Fits (put_done more t))) else Fits (put_done (put_listed progress t) t)))
told_if true inner on progress t below told = tt
told_if false true true progress t below told = tt
told_if false true false progress t below told = told_then below (λ more. Fits (put_done more t)) (told refl refl) (λ more. tt)
told_if false false on progress t below told = tt

pub visit_told : (n : ℕ) (dependencies : List PolicyDependency) (chain : List (List ℕ)) (progress : Progress) (t : List ℕ) → IsEnough dependencies chain n → IsTold (visit n dependencies chain progress t)
visit_told zero dependencies chain progress t enough = absurd (omega (arith, enough))
visit_told (suc n) dependencies chain progress t enough =
    told_if (one_of progress.done t) (has_subquery_of dependencies t) (one_of chain t) progress t (visit_all (visit n dependencies (t ∷ chain)) (put_listed progress t) (subquery_tables_of dependencies t))
    (λ inner off. all_told (visit n dependencies (t ∷ chain)) (λ more u. visit_told n dependencies (t ∷ chain) more u (omega (arith, enough, chain_falls dependencies chain t inner off))) (put_listed progress t) (subquery_tables_of dependencies t))

-- ---- and finds the same

all_same : (one other : Progress → List ℕ → Found) → ((progress : Progress) (t : List ℕ) → one progress t ≡ other progress t) → (progress : Progress) (ts : List (List ℕ)) → visit_all one progress ts ≡ visit_all other progress ts
all_same one other same progress ts = λ i. visit_all (λ more t. same more t i) progress ts

same_if : (is_done inner on : Bool) (progress : Progress) (t : List ℕ) (one other : Found) → (inner ≡ true → on ≡ false → one ≡ other)
    → (if is_done then Fits progress else (if inner then (if on then Loops t else found_then one (λ more. Fits (put_done more t))) else Fits (put_done (put_listed progress t) t)))
    ≡ (if is_done then Fits progress else (if inner then (if on then Loops t else found_then other (λ more. Fits (put_done more t))) else Fits (put_done (put_listed progress t) t)))
same_if true inner on progress t one other same = refl
same_if false true true progress t one other same = refl
same_if false true false progress t one other same = ap (λ found. found_then found (λ more. Fits (put_done more t))) (same refl refl)
same_if false false on progress t one other same = refl

pub visit_same : (n m : ℕ) (dependencies : List PolicyDependency) (chain : List (List ℕ)) (progress : Progress) (t : List ℕ) → IsEnough dependencies chain n → IsEnough dependencies chain m → visit n dependencies chain progress t ≡ visit m dependencies chain progress t
visit_same zero m dependencies chain progress t enough also = absurd (omega (arith, enough))
visit_same (suc n) zero dependencies chain progress t enough also = absurd (omega (arith, also))
visit_same (suc n) (suc m) dependencies chain progress t enough also =
    same_if (one_of progress.done t) (has_subquery_of dependencies t) (one_of chain t) progress t (visit_all (visit n dependencies (t ∷ chain)) (put_listed progress t) (subquery_tables_of dependencies t)) (visit_all (visit m dependencies (t ∷ chain)) (put_listed progress t) (subquery_tables_of dependencies t))
    (λ inner off. all_same (visit n dependencies (t ∷ chain)) (visit m dependencies (t ∷ chain))
    (λ more u. visit_same n m dependencies (t ∷ chain) more u (omega (arith, enough, chain_falls dependencies chain t inner off)) (omega (arith, also, chain_falls dependencies chain t inner off))) (put_listed progress t) (subquery_tables_of dependencies t))

-- and so for a list of tables
pub visits_same : (n m : ℕ) (dependencies : List PolicyDependency) (chain : List (List ℕ)) (progress : Progress) (ts : List (List ℕ)) → IsEnough dependencies chain n → IsEnough dependencies chain m → visit_all (visit n dependencies chain) progress ts ≡ visit_all (visit m dependencies chain) progress ts
visits_same n m dependencies chain progress ts enough also = all_same (visit n dependencies chain) (visit m dependencies chain) (λ more t. visit_same n m dependencies chain more t enough also) progress ts
