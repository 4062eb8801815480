-- What a phase begins with, and lists of values that grow.
use Rattle.std.specs.Prelude.{◌≡◌, ℕ, List, [], ◌∷◌, ◌++◌, Result, map}
use Rattle.std.proofs.Common.{ap, sym, ◌∙◌, subst, append_assoc}
use Rattle.std.proofs.lemmas.List.{map-append}
use Rattle.std.specs.declared.alloc.AllocError.{AllocError}
use Rattle.rls_value.specs.declared.value.Value.{Value}
use Rattle.rls_value.specs.declared.object.Object.{Object}
use Rattle.rls_guard.specs.rls_catalog.specs.rls_expr.specs.Terms.{Term}
use Rattle.rls_guard.specs.rls_catalog.specs.State.{State}
use Rattle.rls_evaluation.specs.Environments.{Environment, over}
use Rattle.rls_evaluation.specs.Eval.{Shows}
use Rattle.rls_evaluation.specs.Holding.{Evaluates}
use Rattle.rls_judging.specs.Valuing.{values_on}

-- ---- loops

-- one element more of a list, each element of which stands for another
pub mapped_more : {A B : Type 0} (f : A → B) (xs next : List A) (x : A) (y : B) (rest : List B) → next ≡ xs ++ x ∷ [] → f x ≡ y → map f next ++ rest ≡ map f xs ++ y ∷ rest
mapped_more f xs next x y rest added is =
    ap (λ n. map f n ++ rest) added ∙ ap (λ n. n ++ rest) (map-append f xs (x ∷ [])) ∙ append_assoc (map f xs) (f x ∷ []) rest ∙ ap (λ y. map f xs ++ y ∷ rest) is

-- the values of one row more
pub values_more : (values left given rest : List Value) → values ++ given ≡ left → left ++ rest ≡ values ++ (given ++ rest)
values_more values left given rest same = ap (λ n. n ++ rest) (sym same) ∙ append_assoc values given rest

-- ---- one row

-- what is told of a row over which nothing is in scope
pub told_over : (terms : List Term) (sees : Shows) (user : List ℕ) (row stored : List Value) (outer : List (List Value)) (before after : State) (old new : List Object) (result : Result (List Value) AllocError)
    → row ≡ stored → outer ≡ [] → Evaluates (values_on terms sees (record { user = user; rows = row ∷ outer })) before after old new result → Evaluates (values_on terms sees (over user stored)) before after old new result
told_over terms sees user row stored outer before after old new result same none told =
    subst (λ (rows : List (List Value)). Evaluates (values_on terms sees (record { user = user; rows = rows })) before after old new result) (λ i. same i ∷ none i) told

-- what is told of terms, by another name
pub told_alike : (terms others : List Term) (sees : Shows) (env : Environment) (before after : State) (old new : List Object) (result : Result (List Value) AllocError)
    → others ≡ terms → Evaluates (values_on others sees env) before after old new result → Evaluates (values_on terms sees env) before after old new result
told_alike terms others sees env before after old new result same told = subst (λ ts. Evaluates (values_on ts sees env) before after old new result) same told
