-- A policy of a name is there where it is found.
use Rattle.std.specs.Prelude.{◌≡◌, refl, ℕ, List, [], ◌∷◌, Bool, true, false, ◌||◌, cond, Option, Some, None, is_some}
use Rattle.std.specs.Borrow.{Bor}
use Rattle.std.specs.{List.find, List.list_any, Option.option_copied}
use Rattle.std.proofs.Common.{ap, ◌∙◌}
use Rattle.rls_expr.specs.declared.policy.Policy.{Policy}
use Rattle.rls_guard.specs.rls_catalog.specs.PolicyLists.{is_named, has_policy}

some_found : {X : Type 0} (test : X → Bool) (xs : List X) → is_some (find test xs) ≡ list_any test xs
some_found test [] = refl
some_found test (x ∷ xs) = elim (test x) as (λ b. is_some (cond b (Some x) (find test xs)) ≡ (b || list_any test xs)) [ true ↦ refl | false ↦ some_found test xs ]

some_lent : {X : Type 0} (found : Option (Bor X)) → is_some found ≡ is_some (option_copied found)
some_lent None = refl
some_lent (Some x) = refl

-- one of that name is found where one is there
pub found_there : (policies : List Policy) (name : List ℕ) (found : Option (Bor Policy)) → option_copied found ≡ find (is_named name) policies → is_some found ≡ has_policy policies name
found_there policies name found is = some_lent found ∙ ap is_some is ∙ some_found (is_named name) policies
