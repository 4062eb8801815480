-- The set of the names that a walk has met, beside their list.
use Rattle.std.specs.Prelude.{◌≡◌, refl, ℕ, List, [], ◌∷◌, ◌++◌, Bool, true, false, ◌||◌, cond}
use Rattle.std.specs.BTreeSet.{BTreeSet, contains}
use Rattle.std.specs.Ordering.{is_eq}
use Rattle.std.specs.Str.{bytes_eq}
use Rattle.std.proofs.Common.{ap, ◌∙◌, sym}
use Rattle.std.proofs.lemmas.Map.Text.{is_eq-slice_cmp}
use Rattle.rls_value.specs.Names.{one_of}
use Rattle.rls_verdict.specs.rls_catalog.specs.State.{name_order}
use Rattle.rls_verdict.specs.rls_catalog.proofs.Walks.{one_of-append}
use Rattle.rls_grant.specs.Seen.{IsSetOf}

or_put : (a b : Bool) → cond a true b ≡ (b || (a || false))
or_put true true = refl
or_put true false = refl
or_put false true = refl
or_put false false = refl

-- the set and the list, after the name was put into both
pub set_put : (seen grown : BTreeSet (List ℕ)) (names items : List (List ℕ)) (name key : List ℕ) → key ≡ name → items ≡ names ++ name ∷ [] → IsSetOf seen names
    → ((q : List ℕ) → contains name_order grown q ≡ cond (is_eq (name_order key q)) true (contains name_order seen q))
    → IsSetOf grown items
set_put seen grown names items name key same grows set put q =
    put q
    ∙ ap (λ k. cond (is_eq (name_order k q)) true (contains name_order seen q)) same
    ∙ ap (λ b. cond b true (contains name_order seen q)) (is_eq-slice_cmp name q)
    ∙ ap (cond (bytes_eq name q) true) (set q)
    ∙ or_put (bytes_eq name q) (one_of names q)
    ∙ sym (one_of-append names (name ∷ []) q)
    ∙ ap (λ ns. one_of ns q) (sym grows)
