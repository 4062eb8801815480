-- Grants without anyone's options left out are all; without a grantee's they are those of the rule.
use Rattle.std.specs.Prelude.{◌≡◌, refl, ℕ, List, [], ◌∷◌, Some, None, Bool, true, false, ◌&&◌, not, if◌then◌else◌}
use Rattle.rls_verdict.specs.rls_expr.specs.declared.policy.Grantee.TheVariants as g
use Rattle.rls_verdict.specs.rls_catalog.specs.declared.grant.Grant.{Grant}
use Rattle.rls_verdict.specs.rls_catalog.specs.GrantOptions.{is_same_grantee, not_grantable, without_options_of}
use Rattle.rls_grant.specs.Considered.{considered}

kept_option : (b : Bool) → (b && true) ≡ b
kept_option true = refl
kept_option false = refl

lost_option : (b : Bool) → (b && false) ≡ false
lost_option true = refl
lost_option false = refl

pub considered_all : (grants : List Grant) → considered None grants ≡ grants
considered_all [] = refl
considered_all (grant ∷ grants) = λ i. (record grant { option = kept_option grant.option i }) ∷ considered_all grants i

one_without : (b : Bool) (grant : Grant) → (record grant { option = grant.option && not b }) ≡ (if b then not_grantable grant else grant)
one_without true grant = λ i. record grant { option = lost_option grant.option i }
one_without false grant = λ i. record grant { option = kept_option grant.option i }

pub considered_without : (name : List ℕ) (grants : List Grant) → considered (Some name) grants ≡ without_options_of name grants
considered_without name [] = refl
considered_without name (grant ∷ grants) = λ i. one_without (is_same_grantee grant.grantee (g.Role name)) grant i ∷ considered_without name grants i
