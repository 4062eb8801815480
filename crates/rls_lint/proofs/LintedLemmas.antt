-- What is asked of a state.
use Rattle.std.specs.Prelude.{◌≡◌, ℕ, List, Bool, Result, Ok, Err, IfOk}
use Rattle.std.proofs.Common.{◌∙◌}
use Rattle.rls_value.specs.declared.verb.Kind.{Kind}
use Rattle.rls_expr.specs.declared.policy.Policy.{Policy}
use Rattle.rls_catalog.specs.{declared.verdict.Side.Side, Membership.attributes_of, Membership.walked_by, State.State, State.policies_of, Verdict.applying_of, Verdict.chosen}

-- the policies that are chosen by whose privileges the role has are those that apply to it
pub chosen_apply : {E : Type 0} (r : Result (List Policy) E) (s : State) (role table : List ℕ) (kind : Kind) (which : Side) (superuser : Bool) (names : List (List ℕ)) (policies : List Policy)
    → policies ≡ policies_of s table → superuser ≡ (attributes_of s role).superuser → names ≡ walked_by s role
    → IfOk r (λ found. found ≡ chosen superuser names kind which policies) → IfOk r (λ found. found ≡ applying_of s role table kind which)
chosen_apply (Ok found) s role table kind which superuser names policies listed is walked same = same ∙ (λ i. chosen (is i) (walked i) kind which (listed i))
chosen_apply (Err refused) s role table kind which superuser names policies listed is walked same = tt
