-- Policies TO PUBLIC are for each role.
use Rattle.std.specs.Prelude.{◌≡◌, refl, ℕ, List, [], ◌∷◌, Bool, true, false, ◌&&◌, ◌||◌, cond, filter}
use Rattle.std.specs.List.{list_any, list_all}
use Rattle.std.proofs.Common.{ap, sym}
use Rattle.std.proofs.lemmas.Bool.{true≢false}
use Rattle.rls_verdict.specs.rls_expr.specs.declared.policy.Grantee.{Grantee}
use Rattle.rls_verdict.specs.rls_expr.specs.declared.policy.Grantee.TheVariants.{Public, Role}
use Rattle.rls_verdict.specs.rls_expr.specs.declared.policy.Policy.{Policy}
use Rattle.rls_verdict.specs.rls_catalog.specs.State.{State}
use Rattle.rls_verdict.specs.rls_catalog.specs.Privileges.{concerns}
use Rattle.rls_verdict.specs.rls_catalog.specs.Verdict.{is_everyone, is_to_everyone, is_to}

or_true : (a : Bool) (b : Bool) → b ≡ true → (a || b) ≡ true
or_true true b is = refl
or_true false b is = is

and_first : (a b : Bool) → (a && b) ≡ true → a ≡ true
and_first true b is = refl
and_first false b is = is

and_last : (a b : Bool) → (a && b) ≡ true → b ≡ true
and_last true b is = is
and_last false b is = absurd (true≢false (sym is))

everyone : (s : State) (role : List ℕ) (to : List Grantee) → list_any is_everyone to ≡ true → list_any (concerns s role) to ≡ true
everyone s role [] is = is
everyone s role (Public ∷ to) is = refl
everyone s role (Role name ∷ to) is = or_true (concerns s role (Role name)) (list_any (concerns s role) to) (everyone s role to is)

kept : (b : Bool) (policy : Policy) (rest policies : List Policy) → b ≡ true → rest ≡ policies → cond b (policy ∷ rest) rest ≡ policy ∷ policies
kept true policy rest policies is same = ap (λ more. policy ∷ more) same
kept false policy rest policies is same = absurd (true≢false (sym is))

-- all of them apply
pub all_are_to : (s : State) (role : List ℕ) (policies : List Policy) → list_all is_to_everyone policies ≡ true → filter (is_to s role) policies ≡ policies
all_are_to s role [] is = refl
all_are_to s role (policy ∷ policies) is =
    kept (is_to s role policy) policy (filter (is_to s role) policies) policies (everyone s role policy.to (and_first (is_to_everyone policy) (list_all is_to_everyone policies) is)) (all_are_to s role policies (and_last (is_to_everyone policy) (list_all is_to_everyone policies) is))
