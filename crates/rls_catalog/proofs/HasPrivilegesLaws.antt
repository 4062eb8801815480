-- The test of whose privileges a role has is true exactly where the relation holds.
use Rattle.std.specs.Prelude.{◌≡◌, refl, ◌↔◌, ◌⊎◌, ℕ, List, [], Bool, true, false, ◌||◌, if◌then◌else◌}
use Rattle.std.proofs.Common.{inl, inr, sym}
use Rattle.std.proofs.lemmas.Bool.{true≢false}
use Rattle.rls_expr.specs.rls_value.specs.Names.{one_of}
use Rattle.rls_catalog.specs.State.{State}
use Rattle.rls_catalog.specs.Membership.{attributes_of, reached_of, has_privileges_of, Inherits}
use Rattle.rls_catalog.proofs.Inheriting.{reached_inherits}
use Rattle.rls_catalog.specs.HasPrivileges.{HasPrivilegesOf}

test_means : (superuser : Bool) (s : State) (role other : List ℕ)
    → ((superuser || one_of (if superuser then [] else reached_of s role) other) ≡ true) ↔ ((superuser ≡ true) ⊎ Inherits s role other)
test_means true s role other = (λ is. inl is, λ has. elim has [ inl is ↦ is | inr inherits ↦ refl ])
test_means false s role other = (λ is. inr ((reached_inherits s role other).0 is), λ has. elim has [ inl is ↦ absurd (true≢false (sym is)) | inr inherits ↦ (reached_inherits s role other).1 inherits ])

-- the test is true exactly there
pub has_privileges_means : (s : State) (role other : List ℕ) → (has_privileges_of s role other ≡ true) ↔ HasPrivilegesOf s role other
has_privileges_means s role other = test_means (attributes_of s role).superuser s role other
