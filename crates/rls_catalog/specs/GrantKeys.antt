-- What tells grants on one table apart, and orders them: by privilege, then by grantee, then by grantor, then by the column's place.
use Rattle.std.specs.Prelude.{◌≡◌, refl, ℕ, List, Option, Some, None}
use Rattle.std.proofs.Common.{ap}
use Rattle.std.specs.FinMap.{IsAntisymmetric, nat_cmp-IsAntisymmetric, slice_cmp-IsAntisymmetric}
use Rattle.std.specs.Ordering.{nat_cmp, ordering_then}
use Rattle.std.specs.Option.{option_cmp}
use Rattle.std.specs.declared.cmp.Ordering.{Ordering}
use Rattle.std.specs.declared.cmp.Ordering.TheVariants.{Less, Equal, Greater}
use Rattle.rls_expr.specs.rls_value.specs.declared.verb.Privilege.{Privilege}
use Rattle.rls_expr.specs.declared.policy.Grantee.{Grantee}
use Rattle.rls_catalog.specs.{declared.grant.Grant.Grant, declared.grant.GrantKey.GrantKey, State.name_order}

-- the place of a privilege among the four
abbrev pub place_of : Privilege → ℕ
place_of Privilege.Select = 0
place_of Privilege.Insert = 1
place_of Privilege.Update = 2
place_of Privilege.Delete = 3

-- the role, or none for PUBLIC
abbrev pub role_of : Grantee → Option (List ℕ)
role_of Grantee.Public = None
role_of (Grantee.Role name) = Some name

-- the key of a grant
abbrev pub key_of : Grant → GrantKey
key_of grant = record { privilege = place_of grant.privilege; grantee = role_of grant.grantee; grantor = Some grant.grantor; place = grant.place }

-- the first key that a grant of the privilege to the grantee can have
abbrev pub first_key : Privilege → Grantee → GrantKey
first_key privilege grantee = record { privilege = place_of privilege; grantee = role_of grantee; grantor = None; place = 0 }

-- by privilege, then by grantee, then by grantor, then by column
abbrev pub key_order : GrantKey → GrantKey → Ordering
key_order key other =
    ordering_then (nat_cmp key.privilege other.privilege)
    (ordering_then (option_cmp name_order key.grantee other.grantee)
    (ordering_then (option_cmp name_order key.grantor other.grantor) (nat_cmp key.place other.place)))

both_same : (o p : Ordering) → ordering_then o p ≡ Equal → (o ≡ Equal) × (p ≡ Equal)
both_same Less p is = cc
both_same Equal p is = (refl, is)
both_same Greater p is = cc

roles_exact : IsAntisymmetric (option_cmp name_order)
roles_exact None None is = refl
roles_exact None (Some b) is = cc
roles_exact (Some a) None is = cc
roles_exact (Some a) (Some b) is = ap Some (slice_cmp-IsAntisymmetric nat_cmp-IsAntisymmetric a b is)

-- grants with equal keys are of one privilege, grantee, grantor and place
pub keys_exact : IsAntisymmetric key_order
keys_exact key other is =
    let one = both_same (nat_cmp key.privilege other.privilege) (ordering_then (option_cmp name_order key.grantee other.grantee) (ordering_then (option_cmp name_order key.grantor other.grantor) (nat_cmp key.place other.place))) is in
    let two = both_same (option_cmp name_order key.grantee other.grantee) (ordering_then (option_cmp name_order key.grantor other.grantor) (nat_cmp key.place other.place)) one.1 in
    let three = both_same (option_cmp name_order key.grantor other.grantor) (nat_cmp key.place other.place) two.1 in
    λ i. record {
      privilege = nat_cmp-IsAntisymmetric key.privilege other.privilege one.0 i;
      grantee = roles_exact key.grantee other.grantee two.0 i;
      grantor = roles_exact key.grantor other.grantor three.0 i;
      place = nat_cmp-IsAntisymmetric key.place other.place three.1 i;
    }
