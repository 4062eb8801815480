-- A grant that is put into a list in key order, or taken from it.
use Rattle.std.specs.Prelude.{List, [], ◌∷◌, Option, Some, None, Bool, ◌||◌, if◌then◌else◌}
use Rattle.std.specs.BTreeMap.{is_at}
use Rattle.rls_role.specs.shared_map.specs.Lists.{item_at, with_item, without_item}
use Rattle.rls_verdict.specs.rls_catalog.specs.{declared.grant.Grant.Grant, GrantKeys.key_of, GrantKeys.key_order}

-- the same grant, its grant option aside, if it is there
abbrev pub same_there : List Grant → Grant → Option Grant
same_there grants grant = item_at (is_at (key_order (key_of grant))) key_of grants

-- a grant with that grant option too
abbrev pub optioned : Bool → Grant → Grant
optioned option grant = record grant { option = grant.option || option }

-- what is there with the option of the grant too, or else the grant
abbrev pub optioned_or : Option Grant → Grant → Grant
optioned_or (Some other) grant = optioned grant.option other
optioned_or None grant = grant

-- the same grant where it is there, with the grant option of this one too, or else this one
abbrev pub with_option_there : List Grant → Grant → Grant
with_option_there grants grant = optioned_or (same_there grants grant) grant

-- the grants with this one in its place, or in place of the same one
abbrev pub with_put : List Grant → Grant → List Grant
with_put grants grant = with_item key_order key_of grants grant

-- the grants but for this one
abbrev pub without_grant : List Grant → Grant → List Grant
without_grant grants grant = without_item (is_at (key_order (key_of grant))) key_of grants

-- the grants but for those of the others that don't stay
abbrev pub without_each : (Grant → Bool) → List Grant → List Grant → List Grant
without_each keep grants [] = grants
without_each keep grants (grant ∷ others) = without_each keep (if keep grant then grants else without_grant grants grant) others
