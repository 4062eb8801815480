-- Names, and whom a grant is for, in texts.
use Rattle.std.specs.Prelude.{ℕ, List, length, nat_le, ◌&&◌, Option, Some, None, option_map, codes, if◌then◌else◌}
use Rattle.std.specs.Str.{bytes_eq}
use Rattle.rls_value.specs.Names.{IsName, folded, spells_name}
use Rattle.rls_expr.specs.declared.policy.Grantee.{Grantee}
use Rattle.rls_expr.specs.declared.policy.Grantee.TheVariants.{Public, Role}
use Rattle.rls_codec.specs.Looking.{found_where}

-- the name that the text spells
abbrev pub name_found : List ℕ → Option (List ℕ)
name_found t = found_where (nat_le (length t) 63 && spells_name t) (Some (folded t))

-- its role has a name
abbrev pub FitsGrantee : Grantee → Type 0
FitsGrantee Public = Unit {0}
FitsGrantee (Role name) = IsName name

-- PUBLIC, or the name of the role
abbrev pub grantee_text : Grantee → List ℕ
grantee_text Public = codes "PUBLIC"
grantee_text (Role name) = name

-- whom it means
abbrev pub grantee_found : List ℕ → Option Grantee
grantee_found t = if bytes_eq t (codes "PUBLIC") then Some Public else option_map (λ name. Role name) (name_found t)
