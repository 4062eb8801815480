-- The JSON of names, and of whom a grant is for: texts.
use Rattle.std.specs.Prelude.{◌≡◌, ℕ, List, length, nat_le, Bool, true, false, ◌&&◌, not, Option, Some, None, option_map, codes, if◌then◌else◌}
use Rattle.std.specs.Str.{bytes_eq}
use Rattle.rls_value.specs.Names.{IsName, folded, spells_name}
use Rattle.rls_expr.specs.declared.policy.Grantee.{Grantee}
use Rattle.rls_expr.specs.declared.policy.Grantee.TheVariants.{Public, Role}
use Rattle.rls_codec.specs.Looking.{found_where}
use Rattle.rls_codec.specs.Codec.{Codec}
use Rattle.rls_codec.specs.Codecs.{text, parsed}
use Rattle.rls_audit_lines.specs.NameCodecLaws as laws
use Rattle.rls_audit_lines.specs.NamesFound.{name_found, FitsGrantee, grantee_text, grantee_found}

-- a name
abbrev pub name : Codec (List ℕ)
name = parsed IsName (λ n. n) name_found text (λ n h. tt) laws.name_back

-- every role, or a role
abbrev pub grantee : Codec Grantee
grantee = parsed FitsGrantee grantee_text grantee_found text (λ g h. tt) laws.grantee_back
