-- What is written for a name is that name.
use Rattle.std.specs.Prelude.{◌≡◌, ℕ, List, length, get_or, nat_le, Bool, true, false, ◌&&◌, not, Option, Some, None, option_map, codes}
use Rattle.std.specs.Str.{bytes_eq}
use Rattle.std.proofs.Common.{refl, sym, ap, subst, arith}
use Rattle.std.proofs.lemmas.Slice.Eq.{bytes_eq-Decides}
use Rattle.rls_value.specs.Names.{IsName, folded, spells_name, is_name_text, is_word, reserved}
use Rattle.rls_expr.specs.declared.policy.Grantee.{Grantee}
use Rattle.rls_expr.specs.declared.policy.Grantee.TheVariants.{Public, Role}
use Rattle.rls_codec.specs.Looking.{found_where}
use Rattle.rls_audit_lines.specs.NamesFound.{name_found, FitsGrantee, grantee_text, grantee_found}

both_true : (a b c : Bool) → (a && b) ≡ true → c ≡ false → (b && (a && not c)) ≡ true
both_true false b c h k = cc
both_true true false c h k = cc
both_true true true false h k = refl
both_true true true true h k = cc

pub name_back : (n : List ℕ) → IsName n → name_found n ≡ Some n
name_back n h =
    rw (h.lower, both_true (is_name_text n) (nat_le (length n) 63) (reserved n) h.word h.free) refl

upper : folded (codes "PUBLIC") ≡ codes "PUBLIC" → ⊥
upper h = let e : 112 ≡ 80 = ap (λ l. get_or l 0 0) h in omega (arith, e)

no_public : (n : List ℕ) → IsName n → (b : Bool) → bytes_eq n (codes "PUBLIC") ≡ b → b ≡ false
no_public n h false e = refl
no_public n h true e = absurd (upper (subst (λ m. folded m ≡ m) ((bytes_eq-Decides n (codes "PUBLIC")).0 e) h.lower))

pub grantee_back : (g : Grantee) → FitsGrantee g → grantee_found (grantee_text g) ≡ Some g
grantee_back Public h = refl
grantee_back (Role n) h = rw (no_public n h (bytes_eq n (codes "PUBLIC")) refl) (ap (option_map (λ name. Role name)) (name_back n h))
