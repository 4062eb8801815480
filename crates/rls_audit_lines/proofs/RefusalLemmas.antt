-- What the parts that are read together give.
use Rattle.std.specs.Prelude.{◌≡◌, ℕ, List, Option, Some, None, option_map}
use Rattle.std.proofs.Common.{◌⊎◌, inl, inr, refl, ap}
use Rattle.rls_value.specs.declared.verb.Privilege.{Privilege}
use Rattle.rls_value.specs.declared.refusal.Why.TheVariants.{Column}
use Rattle.rls_audit_lines.specs.RefusalCodecs.{why_from}

pub pair_kept : {A B : Type 0} (o : Option (A × (B × Unit {0}))) (a : A) (b : B) → option_map {T = A × (B × Unit {0})} {U = A × B} (λ p. (p.0, p.1.0)) o ≡ Some (a, b) → o ≡ Some (a, (b, tt))
pair_kept None a b h = cc
pair_kept {A} {B} (Some p) a b h = ap (option_map {T = A × B} {U = A × (B × Unit {0})} (λ q. (q.0, (q.1, tt)))) h

-- of a column, as one of the shapes
pub column_kept : (o : Option (Privilege × (List ℕ × (List ℕ × Unit {0})))) → option_map (λ p. Column p.0 p.1.0 p.1.1.0) o ≡ option_map why_from (option_map inr (option_map inr (option_map inr (option_map inr (option_map inr (option_map inr (option_map inr (option_map inl o))))))))
column_kept None = refl
column_kept (Some p) = refl
