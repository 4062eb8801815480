-- Whether something is there, of what pins are put together from.
use Rattle.std.specs.Prelude.{◌≡◌, refl, ℕ, zero, suc, nat_eq, List, Bool, true, false, not, ◌&&◌, ◌||◌, Option, Some, None, is_some, if◌then◌else◌}
use Rattle.std.proofs.Common.{ap, sym}
use Rattle.std.proofs.Math.Dec.{eqb-suc-zero}
use Rattle.rls_evaluation.specs.rls_catalog.specs.rls_expr.specs.rls_value.specs.declared.value.Value.{Value}
use Rattle.rls_evaluation.specs.{Environments.Environment, Keys.or_else, Keys.outer_value, Keys.with_pin}

-- a column further out has a value, one of the subquery's own has none
pub outer_there : (level column : ℕ) (env : Environment) → is_some (outer_value level column env) ≡ not (nat_eq level 0)
outer_there zero column env = refl
outer_there (suc level) column env = sym (ap not (eqb-suc-zero level))

pub if_there : (b : Bool) (o : Option Value) → is_some (if b then o else None) ≡ (b && is_some o)
if_there true o = refl
if_there false o = refl

pub or_there : (a b : Option Value) → is_some (or_else a b) ≡ (is_some a || is_some b)
or_there (Some v) b = refl
or_there None b = refl

pub with_there : (a : Option Value) (b : Option (List Value)) → is_some (with_pin a b) ≡ (is_some a && is_some b)
with_there (Some v) (Some vs) = refl
with_there (Some v) None = refl
with_there None (Some vs) = refl
with_there None None = refl
