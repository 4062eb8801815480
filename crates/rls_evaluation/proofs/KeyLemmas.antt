-- A key is put together column by column.
use Rattle.std.specs.Prelude.{◌≡◌, refl, ℕ, List, [], ◌∷◌, ◌++◌, Option, Some, None}
use Rattle.std.proofs.Common.{ap, sym, append_assoc}
use Rattle.rls_value.specs.declared.value.Value.{Value}
use Rattle.rls_evaluation.specs.Keys.{with_pin}

-- values behind others, if they are there
abbrev pub behind : List Value → Option (List Value) → Option (List Value)
behind first None = None
behind first (Some rest) = Some (first ++ rest)

-- one value more
pub behind_one : (first : List Value) (v : Value) (rest : Option (List Value)) → behind (first ++ v ∷ []) rest ≡ behind first (with_pin (Some v) rest)
behind_one first v None = refl
behind_one first v (Some rest) = ap Some (append_assoc first (v ∷ []) rest)
