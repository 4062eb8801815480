-- Why a line is read back.
use Rattle.std.specs.Prelude.{◌≡◌, ◌≤◌, ℕ, List, false, Some, option_and_then}
use Rattle.std.proofs.Common.{ap, ◌∙◌, arith}
use Rattle.serde_json.specs.Data.{depth}
use Rattle.serde_json.specs.Read.{read, max_depth}
use Rattle.serde_json.specs.Written.{has_float}
use Rattle.rls_codec.specs.Codec.{Codec}

pub written_plain : {A : Type 0} (c : Codec A) (a : A) → has_float (c.written a) ≡ false
written_plain c a = c.plain a

pub written_flat : {A : Type 0} (c : Codec A) (a : A) → c.levels ≤ max_depth → depth (c.written a) ≤ max_depth
written_flat c a h = omega (arith, c.flat a, h)

-- a text that reads as what is written for a value is that value
pub read_back : {A : Type 0} (c : Codec A) (a : A) (text : List ℕ) → c.Fits a → read text ≡ Some (c.written a) → option_and_then c.found (read text) ≡ Some a
read_back c a text h e = ap (option_and_then c.found) e ∙ c.back a h
