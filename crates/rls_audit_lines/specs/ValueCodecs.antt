-- The JSON of values, rows, numbers of rows, and what a role, a membership, a table and a grant have.
use Rattle.std.specs.Prelude.{◌≡◌, ◌≤◌, ◌<◌, ◌^◌, ℕ, List, Bool, true, false, Option, Some, None, option_map}
use Rattle.std.proofs.Common.{refl, ap, arith}
use Rattle.serde_json.specs.Data.{Data, null, boolean, number, string, array, object, depth}
use Rattle.serde_json.specs.Find.{of_integer}
use Rattle.serde_json.specs.Written.{has_float}
use Rattle.rls_value.specs.declared.value.Value.{Value}
use Rattle.rls_value.specs.declared.value.Value.TheVariants.{Null, Int, Text, Bool as Flag}
use Rattle.rls_value.specs.declared.row.RowId.{RowId}
use Rattle.rls_value.specs.Objects.{row_id_text}
use Rattle.rls_codec.specs.Looking.{is_int, int_found}
use Rattle.rls_codec.specs.Codec.{Codec}
use Rattle.rls_codec.specs.Codecs.{integer, text, list_of, parsed}
use Rattle.rls_audit_lines.specs.Texts.{row_id_found}
use Rattle.rls_audit_lines.specs.TextLaws.{row_id_back}

-- ---- values

-- a number fits in 64 bits
abbrev pub FitsValue : Value → Type 0
FitsValue Null = Unit {0}
FitsValue (Int z) = is_int z ≡ true
FitsValue (Text s) = Unit {0}
FitsValue (Flag b) = Unit {0}

-- null, a number, a text, a truth value
abbrev pub value_written : Value → Data
value_written Null = null
value_written (Int z) = number (of_integer z)
value_written (Text s) = string s
value_written (Flag b) = boolean b

-- the value of that JSON
abbrev pub value_found : Data → Option Value
value_found null = Some Null
value_found (boolean b) = Some (Flag b)
value_found (number n) = option_map (λ z. Int z) (int_found (number n))
value_found (string s) = Some (Text s)
value_found (array ds) = None
value_found (object ms) = None

pub value_back : (v : Value) → FitsValue v → value_found (value_written v) ≡ Some v
value_back Null h = refl
value_back (Int z) h = ap (option_map (λ n. Int n)) (integer.back z h)
value_back (Text s) h = refl
value_back (Flag b) h = refl

pub value_plain : (v : Value) → has_float (value_written v) ≡ false
value_plain Null = refl
value_plain (Int z) = integer.plain z
value_plain (Text s) = refl
value_plain (Flag b) = refl

pub value_flat : (v : Value) → depth (value_written v) ≤ 0
value_flat Null = omega arith
value_flat (Int z) = omega arith
value_flat (Text s) = omega arith
value_flat (Flag b) = omega arith

-- a value of a row
abbrev pub value : Codec Value
value = record { Fits = FitsValue; written = value_written; found = value_found; levels = 0; back = value_back; plain = value_plain; flat = value_flat }

-- a row, by its values
abbrev pub row : Codec (List Value)
row = list_of value

-- ---- numbers of rows

-- the numbers have their bits
abbrev pub FitsRowId : RowId → Type 0
FitsRowId id = (id.txn < 2 ^ 64) × (id.n < 2 ^ 32)

-- the number of a row, as a text
abbrev pub row_id : Codec RowId
row_id = parsed FitsRowId row_id_text row_id_found text (λ id h. tt) (λ id h. row_id_back id h.0 h.1)
