-- The JSON of values of rows.
use Rattle.std.specs.Prelude.{◌≡◌, ◌≤◌, true, false, Option, Some, None, option_map}
use Rattle.std.proofs.Common.{refl, ap, arith}
use Rattle.serde_json.specs.Data.{Data, null, boolean, number, string, array, object, depth}
use Rattle.serde_json.specs.Find.{of_integer}
use Rattle.serde_json.specs.Written.{has_float}
use Rattle.rls_codec.specs.Looking.{is_int, int_found}
use Rattle.rls_codec.specs.Codec.{Codec}
use Rattle.rls_codec.specs.Codecs.{integer}
use Rattle.rls_tests.specs.declared.coded_values.Datum.{Datum}
use Rattle.rls_tests.specs.declared.coded_values.Datum.TheVariants.{Null, Int, Text, Bool}

-- a number fits in 64 bits
abbrev pub FitsDatum : Datum → Type 0
FitsDatum Null = Unit {0}
FitsDatum (Int z) = is_int z ≡ true
FitsDatum (Text s) = Unit {0}
FitsDatum (Bool b) = Unit {0}

-- null, a number, a text, a truth value
abbrev pub datum_written : Datum → Data
datum_written Null = null
datum_written (Int z) = number (of_integer z)
datum_written (Text s) = string s
datum_written (Bool b) = boolean b

-- the value of that JSON
abbrev pub datum_found : Data → Option Datum
datum_found null = Some Null
datum_found (boolean b) = Some (Bool b)
datum_found (number n) = option_map (λ z. Int z) (int_found (number n))
datum_found (string s) = Some (Text s)
datum_found (array ds) = None
datum_found (object ms) = None

pub datum_back : (v : Datum) → FitsDatum v → datum_found (datum_written v) ≡ Some v
datum_back Null h = refl
datum_back (Int z) h = ap (option_map (λ n. Int n)) (integer.back z h)
datum_back (Text s) h = refl
datum_back (Bool b) h = refl

pub datum_plain : (v : Datum) → has_float (datum_written v) ≡ false
datum_plain Null = refl
datum_plain (Int z) = integer.plain z
datum_plain (Text s) = refl
datum_plain (Bool b) = refl

pub datum_flat : (v : Datum) → depth (datum_written v) ≤ 0
datum_flat Null = omega arith
datum_flat (Int z) = omega arith
datum_flat (Text s) = omega arith
datum_flat (Bool b) = omega arith

-- a value of a row
abbrev pub datum : Codec Datum
datum = record { Fits = FitsDatum; written = datum_written; found = datum_found; levels = 0; back = datum_back; plain = datum_plain; flat = datum_flat }
