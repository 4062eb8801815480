-- Values: comparison with null, the listing order, the range of a column's type.
use Rattle.std.specs.Prelude.{ℕ, pos, negsuc, ◌-◌, ◌^◌, nat_eq, List, [], ◌∷◌, ◌++◌, codes, Bool, true, false, ◌&&◌, not, if◌then◌else◌, slice_get, unwrap_or, encode_utf8}
use Rattle.std.specs.Str.{bytes_eq, chars}
use Rattle.std.specs.List.{flat_map}
use Rattle.std.specs.Fmt.{signed_decimal}
use Rattle.std.specs.Int.Signed.{lt_z}
use Rattle.std.specs.Cmp.Lexicographic.{slice_cmp}
use Rattle.std.specs.Ordering.{int_eq, int_cmp, nat_cmp, is_lt}
use Rattle.std.specs.declared.cmp.Ordering.{Ordering}
use Rattle.std.specs.declared.cmp.Ordering.TheVariants.{Less, Equal, Greater}
use Rattle.rls_value.specs.{declared.truth.Truth.Truth, declared.value.Value.Value, declared.value.ColType.ColType, Truths.truth_of, declared.truth.Truth.TheVariants.True, declared.truth.Truth.TheVariants.False, declared.truth.Truth.TheVariants.Unknown, declared.value.Value.TheVariants.Null, declared.value.Value.TheVariants.Int, declared.value.Value.TheVariants.Text, declared.value.Value.TheVariants.Bool as Flag, declared.value.ColType.TheVariants.Integer, declared.value.ColType.TheVariants.BigInt, declared.value.ColType.TheVariants.Text as Texts, declared.value.ColType.TheVariants.Boolean}

-- the value of a truth value: unknown is null
abbrev pub value_of_truth : Truth → Value
value_of_truth True = Flag true
value_of_truth False = Flag false
value_of_truth Unknown = Null

-- the truth value of a boolean: null is unknown; what is no boolean is false
abbrev pub truth_in : Value → Truth
truth_in Null = Unknown
truth_in (Int n) = False
truth_in (Text t) = False
truth_in (Flag b) = truth_of b

-- whether it is null
abbrev pub is_null : Value → Bool
is_null Null = true
is_null (Int n) = false
is_null (Text t) = false
is_null (Flag b) = false

-- the two are both true or both false
abbrev pub same_flag : Bool → Bool → Bool
same_flag true other = other
same_flag false other = not other

-- `=` (PostgreSQL manual, 9.2): a comparison with null is unknown
abbrev pub equal_values : Value → Value → Truth
equal_values (Int a) (Int b) = truth_of (int_eq a b)
equal_values (Text a) (Text b) = truth_of (bytes_eq a b)
equal_values (Flag a) (Flag b) = truth_of (same_flag a b)
equal_values _ _ = Unknown

-- `<`: numbers by size, texts by bytes, false before true; a comparison with null is unknown
abbrev pub less_values : Value → Value → Truth
less_values (Int a) (Int b) = truth_of (lt_z a b)
less_values (Text a) (Text b) = truth_of (is_lt (slice_cmp nat_cmp a b))
less_values (Flag a) (Flag b) = truth_of (not a && b)
less_values _ _ = Unknown

-- false before true
abbrev pub flag_order : Bool → Bool → Ordering
flag_order false false = Equal
flag_order false true = Less
flag_order true false = Greater
flag_order true true = Equal

-- numbers, then texts, then booleans, then null
abbrev pub rank_of : Value → ℕ
rank_of (Int n) = 0
rank_of (Text t) = 1
rank_of (Flag b) = 2
rank_of Null = 3

-- the order of listing: null last, false before true, numbers by size, texts by bytes
abbrev pub listed : Value → Value → Ordering
listed (Int a) (Int b) = int_cmp a b
listed (Text a) (Text b) = slice_cmp nat_cmp a b
listed (Flag a) (Flag b) = flag_order a b
listed x y = nat_cmp (rank_of x) (rank_of y)

-- whether a value may stand in a column: null in each, else the type's own within its range
abbrev pub fits_type : Value → ColType → Bool
fits_type Null column = true
fits_type (Int n) Integer = not (lt_z n (negsuc (2 ^ 31 - 1))) && lt_z n (pos (2 ^ 31))
fits_type (Int n) BigInt = not (lt_z n (negsuc (2 ^ 63 - 1))) && lt_z n (pos (2 ^ 63))
fits_type (Text t) Texts = true
fits_type (Flag b) Boolean = true
fits_type _ _ = false

-- the value of a column of a row; null where there is no such column
abbrev pub value_at : List Value → ℕ → Value
value_at row column = unwrap_or (slice_get row column) Null

-- a character as it stands within a literal: a quote twice
abbrev pub within_quotes : ℕ → List ℕ
within_quotes c = if nat_eq c 39 then 39 ∷ 39 ∷ [] else encode_utf8 c

-- a value as a literal (PostgreSQL manual, 4.1.2.1): a text between quotes
abbrev pub literal_text : Value → List ℕ
literal_text Null = codes "NULL"
literal_text (Int n) = signed_decimal n
literal_text (Text t) = 39 ∷ flat_map within_quotes (chars t) ++ 39 ∷ []
literal_text (Flag true) = codes "TRUE"
literal_text (Flag false) = codes "FALSE"

-- values as literals, each behind a comma
abbrev pub further_text : List Value → List ℕ
further_text values = flat_map (λ value. codes ", " ++ literal_text value) values

-- values as literals, with commas between them
abbrev pub literals_text : List Value → List ℕ
literals_text [] = []
literals_text (value ∷ values) = literal_text value ++ further_text values
