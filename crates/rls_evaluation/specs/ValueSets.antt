-- The values of a list as a set.
use Rattle.std.specs.Prelude.{◌≡◌, List, [], ◌∷◌, ◌++◌, Bool, true, false, not, ◌&&◌}
use Rattle.std.specs.BTreeMap.{is_at}
use Rattle.std.specs.List.{list_any}
use Rattle.rls_value.specs.declared.value.Value.{Value}
use Rattle.rls_value.specs.declared.value.Value.TheVariants.{Null, Int, Text, Bool as Flag}
use Rattle.rls_value.specs.declared.truth.Truth.{Truth}
use Rattle.rls_value.specs.declared.truth.Truth.TheVariants.{True, False, Unknown}
use Rattle.rls_value.specs.Values.{is_null, listed}
use Rattle.rls_evaluation.specs.declared.value_set.ValueSet.{ValueSet}
use Rattle.rls_evaluation.specs.Items.{is_some}

-- it is a number
abbrev pub is_number : Value → Bool
is_number (Int n) = true
is_number _ = false

-- it is a text
abbrev pub is_text : Value → Bool
is_text (Text t) = true
is_text _ = false

-- it is a boolean
abbrev pub is_flag : Value → Bool
is_flag (Flag b) = true
is_flag _ = false

-- the set has the values of the list, and tells whether there are any, and others than those of each type
pub record IsSetOf (set : ValueSet) (items : List Value) : Type 0 where
  pub members : (v : Value) → list_any (is_at (listed v)) set.values.keys ≡ list_any (is_at (listed v)) items
  pub some : set.is_some ≡ is_some items
  pub numbers : set.not_numbers ≡ list_any (λ v. not (is_number v)) items
  pub texts : set.not_texts ≡ list_any (λ v. not (is_text v)) items
  pub flags : set.not_flags ≡ list_any (λ v. not (is_flag v)) items

-- one value more
abbrev pub IsSetWith : ValueSet → ValueSet → Value → Type 0
IsSetWith old new value = (items : List Value) → IsSetOf old items → IsSetOf new (items ++ value ∷ [])

-- there is one that the comparison with the value is unknown with
abbrev pub lets_open : ValueSet → Value → Bool
lets_open set Null = set.is_some
lets_open set (Int n) = set.not_numbers
lets_open set (Text t) = set.not_texts
lets_open set (Flag b) = set.not_flags

-- a value is there that isn't null
abbrev pub finds : ValueSet → Value → Bool
finds set value = list_any (is_at (listed value)) set.values.keys && not (is_null value)

-- true where one is equal, else unknown where a comparison is
abbrev pub three : Bool → Bool → Truth
three true unsure = True
three false true = Unknown
three false false = False
