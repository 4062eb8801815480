-- Values whose numbers have room for sums.
use Rattle.rls_value.specs.declared.value.Value.{Value}
use Rattle.rls_value.specs.declared.value.Value.TheVariants as v
use Rattle.rls_evaluation.specs.declared.value_set.Wide.{Wide}
use Rattle.rls_evaluation.specs.declared.value_set.Wide.TheVariants.{Null, Int, Text, Bool}

-- the value
abbrev pub wide_value : Wide → Value
wide_value Null = v.Null
wide_value (Int n) = v.Int n
wide_value (Text t) = v.Text t
wide_value (Bool b) = v.Bool b
