-- What ties in the listing order is the same.
use Rattle.std.specs.Prelude.{◌≡◌, true, false}
use Rattle.std.proofs.Common.{refl, sym, ap}
use Rattle.std.specs.FinMap.{IsAntisymmetric, nat_cmp-IsAntisymmetric, int_cmp-IsAntisymmetric, slice_cmp-IsAntisymmetric}
use Rattle.std.proofs.lemmas.Bool.{true≢false}
use Rattle.std.specs.Cmp.Lexicographic.{slice_cmp}
use Rattle.std.specs.Ordering.{is_eq}
use Rattle.std.specs.declared.cmp.Ordering.TheVariants.{Less, Equal, Greater}
use Rattle.rls_value.specs.declared.value.Value.TheVariants.{Null, Int, Text, Bool as Flag}
use Rattle.rls_value.specs.Values.{listed}

never_greater : {A : Type 0} → Greater ≡ Equal → A
never_greater tie = absurd (true≢false (sym (ap is_eq tie)))

never_less : {A : Type 0} → Less ≡ Equal → A
never_less tie = absurd (true≢false (sym (ap is_eq tie)))

-- values that tie are the same
pub values_same : IsAntisymmetric listed
values_same (Int a) (Int b) tie = ap Int (int_cmp-IsAntisymmetric a b tie)
values_same (Text a) (Text b) tie = ap Text (slice_cmp-IsAntisymmetric nat_cmp-IsAntisymmetric a b tie)
values_same (Flag true) (Flag true) tie = refl
values_same (Flag true) (Flag false) tie = never_greater tie
values_same (Flag false) (Flag true) tie = never_less tie
values_same (Flag false) (Flag false) tie = refl
values_same Null Null tie = refl
values_same Null (Int b) tie = never_greater tie
values_same Null (Text b) tie = never_greater tie
values_same Null (Flag b) tie = never_greater tie
values_same (Int a) Null tie = never_less tie
values_same (Int a) (Text b) tie = never_less tie
values_same (Int a) (Flag b) tie = never_less tie
values_same (Text a) Null tie = never_less tie
values_same (Text a) (Int b) tie = never_greater tie
values_same (Text a) (Flag b) tie = never_less tie
values_same (Flag a) Null tie = never_less tie
values_same (Flag a) (Int b) tie = never_greater tie
values_same (Flag a) (Text b) tie = never_greater tie

-- rows that tie are the same
pub rows_same : IsAntisymmetric (slice_cmp listed)
rows_same = slice_cmp-IsAntisymmetric values_same
