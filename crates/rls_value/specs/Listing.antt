-- The listing order is a total order: it compares kinds, and values of one kind by a total order.
use Rattle.std.specs.Prelude.{◌≡◌, ℕ, ℤ, pos, List, [], true, false}
use Rattle.std.proofs.Common.{refl, sym, subst}
use Rattle.std.specs.Cmp.{IsTotalOrder}
use Rattle.std.proofs.lemmas.Cmp.{on_total, then_total, lists_total, nat_cmp_total, int_cmp_total, nat_list_cmp_total}
use Rattle.std.specs.Cmp.Lexicographic.{slice_cmp}
use Rattle.std.specs.Ordering.{int_cmp, nat_cmp, on, then_cmp, ordering_then}
use Rattle.std.specs.declared.cmp.Ordering.{Ordering}
use Rattle.std.specs.declared.cmp.Ordering.TheVariants.{Less, Equal, Greater}
use Rattle.rls_value.specs.declared.value.Value.{Value}
use Rattle.rls_value.specs.declared.value.Value.TheVariants.{Null, Int, Text, Bool as Flag}
use Rattle.rls_value.specs.Values.{listed, rank_of}

-- the number, or 0
abbrev pub number_in : Value → ℤ
number_in (Int n) = n
number_in Null = pos 0
number_in (Text t) = pos 0
number_in (Flag b) = pos 0

-- the text, or the empty one
abbrev pub text_in : Value → List ℕ
text_in (Text t) = t
text_in Null = []
text_in (Int n) = []
text_in (Flag b) = []

-- 1 for true, else 0
abbrev pub flag_in : Value → ℕ
flag_in (Flag true) = 1
flag_in (Flag false) = 0
flag_in Null = 0
flag_in (Int n) = 0
flag_in (Text t) = 0

-- by kind, then by number, by text, by flag
abbrev pub ordered : Value → Value → Ordering
ordered = then_cmp (on rank_of nat_cmp) (then_cmp (on number_in int_cmp) (then_cmp (on text_in (slice_cmp nat_cmp)) (on flag_in nat_cmp)))

pub ordered_total : IsTotalOrder ordered
ordered_total = then_total (on_total rank_of nat_cmp_total) (then_total (on_total number_in int_cmp_total) (then_total (on_total text_in nat_list_cmp_total) (on_total flag_in nat_cmp_total)))

pub then_equal : (o : Ordering) → o ≡ ordering_then o Equal
then_equal Less = refl
then_equal Equal = refl
then_equal Greater = refl

pub listed_ordered : (x y : Value) → listed x y ≡ ordered x y
listed_ordered (Int a) (Int b) = then_equal (int_cmp a b)
listed_ordered (Text a) (Text b) = then_equal (slice_cmp nat_cmp a b)
listed_ordered (Flag true) (Flag true) = refl
listed_ordered (Flag true) (Flag false) = refl
listed_ordered (Flag false) (Flag true) = refl
listed_ordered (Flag false) (Flag false) = refl
listed_ordered Null Null = refl
listed_ordered Null (Int b) = refl
listed_ordered Null (Text b) = refl
listed_ordered Null (Flag b) = refl
listed_ordered (Int a) Null = refl
listed_ordered (Int a) (Text b) = refl
listed_ordered (Int a) (Flag b) = refl
listed_ordered (Text a) Null = refl
listed_ordered (Text a) (Int b) = refl
listed_ordered (Text a) (Flag b) = refl
listed_ordered (Flag a) Null = refl
listed_ordered (Flag a) (Int b) = refl
listed_ordered (Flag a) (Text b) = refl

-- the listing order is a total order
pub listed_total : IsTotalOrder listed
listed_total = subst IsTotalOrder (λ i. λ x y. sym (listed_ordered x y) i) ordered_total

-- so is that of rows
pub rows_total : IsTotalOrder (slice_cmp listed)
rows_total = lists_total listed_total
