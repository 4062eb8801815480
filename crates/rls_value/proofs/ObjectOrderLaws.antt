-- Only an object and itself are equal by the order of objects.
use Rattle.std.specs.Prelude.{◌≡◌, refl, ℕ, zero, suc, ℤ, List, true, false}
use Rattle.std.proofs.Common.{ap, sym, ◌∙◌}
use Rattle.std.proofs.lemmas.Bool.{true≢false}
use Rattle.std.specs.FinMap.{IsAntisymmetric, nat_cmp-IsAntisymmetric, int_cmp-IsAntisymmetric, slice_cmp-IsAntisymmetric}
use Rattle.std.specs.Cmp.Lexicographic.{slice_cmp}
use Rattle.std.specs.Ordering.{nat_cmp, ordering_then, is_eq, int_cmp}
use Rattle.std.specs.declared.cmp.Ordering.{Ordering}
use Rattle.std.specs.declared.cmp.Ordering.TheVariants.{Less, Equal, Greater}
use Rattle.rls_value.specs.{declared.row.RowId.RowId, declared.value.Value.Value, declared.object.Object.Object, Values.listed, Values.rank_of, Objects.kind_of, Objects.name_of, Objects.object_order}
use Rattle.rls_value.specs.{declared.value.Value.TheVariants.Null, declared.value.Value.TheVariants.Int, declared.value.Value.TheVariants.Text, declared.value.Value.TheVariants.Bool as Flag, Listing.ordered as by_parts, Listing.number_in, Listing.text_in, Listing.flag_in, Listing.listed_ordered}
use Rattle.rls_value.specs.declared.object.Object.TheVariants.{Role, Members, Table, Grants, Policies, Rows, Key, RowOf}
use Rattle.rls_value.specs.ObjectOrder.{key_in, txn_in, place_in, parts_ordered, ordered, objects_ordered}

then_first : (o p : Ordering) → ordering_then o p ≡ Equal → o ≡ Equal
then_first Less p is = is
then_first Equal p is = refl
then_first Greater p is = is

then_second : (o p : Ordering) → ordering_then o p ≡ Equal → p ≡ Equal
then_second Less p is = absurd (true≢false (sym (ap is_eq is)))
then_second Equal p is = is
then_second Greater p is = absurd (true≢false (sym (ap is_eq is)))

-- the value of that kind with that number, text or flag
abbrev value_by : ℕ → ℤ → List ℕ → ℕ → Value
value_by zero number text flag = Int number
value_by (suc zero) number text flag = Text text
value_by (suc (suc zero)) number text zero = Flag false
value_by (suc (suc zero)) number text (suc _) = Flag true
value_by (suc (suc (suc _))) number text flag = Null

value_is : (x : Value) → value_by (rank_of x) (number_in x) (text_in x) (flag_in x) ≡ x
value_is (Int n) = refl
value_is (Text t) = refl
value_is (Flag true) = refl
value_is (Flag false) = refl
value_is Null = refl

listed_same_if : (x y : Value) → by_parts x y ≡ Equal → x ≡ y
listed_same_if x y is =
    let rest = then_second (nat_cmp (rank_of x) (rank_of y)) (ordering_then (int_cmp (number_in x) (number_in y)) (ordering_then (slice_cmp nat_cmp (text_in x) (text_in y)) (nat_cmp (flag_in x) (flag_in y)))) is in
    let last = then_second (int_cmp (number_in x) (number_in y)) (ordering_then (slice_cmp nat_cmp (text_in x) (text_in y)) (nat_cmp (flag_in x) (flag_in y))) rest in
    let rank = nat_cmp-IsAntisymmetric (rank_of x) (rank_of y) (then_first (nat_cmp (rank_of x) (rank_of y)) (ordering_then (int_cmp (number_in x) (number_in y)) (ordering_then (slice_cmp nat_cmp (text_in x) (text_in y)) (nat_cmp (flag_in x) (flag_in y)))) is) in
    let number = int_cmp-IsAntisymmetric (number_in x) (number_in y) (then_first (int_cmp (number_in x) (number_in y)) (ordering_then (slice_cmp nat_cmp (text_in x) (text_in y)) (nat_cmp (flag_in x) (flag_in y))) rest) in
    let text = slice_cmp-IsAntisymmetric nat_cmp-IsAntisymmetric (text_in x) (text_in y) (then_first (slice_cmp nat_cmp (text_in x) (text_in y)) (nat_cmp (flag_in x) (flag_in y)) last) in
    let flag = nat_cmp-IsAntisymmetric (flag_in x) (flag_in y) (then_second (slice_cmp nat_cmp (text_in x) (text_in y)) (nat_cmp (flag_in x) (flag_in y)) last) in
    sym (value_is x) ∙ (λ i. value_by (rank i) (number i) (text i) (flag i)) ∙ value_is y

-- only a value and itself are equal as they are listed
pub listed_same : IsAntisymmetric listed
listed_same x y is = listed_same_if x y (sym (listed_ordered x y) ∙ is)

-- the object of that kind and name with that key or row's number
abbrev object_by : ℕ → List ℕ → List Value → RowId → Object
object_by zero name key id = Role name
object_by (suc zero) name key id = Members name
object_by (suc (suc zero)) name key id = Table name
object_by (suc (suc (suc zero))) name key id = Grants name
object_by (suc (suc (suc (suc zero)))) name key id = Policies name
object_by (suc (suc (suc (suc (suc zero))))) name key id = Rows name
object_by (suc (suc (suc (suc (suc (suc zero)))))) name key id = Key name key
object_by (suc (suc (suc (suc (suc (suc (suc _))))))) name key id = RowOf name id

object_is : (a : Object) → object_by (kind_of a) (name_of a) (key_in a) (record { txn = txn_in a; n = place_in a }) ≡ a
object_is (Role name) = refl
object_is (Members name) = refl
object_is (Table name) = refl
object_is (Grants name) = refl
object_is (Policies name) = refl
object_is (Rows name) = refl
object_is (Key name key) = refl
object_is (RowOf name id) = refl

same_if : (a b : Object) → ordered a b ≡ Equal → a ≡ b
same_if a b is =
    let front = then_first (ordering_then (nat_cmp (kind_of a) (kind_of b)) (slice_cmp nat_cmp (name_of a) (name_of b))) (parts_ordered a b) is in
    let parts = then_second (ordering_then (nat_cmp (kind_of a) (kind_of b)) (slice_cmp nat_cmp (name_of a) (name_of b))) (parts_ordered a b) is in
    let numbers = then_second (slice_cmp listed (key_in a) (key_in b)) (ordering_then (nat_cmp (txn_in a) (txn_in b)) (nat_cmp (place_in a) (place_in b))) parts in
    let kind = nat_cmp-IsAntisymmetric (kind_of a) (kind_of b) (then_first (nat_cmp (kind_of a) (kind_of b)) (slice_cmp nat_cmp (name_of a) (name_of b)) front) in
    let name = slice_cmp-IsAntisymmetric nat_cmp-IsAntisymmetric (name_of a) (name_of b) (then_second (nat_cmp (kind_of a) (kind_of b)) (slice_cmp nat_cmp (name_of a) (name_of b)) front) in
    let key = slice_cmp-IsAntisymmetric listed_same (key_in a) (key_in b) (then_first (slice_cmp listed (key_in a) (key_in b)) (ordering_then (nat_cmp (txn_in a) (txn_in b)) (nat_cmp (place_in a) (place_in b))) parts) in
    let txn = nat_cmp-IsAntisymmetric (txn_in a) (txn_in b) (then_first (nat_cmp (txn_in a) (txn_in b)) (nat_cmp (place_in a) (place_in b)) numbers) in
    let place = nat_cmp-IsAntisymmetric (place_in a) (place_in b) (then_second (nat_cmp (txn_in a) (txn_in b)) (nat_cmp (place_in a) (place_in b)) numbers) in
    sym (object_is a) ∙ (λ i. object_by (kind i) (name i) (key i) (record { txn = txn i; n = place i })) ∙ object_is b

-- only an object and itself are equal by the order
pub objects_same : IsAntisymmetric object_order
objects_same a b is = same_if a b (sym (objects_ordered a b) ∙ is)
