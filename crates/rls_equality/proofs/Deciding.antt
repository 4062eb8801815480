-- Tests that say which values are the same.
use Rattle.std.proofs.Common.{◌≡◌, ℕ, List, refl, subst}
use Rattle.std.specs.Bool.{Decides}
use Rattle.std.proofs.lemmas.Slice.Eq.{bytes_eq-Decides}
use Rattle.std.specs.Str.{bytes_eq}
use Rattle.std.specs.Cmp.Lexicographic.{slice_cmp}
use Rattle.std.specs.Ordering.{ordering_reverse}
use Rattle.std.specs.declared.cmp.Ordering.{Ordering}
use Rattle.std.specs.declared.cmp.Ordering.TheVariants.{Less, Equal, Greater}
use Rattle.rls_catalog.specs.rls_value.specs.declared.value.Value.{Value}
use Rattle.rls_catalog.specs.rls_value.specs.Values.{listed}
use Rattle.rls_catalog.specs.rls_value.specs.Listing.{listed_total, rows_total}
use Rattle.rls_catalog.specs.rls_value.proofs.ListingLaws.{values_same, rows_same}

-- names are the same where their bytes are
pub names_decide : (a b : List ℕ) → Decides (bytes_eq a b) (a ≡ b)
names_decide = bytes_eq-Decides

-- what is its own reverse is a tie
own_reverse : (o : Ordering) → o ≡ ordering_reverse o → o ≡ Equal
own_reverse Less is = absurd (cc is)
own_reverse Equal is = refl
own_reverse Greater is = absurd (cc is)

-- values are the same where they tie
pub values_decide : (a b : Value) → (listed a b ≡ Equal → a ≡ b) × (a ≡ b → listed a b ≡ Equal)
values_decide a b = (values_same a b, λ same. subst (λ x. listed a x ≡ Equal) same (own_reverse (listed a a) (listed_total.antisymm a a)))

-- rows are the same where they tie
pub rows_decide : (a b : List Value) → (slice_cmp listed a b ≡ Equal → a ≡ b) × (a ≡ b → slice_cmp listed a b ≡ Equal)
rows_decide a b = (rows_same a b, λ same. subst (λ x. slice_cmp listed a x ≡ Equal) same (own_reverse (slice_cmp listed a a) (rows_total.antisymm a a)))
