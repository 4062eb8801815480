-- A step of the walk that lists tables with their columns.
use Rattle.std.specs.Prelude.{◌≡◌, refl, ℕ, zero, suc, ◌-◌, List, false, fold, if◌then◌else◌}
use Rattle.std.proofs.Common.{arith, ap, sym, ◌∙◌}
use Rattle.rls_value.specs.Names.{one_of}
use Rattle.rls_catalog.specs.rls_expr.specs.declared.columns.SelectedTable.{SelectedTable}
use Rattle.rls_recursion.specs.declared.listings.Listing.{Listing}
use Rattle.rls_recursion.specs.Listings.{list_from, put_gone_through, put_selected}

one_less : (n : ℕ) → suc n - 1 ≡ n
one_less n = omega arith

-- a table whose policies weren't gone through before
pub list_further : (n : ℕ) (leads : List ℕ → List SelectedTable) (before listed gone : Listing) (one : SelectedTable) (selected : List SelectedTable) → (n ≡ 0 → ⊥) → one_of before.done one.table ≡ false
    → listed ≡ put_selected before one → selected ≡ leads one.table → gone ≡ fold (list_from (n - 1) leads) listed selected → put_gone_through gone one.table ≡ list_from n leads before one
list_further zero leads before listed gone one selected some new first next further = absurd (some refl)
list_further (suc n) leads before listed gone one selected some new first next further =
    ap (λ all. put_gone_through all one.table) (further ∙ (λ i. fold (list_from (one_less n i) leads) (first i) (next i)))
    ∙ sym (ap (λ b. if b then put_selected before one else put_gone_through (fold (list_from n leads) (put_selected before one) (leads one.table)) one.table) new)
