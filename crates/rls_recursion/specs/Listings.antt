-- Which columns SELECT is asked for: the table of each subquery that a statement looks at, those of policies too, with the
-- columns that the subquery mentions of it, in the order in which they are met.
use Rattle.std.specs.Prelude.{ℕ, zero, suc, List, [], ◌∷◌, ◌++◌, fold, length, if◌then◌else◌}
use Rattle.std.specs.Str.{bytes_eq}
use Rattle.rls_value.specs.Names.{one_of}
use Rattle.rls_catalog.specs.rls_expr.specs.declared.columns.SelectedTable.{SelectedTable}
use Rattle.rls_recursion.specs.declared.listings.Listing.{Listing}
use Rattle.rls_recursion.specs.declared.listings.PolicySubqueries.{PolicySubqueries}

-- the tables that the policies of a table lead to
abbrev pub leads_of : List PolicySubqueries → List ℕ → List SelectedTable
leads_of [] table = []
leads_of (one ∷ others) table = if bytes_eq one.table table then one.selected else leads_of others table

-- nothing is listed yet
abbrev pub no_listing : Listing
no_listing = record { done = []; listed = [] }

-- the table is listed with its columns, behind the others
abbrev pub put_selected : Listing → SelectedTable → Listing
put_selected listing one = record { done = listing.done; listed = listing.listed ++ one ∷ [] }

-- its policies were gone through
abbrev pub put_gone_through : Listing → List ℕ → Listing
put_gone_through listing table = record { done = table ∷ listing.done; listed = listing.listed }

-- a table with its columns is listed, and behind it what its policies look at, unless these were gone through before; so many
-- policies deep
abbrev pub list_from : ℕ → (List ℕ → List SelectedTable) → Listing → SelectedTable → Listing
list_from zero leads listing one = listing
list_from (suc n) leads listing one =
    if one_of listing.done one.table then put_selected listing one
    else put_gone_through (fold (list_from n leads) (put_selected listing one) (leads one.table)) one.table

-- those of the statement's subqueries, and then what is listed from its own policies and from its subqueries
abbrev pub listed : List PolicySubqueries → List SelectedTable → List SelectedTable → List SelectedTable
listed policies own queries =
    queries ++ (fold (list_from (length policies) (leads_of policies)) (fold (list_from (length policies) (leads_of policies)) no_listing own) queries).listed
