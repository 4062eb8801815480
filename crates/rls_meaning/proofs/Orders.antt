-- Tables that come in order stand in front of those that their policies lead to, with their columns.
use Rattle.std.specs.Prelude.{◌≡◌, refl, ℕ, List, [], ◌∷◌, Bool, true, false}
use Rattle.std.proofs.Common.{ap, sym, ◌∙◌}
use Rattle.std.proofs.lemmas.Bool.{true≢false}
use Rattle.rls_value.specs.Names.{one_of}
use Rattle.rls_expr.specs.declared.columns.SelectedTable.{SelectedTable}
use Rattle.rls_catalog.specs.Membership.{Within}
use Rattle.rls_recursion.specs.{declared.dependency.PolicyDependency.PolicyDependency, Searching.InOrder, Searching.has_subquery_of, Searching.subquery_tables_of}
use Rattle.rls_recursion.proofs.Closing.{one_first, one_further}
use Rattle.rls_meaning.specs.Needing.{Follows}
use Rattle.rls_meaning.proofs.Listing.{tables}

-- the tables that it leads to are named by its policies, if these hold a subquery
leads_within : (inner : Bool) (leads next ts : List (List ℕ)) → Within leads next → (inner ≡ true → Within next ts) → (inner ≡ false → next ≡ []) → Within leads ts
leads_within true leads next ts named order leaf name is = order refl name (named name is)
leads_within false leads next ts named order leaf name is = absurd (true≢false (sym (ap (λ all. one_of all name) (sym (leaf refl)) ∙ named name is)))

pub order_follows : (leads : List ℕ → List SelectedTable) (dependencies : List PolicyDependency) (ts : List (List ℕ)) → InOrder dependencies ts
    → ((t : List ℕ) → one_of ts t ≡ true → Within (tables (leads t)) (subquery_tables_of dependencies t)) → ((t : List ℕ) → one_of ts t ≡ true → has_subquery_of dependencies t ≡ false → subquery_tables_of dependencies t ≡ []) → Follows leads ts
order_follows leads dependencies [] order named leaf = tt
order_follows leads dependencies (t ∷ ts) order named leaf = (
  leads_within (has_subquery_of dependencies t) (tables (leads t)) (subquery_tables_of dependencies t) ts (named t (one_first t ts)) order.1.0 (leaf t (one_first t ts)),
  order_follows leads dependencies ts order.1.1 (λ u is. named u (one_further t ts u is)) (λ u is. leaf u (one_further t ts u is)),
)
