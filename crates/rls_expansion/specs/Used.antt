-- The tables of the subqueries in the expressions that policies are asked for.
use Rattle.std.specs.Prelude.{ℕ, List, [], ◌∷◌, ◌++◌, Option, Some, None, Bool, true, false, ◌&&◌, ◌||◌, if◌then◌else◌, is_some}
use Rattle.std.specs.List.{list_any}
use Rattle.rls_value.specs.{declared.verb.Kind.Kind, declared.verb.PolicyKind.PolicyKind}
use Rattle.rls_value.specs.declared.verb.Kind.TheVariants as k
use Rattle.rls_value.specs.declared.verb.PolicyKind.TheVariants as pk
use Rattle.rls_guard.specs.rls_catalog.specs.rls_expr.specs.{declared.policy.Policy.Policy, Parts.has_query, Terms.Term}
pub use Rattle.rls_guard.specs.rls_catalog.specs.rls_expr.specs.Naming.{entered, tables_of}
use Rattle.rls_recursion.specs.rls_catalog.specs.{declared.verdict.Side.Side, Privileges.includes, Verdict.is_for_kind}
use Rattle.rls_recursion.specs.rls_catalog.specs.declared.verdict.Side.TheVariants as side

-- ---- the tables in an expression

-- those of an expression that may be left out
abbrev pub tables_if : Option Term → List (List ℕ)
tables_if (Some term) = tables_of term
tables_if None = []

-- those of each of the expressions
abbrev pub all_tables : List Term → List (List ℕ)
all_tables [] = []
all_tables (term ∷ terms) = tables_of term ++ all_tables terms

-- ---- which expression a policy is asked for

-- USING stands in for WITH CHECK: that is absent, and the policy is FOR ALL or UPDATE
abbrev pub using_stands_in : PolicyKind → Option Term → Bool
using_stands_in kind (Some check) = false
using_stands_in pk.All None = true
using_stands_in (pk.Only k.Update) None = true
using_stands_in (pk.Only _) None = false

-- the policy is asked for USING: for SELECT, DELETE and the old row of UPDATE, and else where it stands in for WITH CHECK
abbrev pub takes_using : Policy → Kind → Side → Bool
takes_using policy k.Select which = true
takes_using policy k.Insert which = using_stands_in policy.kind policy.check
takes_using policy k.Update side.Old = true
takes_using policy k.Update side.New = using_stands_in policy.kind policy.check
takes_using policy k.Delete which = true

-- the policy is asked for WITH CHECK: for INSERT and the new row of UPDATE, where it has one
abbrev pub takes_check : Policy → Kind → Side → Bool
takes_check policy k.Select which = false
takes_check policy k.Insert which = is_some policy.check
takes_check policy k.Update side.Old = false
takes_check policy k.Update side.New = is_some policy.check
takes_check policy k.Delete which = false

-- the expression that is taken
abbrev pub expression_by : Policy → Bool → Bool → Option Term
expression_by policy using check = if using then policy.using else (if check then policy.check else None)

-- ---- the tables in what policies are asked for

-- a type of command, and the row that is judged
abbrev pub Ask : Type 0
Ask = Kind × Side

-- the policy is for the type of command and asked for USING
abbrev pub is_for_using : Policy → Ask → Bool
is_for_using policy ask = is_for_kind policy.kind ask.0 && takes_using policy ask.0 ask.1

-- the policy is for the type of command and asked for WITH CHECK
abbrev pub is_for_check : Policy → Ask → Bool
is_for_check policy ask = is_for_kind policy.kind ask.0 && takes_check policy ask.0 ask.1

-- the tables in an expression, where it is asked for
abbrev pub tables_where : Bool → Option Term → List (List ℕ)
tables_where asked term = if asked then tables_if term else []

-- those in USING, then those in WITH CHECK, each where some ask is for it
abbrev pub tables_asked : List Ask → Policy → List (List ℕ)
tables_asked asks policy = tables_where (list_any (is_for_using policy) asks) policy.using ++ tables_where (list_any (is_for_check policy) asks) policy.check

-- those of a policy that applies to the role
abbrev pub tables_by : Bool → List (List ℕ) → List Ask → Policy → List (List ℕ)
tables_by superuser names asks policy = if list_any (includes superuser names) policy.to then tables_asked asks policy else []

-- those of each policy, in their order
abbrev pub tables_used : Bool → List (List ℕ) → List Ask → List Policy → List (List ℕ)
tables_used superuser names asks [] = []
tables_used superuser names asks (policy ∷ policies) = tables_by superuser names asks policy ++ tables_used superuser names asks policies

-- ---- which policies hold a subquery

-- a subquery stands in an expression that may be left out
abbrev pub has_query_if : Option Term → Bool
has_query_if (Some term) = has_query term
has_query_if None = false

-- a subquery stands in USING or WITH CHECK
abbrev pub holds_subquery : Policy → Bool
holds_subquery policy = has_query_if policy.using || has_query_if policy.check
