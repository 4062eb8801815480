-- Each part of an expression has a smaller term.
use Rattle.std.specs.Prelude.{◌+◌, ◌≤◌, max, List, [], ◌∷◌, Option, Some, None}
use Rattle.std.proofs.Common.{arith}
use denote.Param.Weighed.{most}
use Rattle.rls_expr.specs.declared.expr.Node.{Node}
use Rattle.rls_expr.specs.declared.expr.Node.TheVariants as n
use Rattle.rls_expr.specs.declared.expr.Expr.{Expr}
use Rattle.rls_expr.specs.declared.expr.Expr.TheDeep.{deep-Node, deep-Subquery}
use Rattle.rls_expr.specs.declared.expr.Expr.TheShapes.{weighed-Subquery-condition}
use Rattle.rls_expr.specs.declared.expr.Expr.TheView.{size}
use Rattle.rls_expr.specs.declared.expr.Subquery.{Subquery}
use Rattle.rls_expr.specs.Terms.{Term, term_size, terms_size, query_size, terms_of, maybe_term}
use Rattle.rls_expr.specs.ExprTerms.{term_of, query_of}

-- each part weighs no more than all
pub most_le : (ts : List Term) → most (λ t. term_size t + 1) ts ≤ terms_size (terms_of ts) + 1
most_le [] = omega arith
most_le (t ∷ ts) = omega (arith, most_le ts)

-- so does a condition, if there is one
condition_le : (condition : Option Term) → weighed-Subquery-condition.weight Expr (λ e. size e + 1) condition ≤ terms_size (maybe_term condition) + 1
condition_le None = omega arith
condition_le (Some t) = omega arith

-- the weight of a subquery is above that of its parts
query_falls : (query : Subquery) → max (deep-Subquery query) 0 ≤ query_size (query_of query)
query_falls query = omega (arith, most_le query.items.items, condition_le query.condition)

-- the weight of an expression is above that of its parts
pub falls : (node : Node) → max (deep-Node node) 0 ≤ term_size (term_of node)
falls (n.Literal v) = omega arith
falls (n.Column name) = omega arith
falls (n.Var at) = omega arith
falls n.CurrentUser = omega arith
falls (n.Compare how a b) = omega arith
falls (n.And es) = omega (arith, most_le es.items)
falls (n.Or es) = omega (arith, most_le es.items)
falls (n.Not e) = omega arith
falls (n.IsNull e) = omega arith
falls (n.IsNotNull e) = omega arith
falls (n.InList e es) = omega (arith, most_le es.items)
falls (n.NotInList e es) = omega (arith, most_le es.items)
falls (n.Exists q) = omega (arith, query_falls q.value)
falls (n.InSubquery e q) = omega (arith, query_falls q.value)
falls (n.NotInSubquery e q) = omega (arith, query_falls q.value)
falls (n.Scalar q) = omega (arith, query_falls q.value)
falls (n.Sum signs es) = omega (arith, most_le es.items)
