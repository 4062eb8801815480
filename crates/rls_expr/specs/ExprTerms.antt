-- The term of an expression.
use Rattle.rls_expr.specs.declared.expr.Node.{Node}
use Rattle.rls_expr.specs.declared.expr.Node.TheVariants as n
use Rattle.rls_expr.specs.declared.expr.Subquery.{Subquery}
use Rattle.rls_expr.specs.Terms.{Term, Query, Select, terms_of, maybe_term}
use Rattle.rls_expr.specs.Terms as t

-- the query of a subquery
abbrev pub query_of : Subquery → Query
query_of query = Select query.from query.key.items query.selects (terms_of query.items.items) (maybe_term query.condition)

-- the same with each part by its value
abbrev pub term_of : Node → Term
term_of (n.Literal v) = t.Literal v
term_of (n.Column name) = t.Column name
term_of (n.Var at) = t.Var at
term_of n.CurrentUser = t.CurrentUser
term_of (n.Compare how a b) = t.Compare how a.value b.value
term_of (n.And es) = t.And (terms_of es.items)
term_of (n.Or es) = t.Or (terms_of es.items)
term_of (n.Not e) = t.Not e.value
term_of (n.IsNull e) = t.IsNull e.value
term_of (n.IsNotNull e) = t.IsNotNull e.value
term_of (n.InList e es) = t.InList e.value (terms_of es.items)
term_of (n.NotInList e es) = t.NotInList e.value (terms_of es.items)
term_of (n.Exists q) = t.Exists (query_of q.value)
term_of (n.InSubquery e q) = t.InSubquery e.value (query_of q.value)
term_of (n.NotInSubquery e q) = t.NotInSubquery e.value (query_of q.value)
term_of (n.Scalar q) = t.Scalar (query_of q.value)
term_of (n.Sum signs es) = t.Sum signs.items (terms_of es.items)
