use Rattle.std.proofs.Common.{◌+◌, ◌*◌}
use Rattle.rls_source.specs.rls_catalog.specs.rls_expr.specs.ExprTerms.{query_of}
use Rattle.rls_source.specs.rls_catalog.specs.rls_expr.specs.Terms.{terms_of, term_size, terms_size, query_size}
use Rattle.rls_evaluation.proofs.outer_columns.+putting.Given as goal

-- the size of what is left; a list of parts stands above its parts
abbrev pub decreases-put_of : goal.decreases-put_of
decreases-put_of l = 2 * term_size l.expr.now

abbrev pub decreases-put_of_query : goal.decreases-put_of_query
decreases-put_of_query l = 2 * query_size (query_of l.query.now)

abbrev pub decreases-put_of_parts : goal.decreases-put_of_parts
decreases-put_of_parts l = 2 * terms_size (terms_of l.parts.now) + 1
