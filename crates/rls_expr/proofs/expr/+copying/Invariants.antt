use Rattle.std.proofs.Common.{◌≡◌, ◌+◌, ◌*◌, take}
use Rattle.rls_expr.specs.ExprTerms.{query_of}
use Rattle.rls_expr.specs.Terms.{maybe_term, terms_of, term_size, terms_size, query_size}
use Rattle.rls_expr.proofs.expr.+copying.Given as goal

-- the first parts are copied
abbrev pub invariant-copy_parts-loop-part : goal.invariant-copy_parts-loop-part
invariant-copy_parts-loop-part l = l.copies.items ≡ take l.part-index l.parts

-- the size of what is left to copy; a list of parts stands above its parts
abbrev pub decreases-Expr::copy : goal.decreases-Expr::copy
decreases-Expr::copy l = 2 * term_size l.self.now

abbrev pub decreases-copy_boxed : goal.decreases-copy_boxed
decreases-copy_boxed l = 2 * term_size l.expr.now + 1

abbrev pub decreases-copy_parts : goal.decreases-copy_parts
decreases-copy_parts l = 2 * terms_size (terms_of l.parts.now) + 1

abbrev pub decreases-copy_query : goal.decreases-copy_query
decreases-copy_query l = 2 * query_size (query_of l.query.now)

abbrev pub decreases-copy_condition : goal.decreases-copy_condition
decreases-copy_condition l = 2 * terms_size (maybe_term l.condition.now) + 1
