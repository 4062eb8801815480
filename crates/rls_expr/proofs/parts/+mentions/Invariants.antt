use Rattle.std.proofs.Common.{◌≡◌, ◌+◌, ◌*◌, drop}
use Rattle.rls_expr.specs.ExprTerms.{query_of}
use Rattle.rls_expr.specs.Terms.{maybe_term, terms_of, term_size, terms_size, query_size}
use Rattle.rls_expr.specs.Parts.{is_wanted, nesting_of, some_mentions}
use Rattle.rls_expr.proofs.parts.+mentions.Given as goal

-- there is none in the parts passed: what is left decides
abbrev pub invariant-some_mentions-loop-part : goal.invariant-some_mentions-loop-part
invariant-some_mentions-loop-part l = some_mentions (is_wanted l.wanted) (nesting_of l.table) (terms_of (drop l.part-index l.parts)) ≡ some_mentions (is_wanted l.wanted) (nesting_of l.table) (terms_of l.parts)

-- the size of what is left; a list of parts stands above its parts
abbrev pub decreases-is_mentioned : goal.decreases-is_mentioned
decreases-is_mentioned l = 2 * term_size l.expr.now

abbrev pub decreases-query_mentions : goal.decreases-query_mentions
decreases-query_mentions l = 2 * query_size (query_of l.query.now)

abbrev pub decreases-condition_mentions : goal.decreases-condition_mentions
decreases-condition_mentions l = 2 * terms_size (maybe_term l.condition.now) + 1

abbrev pub decreases-some_mentions : goal.decreases-some_mentions
decreases-some_mentions l = 2 * terms_size (terms_of l.parts.now) + 1
