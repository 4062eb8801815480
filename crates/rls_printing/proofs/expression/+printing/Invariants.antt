use Rattle.std.proofs.Common.{◌≡◌, ◌+◌, ◌*◌, drop, Some}
use Rattle.rls_expr.specs.ExprTerms.{query_of}
use Rattle.rls_expr.specs.Terms.{maybe_term, terms_of, term_size, terms_size, query_size}
use Rattle.rls_printing.specs.ExprForms as form
use Rattle.rls_printing.specs.OutputTokens.{Word}
use Rattle.rls_printing.specs.Outputs.{put_all, output_of}
use Rattle.rls_printing.proofs.expression.+printing.Given as goal

-- the size of what is printed; what is made of parts stands above them
abbrev pub decreases-put_expr : goal.decreases-put_expr
decreases-put_expr l = 8 * term_size l.expr.now

abbrev pub decreases-put_operand : goal.decreases-put_operand
decreases-put_operand l = 8 * term_size l.operand.now + 2

abbrev pub decreases-put_enclosed : goal.decreases-put_enclosed
decreases-put_enclosed l = 8 * term_size l.expr.now + 1

abbrev pub decreases-put_comparison : goal.decreases-put_comparison
decreases-put_comparison l = 8 * (term_size l.left.now + term_size l.right.now) + 3

abbrev pub decreases-put_operands : goal.decreases-put_operands
decreases-put_operands l = 8 * terms_size (terms_of l.parts.now) + 4

abbrev pub decreases-put_further : goal.decreases-put_further
decreases-put_further l = 8 * terms_size (terms_of l.parts.now) + 3

abbrev pub decreases-put_negation : goal.decreases-put_negation
decreases-put_negation l = 8 * term_size l.operand.now + 3

abbrev pub decreases-put_null_test : goal.decreases-put_null_test
decreases-put_null_test l = 8 * term_size l.operand.now + 3

abbrev pub decreases-put_not_null_test : goal.decreases-put_not_null_test
decreases-put_not_null_test l = 8 * term_size l.operand.now + 3

abbrev pub decreases-put_among : goal.decreases-put_among
decreases-put_among l = 8 * (term_size l.left.now + terms_size (terms_of l.list.now)) + 5

abbrev pub decreases-put_not_among : goal.decreases-put_not_among
decreases-put_not_among l = 8 * (term_size l.left.now + terms_size (terms_of l.list.now)) + 5

abbrev pub decreases-put_exists : goal.decreases-put_exists
decreases-put_exists l = 8 * query_size (query_of l.query.now) + 2

abbrev pub decreases-put_within : goal.decreases-put_within
decreases-put_within l = 8 * (term_size l.left.now + query_size (query_of l.query.now)) + 5

abbrev pub decreases-put_not_within : goal.decreases-put_not_within
decreases-put_not_within l = 8 * (term_size l.left.now + query_size (query_of l.query.now)) + 5

abbrev pub decreases-put_sum : goal.decreases-put_sum
decreases-put_sum l = 8 * terms_size (terms_of l.parts.now) + 4

abbrev pub decreases-put_summands : goal.decreases-put_summands
decreases-put_summands l = 8 * terms_size (terms_of l.parts.now) + 3

abbrev pub decreases-put_tuple : goal.decreases-put_tuple
decreases-put_tuple l = 8 * terms_size (terms_of l.list.now) + 4

abbrev pub decreases-put_list : goal.decreases-put_list
decreases-put_list l = 8 * terms_size (terms_of l.list.now) + 3

abbrev pub decreases-put_more : goal.decreases-put_more
decreases-put_more l = 8 * terms_size (terms_of l.list.now) + 2

abbrev pub decreases-put_enclosed_query : goal.decreases-put_enclosed_query
decreases-put_enclosed_query l = 8 * query_size (query_of l.query.now) + 1

abbrev pub decreases-put_query : goal.decreases-put_query
decreases-put_query l = 8 * query_size (query_of l.query.now)

abbrev pub decreases-put_selected : goal.decreases-put_selected
decreases-put_selected l = 8 * terms_size (terms_of l.items.now) + 4

abbrev pub decreases-put_where : goal.decreases-put_where
decreases-put_where l = 8 * terms_size (maybe_term l.condition.now) + 1

-- what is left leads to what the whole leads to
abbrev pub invariant-put_further-loop-part : goal.invariant-put_further-loop-part
invariant-put_further-loop-part l = put_all (Some (output_of l.buffer)) (form.further (Word l.word) (terms_of (drop l.part-index l.parts))) ≡ put_all (Some (output_of l.fn.buffer)) (form.further (Word l.word) (terms_of l.parts))

abbrev pub invariant-put_summands-loop-part : goal.invariant-put_summands-loop-part
invariant-put_summands-loop-part l = put_all (Some (output_of l.buffer)) (form.summands l.left (terms_of (drop l.part-index l.parts))) ≡ put_all (Some (output_of l.fn.buffer)) (form.summands l.signs (terms_of l.parts))

abbrev pub invariant-put_more-loop-expr : goal.invariant-put_more-loop-expr
invariant-put_more-loop-expr l = put_all (Some (output_of l.buffer)) (form.more (terms_of (drop l.expr-index l.list))) ≡ put_all (Some (output_of l.fn.buffer)) (form.more (terms_of l.list))
