use Rattle.std.proofs.Common.{rules, arith, ap, sym, ◌∙◌, ◌+◌, ◌++◌, ◌∷◌, [], drop, Some}
use Rattle.std.specs.Prelude.{codes}
use Rattle.rls_expr.specs.ExprTerms.{query_of}
use Rattle.rls_expr.specs.Terms.{More, maybe_term, terms_of}
use Rattle.rls_expr.proofs.TermSizes.{size_at}
use Rattle.rls_printing.specs.declared.buffer.Mark.TheVariants as m
use Rattle.rls_printing.specs.ExprForms.{expr, operands, further, sum, summands, list, more, query, where_, bare_if, stands_alone, enclosed, comparison, sign, selected, from_}
use Rattle.rls_printing.specs.OutputTokens.{Word, Marked}
use Rattle.rls_printing.specs.Outputs.{put, put_all, output_of}
use Rattle.rls_printing.proofs.OutputLemmas.{put_on, put_one, put_step, on_same, terms_left, rest_is}
use Rattle.rls_printing.proofs.expression.+printing.Goals as goal

pub put_operands-returns-in_ok-put_operand-in-len1-up : goal.put_operands-returns-in_ok-put_operand-in-len1-up
put_operands-returns-in_ok-put_operand-in-len1-up t c =
    on_same c.put_further.result _ _ _
    (ap (λ z. put_all (Some (output_of c.args.buffer.now)) (operands (Word c.args.word.now) z)) (terms_left c.args.parts.now 0 c.first-item.result (omega (arith, c.in-len1-up.len_at_least)) c.first-item.is))
    (put_on (Some (output_of c.args.buffer.now)) (bare_if (stands_alone c.first-item.result) (expr c.first-item.result)) (further (Word c.args.word.now) (terms_of (drop 1 c.args.parts.now))) (Some (output_of c.put_operand.new.buffer)) (Some (output_of c.put_further.new.buffer)) c.put_further.result
    c.in_ok-put_operand-in-len1-up.ensures
    (on_same c.put_further.result _ _ _ (ap (λ z. put_all (Some (output_of c.put_operand.new.buffer)) (further (Word c.args.word.now) (terms_of z))) (sym (rest_is c.args.parts.now))) c.put_further.ensures))

pub put_list-returns-in_ok-put_expr-in-len1-up : goal.put_list-returns-in_ok-put_expr-in-len1-up
put_list-returns-in_ok-put_expr-in-len1-up t c =
    on_same c.put_more.result _ _ _
    (ap (λ z. put_all (Some (output_of c.args.buffer.now)) (list z)) (terms_left c.args.list.now 0 c.first-item.result (omega (arith, c.in-len1-up.len_at_least)) c.first-item.is))
    (put_on (Some (output_of c.args.buffer.now)) (expr c.first-item.result) (more (terms_of (drop 1 c.args.list.now))) (Some (output_of c.put_expr.new.buffer)) (Some (output_of c.put_more.new.buffer)) c.put_more.result
    c.in_ok-put_expr-in-len1-up.ensures
    (on_same c.put_more.result _ _ _ (ap (λ z. put_all (Some (output_of c.put_expr.new.buffer)) (more (terms_of z))) (sym (rest_is c.args.list.now))) c.put_more.ensures))

pub put_sum-returns-in_ok-put_operand-in-len1-up : goal.put_sum-returns-in_ok-put_operand-in-len1-up
put_sum-returns-in_ok-put_operand-in-len1-up t c =
    on_same c.put_summands.result _ _ _
    (ap (λ z. put_all (Some (output_of c.args.buffer.now)) (sum c.args.signs.now z)) (terms_left c.args.parts.now 0 c.first-item.result (omega (arith, c.in-len1-up.len_at_least)) c.first-item.is))
    (put_on (Some (output_of c.args.buffer.now)) (bare_if (stands_alone c.first-item.result) (expr c.first-item.result)) (summands c.args.signs.now (terms_of (drop 1 c.args.parts.now))) (Some (output_of c.put_operand.new.buffer)) (Some (output_of c.put_summands.new.buffer)) c.put_summands.result
    c.in_ok-put_operand-in-len1-up.ensures
    (on_same c.put_summands.result _ _ _ (ap (λ z. put_all (Some (output_of c.put_operand.new.buffer)) (summands c.args.signs.now (terms_of z))) (sym (rest_is c.args.parts.now))) c.put_summands.ensures))

pub put_further-put_operand-requires : goal.put_further-put_operand-requires
put_further-put_operand-requires t c = (omega (arith, size_at _ _ _ c.loop-part-test.true c.part-item.is), search rules)

pub put_further-loop-part-preserved : goal.put_further-loop-part-preserved
put_further-loop-part-preserved t c =
    sym (ap (λ z. put_all (Some (output_of c.loop-part.buffer)) (further (Word c.args.word.now) z)) (terms_left c.args.parts.now c.loop-part.part-index c.part-item.result c.loop-part-test.true c.part-item.is)
    ∙ put_step (Some (output_of c.loop-part.buffer)) (Some (output_of c.word.new.self)) (Some (output_of c.put_operand.new.buffer)) (Word c.args.word.now) (bare_if (stands_alone c.part-item.result) (expr c.part-item.result)) (further (Word c.args.word.now) (terms_of (drop (c.loop-part.part-index + 1) c.args.parts.now))) c.in_ok-word.ensures c.in_ok-put_operand.ensures)
    ∙ c.loop-part.invariant

pub put_more-put_expr-requires : goal.put_more-put_expr-requires
put_more-put_expr-requires t c = (omega (arith, size_at _ _ _ c.loop-expr-test.true c.expr-item.is), search rules)

pub put_more-loop-expr-preserved : goal.put_more-loop-expr-preserved
put_more-loop-expr-preserved t c =
    sym (ap (λ z. put_all (Some (output_of c.loop-expr.buffer)) (more z)) (terms_left c.args.list.now c.loop-expr.expr-index c.expr-item.result c.loop-expr-test.true c.expr-item.is)
    ∙ put_step (Some (output_of c.loop-expr.buffer)) (Some (output_of c.mark.new.self)) (Some (output_of c.put_expr.new.buffer)) (Marked m.Comma) (expr c.expr-item.result) (more (terms_of (drop (c.loop-expr.expr-index + 1) c.args.list.now))) c.in_ok-mark.ensures c.in_ok-put_expr.ensures)
    ∙ c.loop-expr.invariant

pub put_summands-put_operand-requires : goal.put_summands-put_operand-requires
put_summands-put_operand-requires t c = (omega (arith, size_at _ _ _ c.loop-part-test.true c.part-item.is), search rules)

pub put_summands-loop-part-preserved : goal.put_summands-loop-part-preserved
put_summands-loop-part-preserved t c =
    let left = terms_of (drop (c.loop-part.part-index + 1) c.args.parts.now) in
    sym (ap (λ z. put_all (Some (output_of c.loop-part.buffer)) (summands c.loop-part.left.now z)) (terms_left c.args.parts.now c.loop-part.part-index c.part-item.result c.loop-part-test.true c.part-item.is)
    ∙ ap (λ z. put_all (Some (output_of c.loop-part.buffer)) (summands z (More c.part-item.result left))) c.in-Some.ensures
    ∙ put_step (Some (output_of c.loop-part.buffer)) (Some (output_of c.mark.new.self)) (Some (output_of c.put_operand.new.buffer)) (Marked (sign c.in-Some.sign)) (bare_if (stands_alone c.part-item.result) (expr c.part-item.result)) (summands c.in-Some.rest.now left)
    (ap (λ z. put (Some (output_of c.loop-part.buffer)) (Marked z)) (sym c.mark_of_sign.ensures) ∙ c.in_ok-mark.ensures) c.in_ok-put_operand.ensures)
    ∙ c.loop-part.invariant
