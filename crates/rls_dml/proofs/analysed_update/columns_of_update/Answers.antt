use Rattle.std.proofs.Common.{◌≡◌, ◌++◌, ◌∙◌, ap, map, IfOk, subst}
use Rattle.std.specs.Option.{option_to_list}
use Rattle.rls_dml.specs.Checking.{columns_read, returning_terms}
use Rattle.rls_dml.proofs.analysed_update.columns_of_update.Goals as goal

-- what is set stands in front of the condition, and both in front of RETURNING
pub returns : goal.returns
returns c =
    subst (λ all. IfOk c.columns_read.result (λ read. read ≡ columns_read c.args.table.now.columns all ((map (λ assignment. assignment.1) c.args.analysed_update.now.assignments ++ option_to_list c.args.analysed_update.now.condition) ++ returning_terms c.args.analysed_update.now.returning))) c.returns_all-all.ensures
    (subst (λ columns. IfOk c.columns_read.result (λ read. read ≡ columns_read columns c.returns_all-all.result ((map (λ assignment. assignment.1) c.args.analysed_update.now.assignments ++ option_to_list c.args.analysed_update.now.condition) ++ returning_terms c.args.analysed_update.now.returning))) c.as_slice-2.ensures
    (subst (λ terms. IfOk c.columns_read.result (λ read. read ≡ columns_read c.as_slice-2.result.now c.returns_all-all.result terms))
    (ap (map (λ term. term.now)) c.deref.ensures.value ∙ c.in_ok-put_returning.ensures ∙ ap (λ terms. terms ++ returning_terms c.args.analysed_update.now.returning)
    (c.in_ok-put_where.ensures ∙ ap (λ terms. terms ++ option_to_list c.args.analysed_update.now.condition)
    (c.in_ok-put_values.ensures ∙ (λ i. map (λ term. term.now) (c.new-terms.ensures.items i) ++ map (λ assignment. assignment.1) (c.as_slice.ensures i)))))
    c.columns_read.ensures))
