use Rattle.std.proofs.Common.{ap, sym, ◌∙◌}
use Rattle.std.proofs.lemmas.Result.{IfOk-weaker}
use Rattle.std.specs.List.{list_any}
use Rattle.rls_value.specs.Values.{is_null}
use Rattle.rls_evaluation.proofs.CachedIndexLemmas.{null_left}
use Rattle.rls_evaluation.proofs.cached_index.rows_equal.Goals as goal

pub returns-then-has_null-clause-left : goal.returns-then-has_null-clause-left
returns-then-has_null-clause-left c =
    IfOk-weaker c.new-then-has_null.result _ _
    (λ it none. λ relations user s indexed given. null_left c.args.columns.items c.args.values.now c.args.rows.now it (none ∙ c.new.ensures.items) (ap (list_any is_null) (sym c.as_slice.ensures) ∙ sym c.has_null.ensures ∙ c.if-has_null.true)) c.new-then-has_null.ensures
