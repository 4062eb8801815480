use Rattle.std.proofs.Common.{ap, ◌∙◌, cond, ◌++◌, ◌∷◌, []}
use Rattle.std.specs.Prelude.{unwrap_or}
use Rattle.std.specs.{BTreeMap.is_at, Cmp.Lexicographic.slice_cmp, Map.lookup}
use Rattle.rls_value.specs.Values.{listed}
use Rattle.rls_evaluation.specs.CachedIndexes.{rows_under}
use Rattle.rls_evaluation.proofs.CachedIndexLemmas.{row_put, some_if}
use Rattle.rls_evaluation.proofs.cached_index.put_row.Goals as goal

pub returns-in_ok-insert-in-Ok : goal.returns-in_ok-insert-in-Ok
returns-in_ok-insert-in-Ok c = λ values.
    row_put c.in_ok-values.values c.in-Ok.row c.args.by_values.now.entries c.taken-rows.new.by_values.entries c.insert.new.self.entries c.push.new.self
    (c.in_ok-push-in-Ok.ensures.ok ∙ ap (λ rows. rows ++ c.in-Ok.row ∷ []) c.taken-rows.ensures.rows) c.taken-rows.ensures.others
    (λ other. ap (λ there. unwrap_or there []) (c.in_ok-insert-in-Ok.ensures.updates.0 other)
    ∙ some_if (is_at (slice_cmp listed c.in_ok-values.values) other) c.push.new.self (lookup (is_at (slice_cmp listed other)) c.taken-rows.new.by_values.entries)) values
    ∙ (λ i. rows_under c.args.by_values.now.entries values ++ cond (is_at (slice_cmp listed values) (c.in_ok-values.ensures i)) (c.in-Ok.ensures i ∷ []) [])
