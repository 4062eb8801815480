use Rattle.std.proofs.Common.{◌≡◌, ◌+◌, ◌-◌, ◌<◌, sym, subst, ◌∙◌, arith, length}
use Rattle.std.proofs.lemmas.List.{get_or_read}
use Rattle.rls_core.specs.declared.decisions.Span.{Span}
use Rattle.rls_core.specs.Decided.{Decided, row_in}
use Rattle.rls_core.proofs.SpanLemmas.{rows_on}
use Rattle.rls_core.proofs.decisions.put_row.Goals as goal

pub returns-then-goes_on-clause-rows : goal.returns-then-goes_on-clause-rows
returns-then-goes_on-clause-rows c =
    let spans = c.args.spans.now.items in
    let i = c.len-len.result - 1 in
    let row : Decided = record { id = c.args.id; said = c.args.said } in
    let below : i < length spans = omega (arith, c.args.spans.now.ok.0) in
    let same : c.index_mut.result.now ≡ c.index.result.now = get_or_read spans i c.index_mut.result.now below c.index_mut.ensures.value c.index.result.now ∙ sym c.index.ensures in
    rows_on spans i c.index_mut.result.now row c.requires (omega (arith, c.args.spans.now.ok.0)) c.index_mut.ensures.value
    (subst (λ (s : Span). row ≡ row_in s (s.last + 1)) (sym same) (c.goes_on.ensures.0 c.if-goes_on.true))
