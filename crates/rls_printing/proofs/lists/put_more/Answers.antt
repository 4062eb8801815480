use Rattle.std.proofs.Common.{ap, sym, ◌∙◌, ◌+◌, drop, Some}
use Rattle.rls_printing.specs.declared.buffer.Mark.TheVariants as m
use Rattle.rls_printing.specs.OutputTokens.{Marked}
use Rattle.rls_printing.specs.Outputs.{put_all, output_of}
use Rattle.rls_printing.specs.StatementForms as form
use Rattle.rls_printing.proofs.OutputLemmas.{put_step, items_left}
use Rattle.rls_printing.proofs.lists.put_more.Goals as goal

pub loop-item-preserved : goal.loop-item-preserved
loop-item-preserved g c =
    sym (ap (λ z. put_all (Some (output_of c.loop-item.buffer)) (form.also g.P.Printed.form z)) (items_left c.args.items.now c.loop-item.item-index c.item-item.result c.loop-item-test.true c.item-item.is)
    ∙ put_step (Some (output_of c.loop-item.buffer)) (Some (output_of c.mark.new.self)) (Some (output_of c.put.new.buffer)) (Marked m.Comma) (g.P.Printed.form c.item-item.result) (form.also g.P.Printed.form (drop (c.loop-item.item-index + 1) c.args.items.now)) c.in_ok-mark.ensures c.in_ok-put.ensures)
    ∙ c.loop-item.invariant
