use Rattle.std.proofs.Common.{arith, ap, sym, drop, Some}
use Rattle.rls_printing.specs.Outputs.{put_all, output_of}
use Rattle.rls_printing.specs.StatementForms as form
use Rattle.rls_printing.proofs.OutputLemmas.{put_on, on_same, items_left, rest_is}
use Rattle.rls_printing.proofs.lists.put_listed.Goals as goal

pub returns-in_ok-put-in-len1-up : goal.returns-in_ok-put-in-len1-up
returns-in_ok-put-in-len1-up g c =
    on_same c.put_more.result _ _ _
    (ap (λ z. put_all (Some (output_of c.args.buffer.now)) (form.listed g.P.Printed.form z)) (items_left c.args.items.now 0 c.first-item.result (omega (arith, c.in-len1-up.len_at_least)) c.first-item.is))
    (put_on (Some (output_of c.args.buffer.now)) (g.P.Printed.form c.first-item.result) (form.also g.P.Printed.form (drop 1 c.args.items.now)) (Some (output_of c.put.new.buffer)) (Some (output_of c.put_more.new.buffer)) c.put_more.result
    c.in_ok-put-in-len1-up.ensures
    (on_same c.put_more.result _ _ _ (ap (λ z. put_all (Some (output_of c.put.new.buffer)) (form.also g.P.Printed.form z)) (sym (rest_is c.args.items.now))) c.put_more.ensures))
