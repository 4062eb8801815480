use Rattle.std.proofs.Common.{◌≡◌, drop, Some}
use Rattle.rls_printing.specs.Outputs.{put_all, output_of}
use Rattle.rls_printing.specs.StatementForms as form
use Rattle.rls_printing.proofs.lists.put_more.Given as goal

-- what is left leads to what the whole leads to
abbrev pub invariant-loop-item : goal.invariant-loop-item
invariant-loop-item g l = put_all (Some (output_of l.buffer)) (form.also g.P.Printed.form (drop l.item-index l.items)) ≡ put_all (Some (output_of l.fn.buffer)) (form.also g.P.Printed.form l.items)
