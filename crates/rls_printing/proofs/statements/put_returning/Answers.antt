use Rattle.std.proofs.Common.{ap, Some}
use Rattle.std.specs.Prelude.{codes}
use Rattle.rls_printing.specs.OutputTokens.{Word}
use Rattle.rls_printing.specs.Outputs.{put_all, output_of}
use Rattle.rls_printing.specs.StatementForms as form
use Rattle.rls_printing.proofs.OutputLemmas.{put_one, on_same}
use Rattle.rls_printing.proofs.statements.put_returning.Goals as goal

pub returns-in_ok-word-in-Some : goal.returns-in_ok-word-in-Some
returns-in_ok-word-in-Some c =
    on_same c.put_selected_items.result _ _ _ (ap (λ z. put_all (Some (output_of c.args.buffer.now)) (form.returning z)) c.in-Some.is)
    (put_one (Some (output_of c.args.buffer.now)) (Word (codes "RETURNING")) (form.selected_items c.in-Some.selected) (Some (output_of c.word.new.self)) (Some (output_of c.put_selected_items.new.buffer)) c.put_selected_items.result
    c.in_ok-word-in-Some.ensures c.put_selected_items.ensures)
