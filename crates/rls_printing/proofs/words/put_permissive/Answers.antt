use Rattle.std.proofs.Common.{ap, Some}
use Rattle.rls_printing.specs.Outputs.{put, output_of}
use Rattle.rls_printing.specs.StatementForms as form
use Rattle.rls_printing.proofs.OutputLemmas.{on_same}
use Rattle.rls_printing.proofs.words.put_permissive.Goals as goal

pub returns-in-false : goal.returns-in-false
returns-in-false c = on_same c.word-in-false.result _ _ _ (ap (λ z. put (Some (output_of c.args.buffer.now)) (form.permissive z)) c.in-false.is) c.word-in-false.ensures
