use Rattle.std.proofs.Common.{ap, sym, ◌∙◌, ◌++◌, ◌∷◌, [], Some}
use Rattle.std.specs.Prelude.{codes}
use Rattle.rls_printing.specs.OutputTokens.{Word}
use Rattle.rls_printing.specs.Outputs.{put, output_of}
use Rattle.rls_printing.specs.StatementForms as form
use Rattle.rls_printing.proofs.OutputLemmas.{put_on, put_one}
use Rattle.rls_printing.proofs.statements.put_alter_table.Goals as goal

pub returns : goal.returns
returns c =
    put_one (Some (output_of c.args.buffer.now)) (Word (codes "ALTER")) (Word (codes "TABLE") ∷ (Word c.args.statement.now.table ∷ ((form.row_change c.args.statement.now.change) ++ (Word (codes "ROW") ∷ (Word (codes "LEVEL") ∷ (Word (codes "SECURITY") ∷ [])))))) (Some (output_of c.word.new.self)) (Some (output_of c.word-6.new.self)) c.word-6.result
    c.in_ok-word.ensures (put_one (Some (output_of c.word.new.self)) (Word (codes "TABLE")) (Word c.args.statement.now.table ∷ ((form.row_change c.args.statement.now.change) ++ (Word (codes "ROW") ∷ (Word (codes "LEVEL") ∷ (Word (codes "SECURITY") ∷ []))))) (Some (output_of c.word-2.new.self)) (Some (output_of c.word-6.new.self)) c.word-6.result
    c.in_ok-word-2.ensures (put_one (Some (output_of c.word-2.new.self)) (Word c.args.statement.now.table) ((form.row_change c.args.statement.now.change) ++ (Word (codes "ROW") ∷ (Word (codes "LEVEL") ∷ (Word (codes "SECURITY") ∷ [])))) (Some (output_of c.word-3.new.self)) (Some (output_of c.word-6.new.self)) c.word-6.result
    (ap (λ z. put (Some (output_of c.word-2.new.self)) z) (ap Word (sym c.as_str.ensures.text)) ∙ c.in_ok-word-3.ensures) (put_on (Some (output_of c.word-3.new.self)) (form.row_change c.args.statement.now.change) (Word (codes "ROW") ∷ (Word (codes "LEVEL") ∷ (Word (codes "SECURITY") ∷ []))) (Some (output_of c.put_row_change.new.buffer)) (Some (output_of c.word-6.new.self)) c.word-6.result
    c.in_ok-put_row_change.ensures (put_one (Some (output_of c.put_row_change.new.buffer)) (Word (codes "ROW")) (Word (codes "LEVEL") ∷ (Word (codes "SECURITY") ∷ [])) (Some (output_of c.word-4.new.self)) (Some (output_of c.word-6.new.self)) c.word-6.result
    c.in_ok-word-4.ensures (put_one (Some (output_of c.word-4.new.self)) (Word (codes "LEVEL")) (Word (codes "SECURITY") ∷ []) (Some (output_of c.word-5.new.self)) (Some (output_of c.word-6.new.self)) c.word-6.result
    c.in_ok-word-5.ensures c.word-6.ensures)))))
