use Rattle.std.proofs.Common.{◌≡◌, List, string_bytes}
use Rattle.rls_text.specs.Printing.{IsWritten}
use Rattle.rls_text.specs.Words.{words_of}
use Rattle.rls_text.specs.declared.token.Token.{Token}
use Rattle.rls_printing.specs.Outputs.{output_of}
use Rattle.rls_printing.specs.StatementForms as form
use Rattle.rls_printing.proofs.Printed.{text_is, words_are, tokens_are, spelled_again, spelled_read, read_again}
use Rattle.rls_printing.proofs.Reading.{put_text}
use Rattle.rls_printing.proofs.Stating.{written_told}
use Rattle.rls_printing.proofs.printing.print.Goals as goal

pub returns : goal.returns
returns c =
    let x = c.args.statement.now in
    let words = words_of (string_bytes c.into_text.result) in
    let are : (ts : List Token) → IsWritten ts x → words ≡ ts = λ ts k. words_are (form.statement x) (output_of c.new-buffer.result) (output_of c.put_statement.new.buffer) c.into_text.result ts c.new-buffer.ensures c.in_ok-put_statement.ensures c.into_text.ensures (written_told x ts k) in
    let told = tokens_are (form.statement x) (output_of c.new-buffer.result) (output_of c.put_statement.new.buffer) c.into_text.result c.new-buffer.ensures c.in_ok-put_statement.ensures c.into_text.ensures in
    let fit = (put_text (form.statement x) (output_of c.new-buffer.result) (output_of c.put_statement.new.buffer) c.in_ok-put_statement.ensures).fit in
    record {
      text = text_is (form.statement x) (output_of c.new-buffer.result) (output_of c.put_statement.new.buffer) c.into_text.result c.new-buffer.ensures c.in_ok-put_statement.ensures c.into_text.ensures;
      tokens = told;
      words = are;
      spelled = λ tokens k. spelled_again x words tokens are k;
      read = λ tokens answer k h. spelled_read words x answer (spelled_again x words tokens are k) h;
      again = λ tokens answer k h. read_again x tokens words answer k (spelled_again x words tokens are k.spelled) fit told h;
    }
