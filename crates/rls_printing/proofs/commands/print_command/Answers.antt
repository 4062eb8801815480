use Rattle.std.proofs.Common.{string_bytes, sym, ◌∙◌}
use Rattle.rls_text.specs.Words.{words_of}
use Rattle.rls_text.specs.Writes.{some_is}
use Rattle.rls_printing.specs.Outputs.{output_of}
use Rattle.rls_printing.specs.CommandForms as form
use Rattle.rls_printing.proofs.Printed.{text_is, tokens_are}
use Rattle.rls_printing.proofs.PrintedCommands.{command_told, words_spell, command_read, command_again}
use Rattle.rls_printing.proofs.Reading.{put_text}
use Rattle.rls_printing.proofs.commands.print_command.Goals as goal

pub returns : goal.returns
returns c =
    let x = c.args.command.now in
    let words = words_of (string_bytes c.into_text.result) in
    let told = tokens_are (form.command x) (output_of c.new-buffer.result) (output_of c.put_command.new.buffer) c.into_text.result c.new-buffer.ensures c.in_ok-put_command.ensures c.into_text.ensures in
    let fit = (put_text (form.command x) (output_of c.new-buffer.result) (output_of c.put_command.new.buffer) c.in_ok-put_command.ensures).fit in
    record {
      text = text_is (form.command x) (output_of c.new-buffer.result) (output_of c.put_command.new.buffer) c.into_text.result c.new-buffer.ensures c.in_ok-put_command.ensures c.into_text.ensures;
      tokens = told;
      words = λ tokens k. some_is words tokens (sym told ∙ command_told x tokens k);
      spelled = λ tokens k. words_spell x tokens words k told;
      read = λ tokens answer k h. command_read words x answer (words_spell x tokens words k told) h;
      again = λ tokens answer k h. command_again x tokens words answer k fit told h;
    }
