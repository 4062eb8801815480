use Rattle.std.proofs.Common.{refl}
use Rattle.std.proofs.lemmas.Str.{is_utf8-from_IsUtf8}
use Rattle.rls_printing.specs.OutputTokens.{Text}
use Rattle.rls_printing.specs.Outputs.{text_of}
use Rattle.rls_printing.proofs.OutputLemmas.{put_word}
use Rattle.rls_printing.proofs.buffer.OutputBuffer.quoted.Goals as goal

pub returns : goal.returns
returns c = put_word (text_of c.args.self.now.text) (text_of c.space.new.text) (text_of c.write_quoted.new.text) c.args.self.now.tight (Text c.args.text.now) (is_utf8-from_IsUtf8 c.args.text.now c.utf8.text) refl
    c.in_ok-space.ensures c.in_ok-write_quoted.ensures
