use Rattle.std.proofs.Common.{refl}
use Rattle.rls_printing.specs.OutputTokens.{Word}
use Rattle.rls_printing.specs.Outputs.{text_of}
use Rattle.rls_printing.proofs.OutputLemmas.{put_word}
use Rattle.rls_printing.proofs.buffer.OutputBuffer.word.Goals as goal

pub returns : goal.returns
returns c = put_word (text_of c.args.self.now.text) (text_of c.space.new.text) (text_of c.write.new.text) c.args.self.now.tight (Word c.args.word.now) c.requires refl c.in_ok-space.ensures c.in_ok-write.ensures
