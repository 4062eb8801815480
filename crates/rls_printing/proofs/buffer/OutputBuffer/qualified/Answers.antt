use Rattle.std.proofs.Common.{refl}
use Rattle.std.proofs.lemmas.Bool.{and_from}
use Rattle.rls_printing.specs.OutputTokens.{Qualified}
use Rattle.rls_printing.specs.Outputs.{text_of}
use Rattle.rls_printing.proofs.OutputLemmas.{put_word}
use Rattle.rls_printing.proofs.buffer.OutputBuffer.qualified.Goals as goal

pub returns : goal.returns
returns c = put_word (text_of c.args.self.now.text) (text_of c.space.new.text) (text_of c.write_qualified.new.text) c.args.self.now.tight (Qualified c.args.qualifier.now c.args.name.now) (and_from _ _ c.requires.qualifies c.requires.named) refl c.in_ok-space.ensures c.in_ok-write_qualified.ensures
