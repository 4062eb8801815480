use Rattle.rls_printing.proofs.OutputLemmas.{text_grows}
use Rattle.rls_printing.proofs.buffer.write.Goals as goal

pub returns : goal.returns
returns c = text_grows c.push_str.result c.args.text.now c.push_str.new.self c.args.more.now c.push_str.ensures.bytes
