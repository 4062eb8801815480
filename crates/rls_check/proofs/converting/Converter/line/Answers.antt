use Rattle.std.specs.Prelude.{Ok, Err}
use Rattle.rls_check.proofs.WholeLemmas.{converted_more, refused_conversion}
use Rattle.rls_check.proofs.converting.Converter.line.Goals as goal

pub returns-in-Ok-clause-whole : goal.returns-in-Ok-clause-whole
returns-in-Ok-clause-whole c = converted_more c.args.self c.args.text.now (Ok (c.take.new.self, c.in-Ok.written)) c.in-Ok.ensures

pub returns-in-Err-clause-refused : goal.returns-in-Err-clause-refused
returns-in-Err-clause-refused c = refused_conversion c.args.self c.args.text.now (Err c.in-Err.refusal) c.in-Err.ensures
