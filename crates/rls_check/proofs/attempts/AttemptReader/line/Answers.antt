use Rattle.rls_check.proofs.AttemptLemmas.{read_more, refused_more}
use Rattle.rls_check.proofs.attempts.AttemptReader.line.Goals as goal

pub returns-in-Ok-clause-whole : goal.returns-in-Ok-clause-whole
returns-in-Ok-clause-whole c = read_more c.args.self c.take.new.self c.args.text.now c.in-Ok.ensures

pub returns-in-Err-clause-refused : goal.returns-in-Err-clause-refused
returns-in-Err-clause-refused c = refused_more c.args.self c.args.text.now c.in-Err.refusal c.in-Err.ensures
