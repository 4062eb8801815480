use Rattle.std.specs.Prelude.{Err}
use Rattle.rls_check.proofs.WholeLemmas.{refused_end}
use Rattle.rls_check.proofs.audit.Reader.finish.Goals as goal

pub returns-in-Err-clause-refused : goal.returns-in-Err-clause-refused
returns-in-Err-clause-refused c = refused_end c.args.self (Err c.in-Err.refusal) c.in-Err.ensures
