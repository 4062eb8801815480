use Rattle.rls_check.proofs.WholeLemmas.{refused_conversion_end}
use Rattle.rls_check.proofs.converting.Converter.finish.Goals as goal

pub returns-clause-refused : goal.returns-clause-refused
returns-clause-refused c = refused_conversion_end c.args.self c.finish.result c.finish.ensures
