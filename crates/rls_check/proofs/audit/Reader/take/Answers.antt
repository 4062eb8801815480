use Rattle.std.proofs.Common.{◌+◌}
use Rattle.rls_check.proofs.FormLemmas.{given_means}
use Rattle.rls_check.proofs.audit.Reader.take.Goals as goal

pub keep-requires-clause-means : goal.keep-requires-clause-means
keep-requires-clause-means c = given_means (c.args.self.now.form.lines + 1) c.args.self.now.form c.next.new.self c.args.text.now (c.in_ok-line.line, c.in_ok-line.second) c.in_ok-line.ensures
