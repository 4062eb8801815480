use Rattle.clap.specs.Words.{app_of, found_of, rows_of}
use Rattle.rls_command_line.proofs.CommandLineLemmas.{found_is, unread}
use Rattle.rls_command_line.proofs.command_line.request_of.Goals as goal

pub returns-in_err-matches-clause-err : goal.returns-in_err-matches-clause-err
returns-in_err-matches-clause-err g c = unread c.from_residual-in_err-matches.result c.in_err-matches.field-0.0 (app_of c.in_ok-command.command) _ c.in_ok-command.ensures.app c.in_err-matches.ensures.passes c.from_residual-in_err-matches.ensures.1

pub returns-in-Some-clause-ok : goal.returns-in-Some-clause-ok
returns-in-Some-clause-ok g c = (
  c.in-Some.name.now,
  rows_of (found_of c.in-Some.found.now),
  found_is c.in_ok-matches.matches (app_of c.in_ok-command.command) _ _ _ c.in_ok-command.ensures.app c.in_ok-matches.ensures.matches c.in-Some.ensures.name c.in-Some.ensures.rows,
  c.in_ok-request_in-in-Some.ensures.ok,
)
