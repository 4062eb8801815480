use Rattle.std.proofs.Common.{subst, sym}
use Rattle.rls_check.specs.rls_audit.specs.Audits.{AuditHolds}
use Rattle.rls_check.specs.Audited.{lines_of}
use Rattle.rlsdb.proofs.holding.texts_tell_what_holds.Goals as goal

pub returns-clause-lines : goal.returns-clause-lines
returns-clause-lines c = λ texts audit second lines is means holds. c.meant_lines_are_read.ensures.lines texts audit second lines holds is means (c.effects_are_shown.ensures.keys lines holds)

pub returns-clause-exactly : goal.returns-clause-exactly
returns-clause-exactly c = λ texts audit is. (
  (λ holds. (let shown = c.texts_show_what_holds.ensures texts audit is holds in (shown.0, lines_of audit.transactions audit.order, shown.1, holds))),
  (λ shows. subst AuditHolds (sym (c.meant_lines_are_read.ensures.lines texts audit shows.0 shows.1 shows.3 is shows.2 (c.effects_are_shown.ensures.keys shows.1 shows.3))) shows.3),
)

pub returns-clause-read : goal.returns-clause-read
returns-clause-read c = λ texts second lines holds utf8 means above. c.meant_lines_are_read.ensures.texts second texts lines holds utf8 means above
