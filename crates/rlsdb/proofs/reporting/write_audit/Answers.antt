use Rattle.std.proofs.Common.{ap, subst, ◌∙◌}
use Rattle.rls_check.specs.Pages.{IsPage}
use Rattle.rls_check.specs.ShownAudits.{missing_txn}
use Rattle.rlsdb.proofs.ReportLemmas.{along, unordered, without}
use Rattle.rlsdb.proofs.reporting.write_audit.Goals as goal

-- nothing is written where the numbers are no order
pub returns-in_default : goal.returns-in_default
returns-in_default g c =
    let audit = c.args.audit.now in
    let asked = c.args.asked in
    unordered asked.name.now asked.wanted.now asked.most audit.transactions audit.order (g.O.ScriptOut.taken c.args.output.now)
    (subst (IsPage asked.name.now asked.wanted.now asked.most audit.transactions audit.order) c.in_default.is c.in_ok-page.ensures)

-- nor where a transaction that is asked for isn't there
pub returns-in-Some-missing : goal.returns-in-Some-missing
returns-in-Some-missing g c =
    let audit = c.args.audit.now in
    let asked = c.args.asked in
    without asked.name.now asked.wanted.now asked.most audit.transactions audit.order c.in-Some.page c.in-Some-missing.txn (g.O.ScriptOut.taken c.args.output.now)
    (subst (IsPage asked.name.now asked.wanted.now asked.most audit.transactions audit.order) c.in-Some.is c.in_ok-page.ensures)
    (c.in-Some-missing.ensures ∙ ap (missing_txn audit.transactions) c.as_slice.ensures)

-- else the page is
pub returns : goal.returns
returns g c =
    let audit = c.args.audit.now in
    let asked = c.args.asked in
    along asked.name.now asked.wanted.now asked.most audit.transactions audit.order c.in-Some.page c.write_page.new.page c.differs.result (g.O.ScriptOut.taken c.args.output.now) (g.O.ScriptOut.taken c.write_page.new.output)
    (subst (IsPage asked.name.now asked.wanted.now asked.most audit.transactions audit.order) c.in-Some.is c.in_ok-page.ensures) (c.in-None.ensures ∙ ap (missing_txn audit.transactions) c.as_slice.ensures)
    c.in_ok-write_page-in-None.ensures.text c.write_page.ensures.found c.differs.ensures
