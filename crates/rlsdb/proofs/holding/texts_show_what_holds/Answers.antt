use Rattle.rls_check.specs.Audited.{lines_of}
use Rattle.rlsdb.proofs.holding.texts_show_what_holds.Goals as goal

pub returns : goal.returns
returns c = λ texts audit is holds. c.lines_are_shown.ensures.texts texts audit holds is (c.effects_are_shown.ensures.audits (lines_of audit.transactions audit.order) holds)
