use Rattle.std.proofs.Common.{rules, tests}
use Rattle.std.proofs.lemmas.Iterator.{YieldsList-from_slice}
use Rattle.std.proofs.lemmas.Iterator.Consumers.{YieldsList-from_filter, count_from_yields_List}
use Rattle.rls_check.specs.Tallies.{is_shown_row}
use Rattle.rls_check.proofs.tallies.count_shown.Goals as goal

-- those that pass are counted
pub returns : goal.returns
returns c = count_from_yields_List c.filter.result _ c.count.ensures.ran (YieldsList-from_filter _ is_shown_row (YieldsList-from_slice c.args.rows.now (cc)) c.filter.ensures.closure (λ x b q k. search (rules, tests)))
