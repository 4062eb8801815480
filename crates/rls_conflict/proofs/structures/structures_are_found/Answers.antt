use Rattle.std.proofs.Common.{sym, ◌∙◌}
use Rattle.std.proofs.lemmas.Bool.{true≢false}
use Rattle.rls_conflict.specs.Transactions.{history_of}
use Rattle.rls_conflict.proofs.CauseLemmas.{cause_from, structure_from}
use Rattle.rls_conflict.proofs.structures.structures_are_found.Goals as goal

-- by the law of histories
pub returns-clause-exactly : goal.returns-clause-exactly
returns-clause-exactly c transactions place = c.structures_are_found.ensures.exactly (history_of transactions) place

pub returns-clause-named : goal.returns-clause-named
returns-clause-named c = cause_from

pub returns-clause-caused : goal.returns-clause-caused
returns-clause-caused c = structure_from

pub returns-clause-none : goal.returns-clause-none
returns-clause-none c transactions place is it = true≢false (sym ((c.structures_are_found.ensures.exactly (history_of transactions) place).1 it) ∙ is)
