use Rattle.rls_check.proofs.PieceLemmas.{onto}
use Rattle.rls_check.proofs.page_statements.Sections.push_statement.Goals as goal

-- one piece behind another
pub returns : goal.returns
returns c = onto _ _ _ _ _ c.in_ok-push_opening.ensures c.in_ok-push_statement.ensures
