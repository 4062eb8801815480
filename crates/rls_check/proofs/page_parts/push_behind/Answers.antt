use Rattle.rls_check.proofs.PageTextLemmas.{behind}
use Rattle.rls_check.proofs.page_parts.push_behind.Goals as goal

-- what is written of each
pub returns : goal.returns
returns c = behind _ _ _ _ c.in_ok-push_each.ensures
