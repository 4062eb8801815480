use Rattle.rls_check.proofs.PieceLemmas.{on_empty}
use Rattle.rls_check.proofs.page.Page.head.Goals as goal

-- the page was empty
pub returns : goal.returns
returns c = on_empty _ _ _ c.new-text.ensures.items c.in_ok-push_head.ensures
