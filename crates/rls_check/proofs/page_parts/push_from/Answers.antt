use Rattle.rls_check.proofs.PieceLemmas.{onto}
use Rattle.rls_check.proofs.page_parts.push_from.Goals as goal

-- one piece behind another
pub returns : goal.returns
returns c = onto _ _ _ _ _ c.in_ok-push_tag.ensures (onto _ _ _ _ _ c.in_ok-push_repeated.ensures (onto _ _ _ _ _ c.in_ok-push_part.ensures c.in_ok-push_behind.ensures))
