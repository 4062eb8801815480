use Rattle.rls_check.proofs.PieceLemmas.{onto}
use Rattle.rls_check.proofs.walking.Turn.push_named.Goals as goal

-- one piece behind another
pub returns : goal.returns
returns c = onto _ _ _ _ _ c.in_ok-push_name.ensures (onto _ _ _ _ _ c.in_ok-push_tag.ensures (onto _ _ _ _ _ c.in_ok-push_tables.ensures c.in_ok-push_denied.ensures))
