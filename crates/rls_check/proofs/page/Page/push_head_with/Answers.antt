use Rattle.rls_check.proofs.PieceLemmas.{onto}
use Rattle.rls_check.proofs.page.Page.push_head_with.Goals as goal

-- one piece behind another
pub returns : goal.returns
returns c = onto _ _ _ _ _ c.in_ok-push_begin.ensures (onto _ _ _ _ _ c.in_ok-push_facts.ensures (onto _ _ _ _ _ c.in_ok-push_finding.ensures (onto _ _ _ _ _ c.in_ok-push_key.ensures (onto _ _ _ _ _ c.in_ok-push_plot.ensures c.in_ok-push_filters.ensures))))
