use Rattle.rls_check.proofs.PieceLemmas.{onto}
use Rattle.rls_check.proofs.page_statements.Sections.push_section.Goals as goal

-- one piece behind another
pub returns : goal.returns
returns c = onto _ _ _ _ _ c.in_ok-push_tag.ensures (onto _ _ _ _ _ c.in_ok-push_number.ensures (onto _ _ _ _ _ c.in_ok-push_tag-2.ensures (onto _ _ _ _ _ c.in_ok-push_number-2.ensures (onto _ _ _ _ _ c.in_ok-push_tag-3.ensures (onto _ _ _ _ _ c.in_ok-push_name.ensures (onto _ _ _ _ _ c.in_ok-push_tag-4.ensures (onto _ _ _ _ _ c.in_ok-push_commit.ensures (onto _ _ _ _ _ c.in_ok-push_tag-5.ensures c.in_ok-push_conflicts.ensures))))))))
