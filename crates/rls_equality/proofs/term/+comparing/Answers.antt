use Rattle.std.proofs.Common.{sym}
use Rattle.std.proofs.lemmas.Bool.{true≢false}
use Rattle.rls_equality.proofs.TermLists.{none_are_not_some}
use Rattle.rls_equality.proofs.term.+comparing.Goals as goal

pub are_same_terms-returns-in-len1-up-right-2 : goal.are_same_terms-returns-in-len1-up-right-2
are_same_terms-returns-in-len1-up-right-2 t c = (
  λ never. absurd (true≢false (sym never)),
  λ same. absurd (none_are_not_some _ _ c.in_default.len_below c.in-len1-up-right-2.len_at_least (c.loop-left.invariant.0.1 same)),
)
