use Rattle.std.specs.Prelude.{ℕ, List}
use Rattle.std.proofs.Common.{ap, ◌∙◌}
use Rattle.rls_siread.specs.Locks.{Notes, notes_at}
use Rattle.rls_siread.proofs.ForgetLaws.{all_gone_case}
use Rattle.rls_siread.proofs.alone.drop_noted.Goals as goal

pub returns-in-None : goal.returns-in-None
returns-in-None c = λ txn. ap (λ (list : List (ℕ × Notes)). notes_at list txn) c.clear.ensures.empty ∙ all_gone_case c.args.last (notes_at c.args.notes.now.entries txn) (c.in-None.ensures txn)
