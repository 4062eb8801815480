use Rattle.std.proofs.Common.{refl, ap, ◌∙◌, []}
use Rattle.rls_siread.specs.Locks.{all_arrived}
use Rattle.rls_siread.proofs.CopyLaws.{all_arrived_distinct}
use Rattle.rls_siread.proofs.holders.copy_of.Goals as goal

pub returns : goal.returns
returns c =
    c.in_ok-add_all.ensures
    ∙ ap (λ first. all_arrived first c.as_slice.result.now) c.new-copied.ensures.nobody
    ∙ all_arrived_distinct [] c.as_slice.result.now (λ y there. refl) c.as_slice.ensures.distinct
    ∙ c.as_slice.ensures.txns
