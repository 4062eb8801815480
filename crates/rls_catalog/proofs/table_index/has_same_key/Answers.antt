use Rattle.std.proofs.Common.{ap, sym, ◌∙◌}
use Rattle.std.specs.Option.{option_copied}
use Rattle.rls_catalog.specs.KeyIndex.{has_key}
use Rattle.rls_catalog.proofs.{IndexLemmas.like, KeyIndexLemmas.same_key}
use Rattle.rls_catalog.proofs.table_index.has_same_key.Goals as goal

pub returns-in-Some-Some : goal.returns-in-Some-Some
returns-in-Some-Some c =
    λ same key. ap (λ before. has_key key (option_copied before)) c.in-Some-Some.is-0
    ∙ like key c.in-Some-Some.before.now c.in-Some-Some.after (same_key c.in-Some-Some.before.now.key c.in-Some-Some.after.key (sym c.eq.ensures ∙ same))
    ∙ sym (ap (has_key key) c.in-Some-Some.is-1)
