use Rattle.std.specs.Prelude.{◌≡◌, Result, Ok, Err, IfOk}
use Rattle.std.proofs.Common.{◌∙◌}
use Rattle.rls_conflict.specs.Kept.{all_committed, AreEntries}
use Rattle.rls_conflict.specs.Promoted.{AreTold, AreEntriesOf}
use Rattle.rls_conflict.proofs.PromotedLemmas.{promoted_told, entries_stand}
use Rattle.rls_conflict.proofs.promoting.promoted_all.Goals as goal

both_ok : {T E : Type 0} (r : Result T E) (P Q R : T → Type 0) → ((x : T) → P x → Q x → R x) → IfOk r P → IfOk r Q → IfOk r R
both_ok (Ok x) P Q R goes p q = goes x p q
both_ok (Err e) P Q R goes p q = tt

pub entries_of-requires : goal.entries_of-requires
entries_of-requires c = promoted_told c.args.limit c.args.committed.now c.as_slice.result.now (c.as_slice.ensures.value ∙ c.in_ok-transactions.ensures) c.requires

pub returns-clause-entries : goal.returns-clause-entries
returns-clause-entries c =
    let told : AreTold c.args.committed.now c.as_slice.result.now = promoted_told c.args.limit c.args.committed.now c.as_slice.result.now (c.as_slice.ensures.value ∙ c.in_ok-transactions.ensures) c.requires in
    both_ok c.entries_of.result (λ promoted. all_committed promoted.items ≡ c.as_slice.result.now) (λ promoted. AreEntriesOf c.as_slice.result.now promoted.items) (λ promoted. AreEntries promoted.items)
    (λ promoted are of. entries_stand c.args.committed.now c.as_slice.result.now promoted.items told are of) c.entries_of.ensures.transactions c.entries_of.ensures.entries
