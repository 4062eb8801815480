use Rattle.std.specs.Prelude.{◌≡◌, ℕ, []}
use Rattle.std.proofs.Common.{ap, ◌∙◌}
use Rattle.std.proofs.lemmas.Result.{IfOk-weaker}
use Rattle.rls_siread.specs.Locks.{is_number_in, with_holders, holders_of, is_reader}
use Rattle.rls_siread.proofs.LocksLaws.{holders_read}
use Rattle.rls_siread.proofs.sireads.Sireads.holders.Goals as goal

pub returns-clause-holders : goal.returns-clause-holders
returns-clause-holders c =
    let found_are : c.as_slice.result.now ≡ holders_of c.args.self.now c.args.change.now = c.as_slice.ensures ∙ c.in_ok-found.ensures ∙ ap (with_holders c.args.self.now.holders []) c.in_ok-objects.ensures in
    IfOk-weaker c.from_slice.result (λ found. found.items ≡ c.as_slice.result.now) (λ found. found.items ≡ holders_of c.args.self.now c.args.change.now) (λ found is. is ∙ found_are) c.from_slice.ensures.items

pub returns-clause-readers : goal.returns-clause-readers
returns-clause-readers c =
    let found_are : c.as_slice.result.now ≡ holders_of c.args.self.now c.args.change.now = c.as_slice.ensures ∙ c.in_ok-found.ensures ∙ ap (with_holders c.args.self.now.holders []) c.in_ok-objects.ensures in
    IfOk-weaker c.from_slice.result (λ found. found.items ≡ c.as_slice.result.now) (λ found. (txn : ℕ) → is_number_in found.items txn ≡ is_reader c.args.self.now c.args.change.now txn)
    (λ found is. λ txn. ap (λ numbers. is_number_in numbers txn) (is ∙ found_are) ∙ holders_read c.args.self.now c.args.change.now c.stands.ensures txn) c.from_slice.ensures.items
