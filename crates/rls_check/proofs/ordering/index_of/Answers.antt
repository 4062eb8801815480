use Rattle.std.specs.Prelude.{◌≡◌, ℕ, true, false, cond, Some, is_some}
use Rattle.std.specs.Ordering.{nat_cmp}
use Rattle.std.specs.BTreeMap.{get, is_at}
use Rattle.std.proofs.Common.{sym, ◌∙◌, subst}
use Rattle.rls_check.proofs.PlacingLemmas.{doubled, more_at}
use Rattle.rls_check.proofs.ordering.index_of.Goals as goal

pub returns-then-contains_key-clause-none : goal.returns-then-contains_key-clause-none
returns-then-contains_key-clause-none c =
    doubled c.args.transactions.now c.loop-place.place c.loop-place.index c.index-transactions-place.result c.loop-place-test.true c.index-transactions-place.is c.loop-place.invariant
    (subst (λ (n : ℕ). is_some (get nat_cmp c.loop-place.index n) ≡ true) c.txn-txn.ensures (sym c.contains_key.ensures ∙ c.if-contains_key.true))

pub loop-place-preserved : goal.loop-place-preserved
loop-place-preserved c =
    more_at c.args.transactions.now c.loop-place.place c.loop-place.index c.insert.new.self c.index-transactions-place.result c.loop-place-test.true c.index-transactions-place.is c.loop-place.invariant
    (subst (λ (n : ℕ). is_some (get nat_cmp c.loop-place.index n) ≡ false) c.txn-txn.ensures (sym c.contains_key.ensures ∙ c.if-contains_key.false))
    (subst (λ (n : ℕ). (q : ℕ) → get nat_cmp c.insert.new.self q ≡ cond (is_at (nat_cmp n) q) (Some c.loop-place.place) (get nat_cmp c.loop-place.index q)) c.txn-txn.ensures c.in_ok-insert.ensures.updates.0)
