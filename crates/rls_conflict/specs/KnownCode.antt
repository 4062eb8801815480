-- The code of what is known of transactions, by which proofs tell it apart.
use Rattle.std.specs.Prelude.{ℕ, List, refl}
use Rattle.std.specs.Coded.{Coded, code_by, coded×, coded_list, coded_ℕ}
use Rattle.rls_value.specs.declared.object.Object.{Object}
use Rattle.rls_value.specs.contracts.object.Object as object
use Rattle.rls_catalog.specs.declared.change.Change.{Change}
use Rattle.rls_catalog.specs.contracts.change.Change as change
use Rattle.rls_conflict.specs.Transactions.{Transaction}
use Rattle.rls_conflict.specs.Known.{Known}

-- the code of a transaction
abbrev pub transaction_code : Coded Transaction
transaction_code =
    code_by (ℕ × (ℕ × (List Object × List Change))) (coded× coded_ℕ (coded× coded_ℕ (coded× (coded_list object.the_row.coded) (coded_list change.the_row.coded))))
    (λ t. (t.number, (t.snap, (t.noted, t.changes)))) (λ p. record { number = p.0; snap = p.1.0; noted = p.1.1.0; changes = p.1.1.1 }) (λ _. refl)

-- the code of what is known
abbrev pub known_code : Coded Known
known_code =
    code_by (List Transaction × List Transaction) (coded× (coded_list transaction_code) (coded_list transaction_code))
    (λ k. (k.committed, k.running)) (λ p. record { committed = p.0; running = p.1 }) (λ _. refl)
