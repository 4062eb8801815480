-- Worked histories, which compute: tables of a key and one more column, and transactions that read and change their rows. Where
-- all run at once, each has the snapshot of no commits.
use Rattle.std.specs.Prelude.{ℕ, List, [], ◌∷◌, Some, None, codes}
use Rattle.rls_value.specs.{declared.object.Object.Object}
use Rattle.rls_value.specs.declared.object.Object.TheVariants as o
use Rattle.rls_value.specs.declared.value.Value.TheVariants.{Text}
use Rattle.rls_catalog.specs.{declared.stored.Keyed.Keyed, declared.change.Change.Change}
use Rattle.rls_catalog.specs.declared.change.Change.TheVariants as c
use Rattle.rls_conflict.specs.Transactions.{Transaction}

-- a row of the table
abbrev pub row_of : List ℕ → List ℕ → Keyed
row_of key content = record { key = Text key ∷ []; row = Text key ∷ Text content ∷ [] }

-- UPDATE of the row with that key and number
abbrev pub updated : List ℕ → ℕ → List ℕ → List ℕ → List ℕ → Change
updated table n key old new = c.Row (record { table = table; id = record { txn = 1; n = n }; before = Some (row_of key old); after = Some (row_of key new) })

-- INSERT of a row, by that transaction
abbrev pub inserted : List ℕ → ℕ → List ℕ → List ℕ → Change
inserted table txn key content = c.Row (record { table = table; id = record { txn = txn; n = 0 }; before = None; after = Some (row_of key content) })

-- the row that is sought by its key
abbrev pub sought : List ℕ → List ℕ → Object
sought table key = o.Key table (Text key ∷ [])

-- The manual's race between a policy's subquery and an update (PostgreSQL manual, 5.8, "Row Security Policies"). A policy of
-- `information` asks `users` for the group of who reads. Alice takes the group from mallory, writes the secret, and commits;
-- mallory reads on the snapshot of before.
abbrev pub clearance_race : List Transaction
clearance_race =
    record { number = 2; snap = 0; noted = []; changes = updated (codes "users") 0 (codes "mallory") (codes "2") (codes "1") ∷ updated (codes "information") 1 (codes "slightly secret") (codes "2") (codes "secret") ∷ [] }
    ∷ record { number = 3; snap = 0; noted = sought (codes "users") (codes "mallory") ∷ o.Rows (codes "information") ∷ []; changes = [] }
    ∷ []

-- Write skew over the table of a policy: two officers each see the other on duty, in the rows that the policy reads, and leave
-- (VLDB 2012, 2.1.1).
abbrev pub write_skew : List Transaction
write_skew =
    record { number = 2; snap = 0; noted = o.Rows (codes "duty") ∷ []; changes = updated (codes "duty") 0 (codes "alice") (codes "on") (codes "off") ∷ [] }
    ∷ record { number = 3; snap = 0; noted = o.Rows (codes "duty") ∷ []; changes = updated (codes "duty") 1 (codes "bob") (codes "on") (codes "off") ∷ [] }
    ∷ []

-- Batch processing (VLDB 2012, 2.1.2): the batch is closed, a report reads the new number and the receipts, and then a receipt
-- comes in under the number of the closed batch.
abbrev pub batch_closed : Transaction
batch_closed = record { number = 3; snap = 0; noted = sought (codes "control") (codes "batch") ∷ []; changes = updated (codes "control") 0 (codes "batch") (codes "1") (codes "2") ∷ [] }

-- it begins after the closing
abbrev pub report : Transaction
report = record { number = 4; snap = 1; noted = sought (codes "control") (codes "batch") ∷ o.Rows (codes "receipts") ∷ []; changes = [] }

-- it read the number before the closing
abbrev pub late_receipt : Transaction
late_receipt = record { number = 2; snap = 0; noted = sought (codes "control") (codes "batch") ∷ []; changes = inserted (codes "receipts") 2 (codes "r1") (codes "1") ∷ [] }

-- A chain of three that run at once: a reader reads the row that a pivot writes, which reads the row that a third writes.
abbrev pub reader : Transaction
reader = record { number = 2; snap = 0; noted = sought (codes "t") (codes "x") ∷ []; changes = [] }

-- one that writes a row that nobody reads too
abbrev pub writing_reader : Transaction
writing_reader = record { number = 2; snap = 0; noted = sought (codes "t") (codes "x") ∷ []; changes = updated (codes "t") 2 (codes "z") (codes "0") (codes "1") ∷ [] }

-- it reads what the third writes, and writes what the reader reads
abbrev pub pivot : Transaction
pivot = record { number = 3; snap = 0; noted = sought (codes "t") (codes "y") ∷ []; changes = updated (codes "t") 0 (codes "x") (codes "0") (codes "1") ∷ [] }

-- it writes what the pivot reads
abbrev pub third : Transaction
third = record { number = 4; snap = 0; noted = []; changes = updated (codes "t") 1 (codes "y") (codes "0") (codes "1") ∷ [] }

-- INSERT into a table without a primary key: the rows have none in common, though each is stored with the empty key
abbrev pub kept_receipt : ℕ → List Change
kept_receipt txn = c.Row (record { table = codes "receipts"; id = record { txn = txn; n = 0 }; before = None; after = Some (record { key = []; row = Text (codes "1") ∷ [] }) }) ∷ []
