-- The code of read locks, by which proofs tell them apart.
use Rattle.std.specs.Prelude.{ℕ, List, Option, refl}
use Rattle.std.specs.Coded.{Coded, code_by, coded×, coded_list, coded_option, coded_ℕ}
use Rattle.rls_value.specs.declared.object.Object.{Object}
use Rattle.rls_value.specs.contracts.object.Object as object
use Rattle.rls_siread.specs.Locks.{Notes, Locks}
use Rattle.rls_siread.specs.Index.{HolderList}

-- the code of what a transaction noted
abbrev pub notes_code : Coded Notes
notes_code = code_by (Option ℕ × List Object) (coded× (coded_option coded_ℕ) (coded_list object.the_row.coded)) (λ n. (n.commit, n.objects)) (λ p. record { commit = p.0; objects = p.1 }) (λ _. refl)

-- the code of read locks
abbrev pub locks_code : Coded Locks
locks_code =
    code_by (List (Object × List ℕ) × List (ℕ × Notes)) (coded× (coded_list (coded× object.the_row.coded (coded_list coded_ℕ))) (coded_list (coded× coded_ℕ notes_code)))
    (λ l. (l.holders, l.notes)) (λ p. record { holders = p.0; notes = p.1 }) (λ _. refl)

-- the code of the holders of an object
abbrev pub held_code : Coded HolderList
held_code = code_by (List ℕ × ℕ) (coded× (coded_list coded_ℕ) coded_ℕ) (λ h. (h.txns, h.room)) (λ p. record { txns = p.0; room = p.1 }) (λ _. refl)

-- the code of who holds each object
abbrev pub table_code : Coded (List (Object × HolderList))
table_code = coded_list (coded× object.the_row.coded held_code)
