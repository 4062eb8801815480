-- Row numbers are ordered, and entries are exchanged where they are put in.
use Rattle.std.specs.Prelude.{◌≡◌, refl, List, [], ◌∷◌, true, cond, is_some, Some}
use Rattle.std.specs.BTreeMap.{is_at, insert_entry}
use Rattle.std.specs.{Cmp.IsTotalOrder, List.AllByRecursion, List.Sorted.IsStrictlySortedBy, declared.cmp.Ordering.Ordering, FinMap.nat_cmp-IsAntisymmetric}
use Rattle.std.specs.Map.{lookup, set_value, keys_of}
use Rattle.std.specs.Ordering.{is_eq, match_ordering, nat_cmp, ordering_then}
use Rattle.std.specs.declared.cmp.Ordering.TheVariants.{Less, Equal, Greater}
use Rattle.std.proofs.{Common.ap, Common.sym, Common.◌∙◌, lemmas.Bool.true≢false, lemmas.Map.lookup-none, lemmas.Map.Entries.none_below_head, lemmas.Map.Keys.sorted_tail}
use Rattle.std.proofs.lemmas.Cmp.{on_total, then_total, nat_cmp_total}
use Rattle.rls_expr.specs.rls_value.specs.declared.row.RowId.{RowId}
use Rattle.rls_catalog.specs.State.{id_order}

-- row numbers are totally ordered
pub id_total : IsTotalOrder id_order
id_total = then_total (on_total (λ id. id.txn) nat_cmp_total) (on_total (λ id. id.n) nat_cmp_total)

first_ties : (o p : Ordering) → ordering_then o p ≡ Equal → o ≡ Equal
first_ties Less p tie = tie
first_ties Equal p tie = refl
first_ties Greater p tie = tie

second_ties : (o p : Ordering) → ordering_then o p ≡ Equal → p ≡ Equal
second_ties Less p tie = absurd (true≢false (sym (ap is_eq tie)))
second_ties Equal p tie = tie
second_ties Greater p tie = absurd (true≢false (sym (ap is_eq tie)))

-- numbers that tie are the same
pub same_id : (a b : RowId) → id_order a b ≡ Equal → a ≡ b
same_id a b tie =
    let txn : a.txn ≡ b.txn = nat_cmp-IsAntisymmetric a.txn b.txn (first_ties (nat_cmp a.txn b.txn) (nat_cmp a.n b.n) tie) in
    let n : a.n ≡ b.n = nat_cmp-IsAntisymmetric a.n b.n (second_ties (nat_cmp a.txn b.txn) (nat_cmp a.n b.n) tie) in
    λ i. record { txn = txn i; n = n i }

exchanged_if : {K X : Type 0} {order : K → K → Ordering} (total : IsTotalOrder order) (e : K × X) (es : List (K × X)) (k : K) (v : X) (o : Ordering) → order k e.0 ≡ o
    → IsStrictlySortedBy order (keys_of (e ∷ es)) → is_some (cond (is_eq o) (Some e.1) (lookup (is_at (order k)) es)) ≡ true
    → (is_some (lookup (is_at (order k)) es) ≡ true → set_value (is_at (order k)) es v ≡ insert_entry order es k v)
    → cond (is_eq o) ((e.0, v) ∷ es) (e ∷ set_value (is_at (order k)) es v) ≡ match_ordering o ((k, v) ∷ e ∷ es) ((e.0, v) ∷ es) (e ∷ insert_entry order es k v)
exchanged_if {order = order} total e es k v Less is sorted found further =
    absurd (true≢false (sym found ∙ ap is_some (lookup-none (is_at (order k)) es (none_below_head total k e es sorted is).1)))
exchanged_if total e es k v Equal is sorted found further = refl
exchanged_if total e es k v Greater is sorted found further = ap (λ l. e ∷ l) (further found)

-- an entry that is exchanged is one that is put in
pub exchanged_inserted : {K X : Type 0} {order : K → K → Ordering} (total : IsTotalOrder order) (es : List (K × X)) (k : K) (v : X) → IsStrictlySortedBy order (keys_of es)
    → is_some (lookup (is_at (order k)) es) ≡ true → set_value (is_at (order k)) es v ≡ insert_entry order es k v
exchanged_inserted total [] k v sorted found = absurd (true≢false (sym found))
exchanged_inserted {order = order} total (e ∷ es) k v sorted found =
    exchanged_if total e es k v (order k e.0) refl sorted found (exchanged_inserted total es k v (sorted_tail order e.0 (keys_of es) sorted))

pub below_all : (a b : RowId) (ids : List RowId) → ((c : RowId) → id_order b c ≡ Less → id_order a c ≡ Less) → AllByRecursion (λ c. id_order b c ≡ Less) ids → AllByRecursion (λ c. id_order a c ≡ Less) ids
below_all a b [] more all = tt
below_all a b (c ∷ ids) more all = (more c all.0, below_all a b ids more all.1)
