-- Transactions are placed one after another.
use Rattle.std.specs.Prelude.{◌≡◌, refl, ℕ, suc, ◌+◌, ◌==◌, ◌<◌, ◌≤◌, ltb, nat_lt, Bool, true, false, ◌||◌, ◌&&◌, cond, List, [], ◌∷◌, ◌++◌, map, length, take, drop, get_or, set, is_some, Option, Some, None, zero}
use Rattle.std.specs.List.{All}
use Rattle.std.specs.Ordering.{nat_cmp, is_eq}
use Rattle.std.specs.BTreeMap.{BTreeMap, get, is_at}
use Rattle.std.proofs.Common.{ap, sym, ◌∙◌, subst, inl, inr, ◌⊎◌, arith, eq-eqb, eqb-true, ne_eqb, ltb-true, lt-ltb}
use Rattle.std.specs.declared.cmp.Ordering.TheVariants.{Less, Equal, Greater}
use Rattle.std.proofs.lemmas.Cmp.{tied_itself, nat_cmp_total}
use Rattle.std.proofs.lemmas.Bool.{cases_eq, or_cases, or_left, or_right, true≢false}
use Rattle.std.proofs.lemmas.List.{get_or-set_same, get_or-set_other, length-set}
use Rattle.std.proofs.lemmas.List.Elements.{All-push}
use Rattle.rls_history.specs.History.{History, before, rw as edge, concurrent}
use Rattle.rls_history.specs.Orders.{precedes, with_placed, none_placed, IsNext, StandInTurn, placed_by, IsOrder}
use Rattle.rls_check.specs.declared.transaction.Transaction.{Transaction}
use Rattle.rls_check.specs.Audited.{nobody, transaction_at}
use Rattle.rls_check.specs.Checking.{history_of, numbers_of, IsPlaced, IsNoOrder}
use Rattle.rls_check.specs.Placing.{AreApart, HasToWait, IsIndex, IsPlacing}
use Rattle.rls_check.proofs.OrderLemmas.{among, placed_among, apart, in_range, began_at, own_among, one_order, next_began}

-- ---- one more is placed

placed_push : (placed : ℕ → Bool) (ps : List ℕ) (p : ℕ) → placed_by placed (ps ++ p ∷ []) ≡ with_placed (placed_by placed ps) p
placed_push placed [] p = refl
placed_push placed (q ∷ ps) p = placed_push (with_placed placed q) ps p

turns_push : (h : History) (placed : ℕ → Bool) (ps : List ℕ) (p : ℕ) → StandInTurn h placed ps → IsNext h (placed_by placed ps) p → StandInTurn h placed (ps ++ p ∷ [])
turns_push h placed [] p turns next = (next, tt)
turns_push h placed (q ∷ ps) p turns next = (turns.0, turns_push h (with_placed placed q) ps p turns.1 next)

pub numbers_push : (ts : List Transaction) (ps : List ℕ) (p : ℕ) → numbers_of ts (ps ++ p ∷ []) ≡ numbers_of ts ps ++ (transaction_at ts p).txn ∷ []
numbers_push ts [] p = refl
numbers_push ts (q ∷ ps) p = ap (λ (ns : List ℕ). (transaction_at ts q).txn ∷ ns) (numbers_push ts ps p)

next_is : (ts : List Transaction) (placed : List Bool) (left : ℕ) (ps : List ℕ) (p : ℕ) → IsPlacing ts placed left ps → p < length ts → get_or placed p false ≡ false → (transaction_at ts p).snap ≤ left
    → IsNext (history_of ts) (placed_by none_placed ps) p
next_is ts placed left ps p is less not_yet snap = record {
  within = less;
  is_left = sym (is.tells p) ∙ not_yet;
  all_before = λ i l pre.
      elim (or_cases (before (history_of ts) i p) (edge (history_of ts) i p) pre) [
        | inl earlier ↦ (let below = ltb-true i (transaction_at ts p).snap earlier in sym (is.tells i) ∙ is.before i (omega (arith, below, snap)))
        | inr read' ↦ absurd (true≢false (sym (never (concurrent (history_of ts) i p) read')))
      ];
}
  where
    never : (a : Bool) → (a && false) ≡ true → false ≡ true
    never true h = h
    never false h = h

tells_set : (placed : List Bool) (p i : ℕ) → p < length placed → get_or (set placed p true) i false ≡ ((i == p) || get_or placed i false)
tells_set placed p i less =
    elim (cases_eq i p) [
      | inl same ↦ (rw (eq-eqb i p same) (subst (λ (x : ℕ). get_or (set placed p true) x false ≡ true) (sym same) (get_or-set_same placed p true false less)))
      | inr other ↦ (rw (ne_eqb i p other) (get_or-set_other placed p i true false other))
    ]

pub goes_on : (ts : List Transaction) (placed : List Bool) (left : ℕ) (ps : List ℕ) (p now : ℕ) → IsPlacing ts placed left ps → p < length ts → get_or placed p false ≡ false → (transaction_at ts p).snap ≤ left
    → ((i : ℕ) → i < now → get_or (set placed p true) i false ≡ true) → (now < length (set placed p true) → get_or (set placed p true) now false ≡ false) → IsPlacing ts (set placed p true) now (ps ++ p ∷ [])
goes_on ts placed left ps p now is less not_yet snap all free =
    let size = is.size in
    let room : p < length placed = omega (arith, size, less) in
    record {
      size = length-set placed p true ∙ size;
      tells = λ i. tells_set placed p i room ∙ (ap (λ (b : Bool). (i == p) || b) (is.tells i) ∙ sym (ap (λ (by : ℕ → Bool). by i) (placed_push none_placed ps p)));
      before = all;
      is_left = free;
      in_turn = turns_push (history_of ts) none_placed ps p is.in_turn (next_is ts placed left ps p is less not_yet snap);
      within = All-push (λ (x : ℕ). x < length ts) ps p is.within less;
    }

-- ---- all are placed

pub all_placed : (ts : List Transaction) (index : BTreeMap ℕ ℕ) (placed : List Bool) (left : ℕ) (numbers places : List ℕ) → IsIndex ts (length ts) index → IsPlacing ts placed left places
    → numbers_of ts places ≡ numbers → length ts ≤ left → IsPlaced ts numbers places
all_placed ts index placed left numbers places indexed is named all = record {
  named = sym named;
  within = is.within;
  in_order = record { in_turn = is.in_turn; all = λ i l. (let below : i < left = (let m : i < length ts = l in omega (arith, m, all)) in sym (is.tells i) ∙ is.before i below) };
  differ = λ i j l m same.
      (let one : Some i ≡ Some j = sym (indexed.own i l) ∙ (ap (get nat_cmp index) same ∙ indexed.own j m) in cc);
}

-- ---- one more in the index

equal_if : (less same : Bool) → is_eq (cond less Less (cond same Equal Greater)) ≡ true → same ≡ true
equal_if true same h = absurd (true≢false (sym h))
equal_if false true h = refl
equal_if false false h = absurd (true≢false (sym h))

pub own_number : (a b : ℕ) → is_at (nat_cmp a) b ≡ true → a ≡ b
own_number a b is = eqb-true a b (equal_if (nat_lt a b) (a == b) is)

pub nat_own : (a : ℕ) → is_at (nat_cmp a) a ≡ true
nat_own a = ap is_eq (tied_itself nat_cmp_total a)

-- where the number of the next isn't there yet
pub one_more : (ts : List Transaction) (count : ℕ) (m n : BTreeMap ℕ ℕ) → IsIndex ts count m → get nat_cmp m (transaction_at ts count).txn ≡ None
    → ((q : ℕ) → get nat_cmp n q ≡ cond (is_at (nat_cmp (transaction_at ts count).txn) q) (Some count) (get nat_cmp m q)) → IsIndex ts (count + 1) n
one_more ts count m n is none put = record {
  own = λ place l. own_of place l (cases_eq place count);
  within = λ number place found. (let one = found_in number place found in elim one [ inl new ↦ omega (arith, new.0) | inr old ↦ (let l = is.within number place old in omega (arith, l)) ]);
  only = λ number place found. (let one = found_in number place found in elim one [ inl new ↦ subst (λ (x : ℕ). (transaction_at ts x).txn ≡ number) (sym new.0) new.1 | inr old ↦ is.only number place old ]);
}
  where
    it : ℕ
    it = (transaction_at ts count).txn

    at_it : is_at (nat_cmp it) it ≡ true
    at_it = nat_own it

    found_if : (b : Bool) (number place : ℕ) → is_at (nat_cmp it) number ≡ b → cond b (Some count) (get nat_cmp m number) ≡ Some place → ((place ≡ count) × (it ≡ number)) ⊎ (get nat_cmp m number ≡ Some place)
    found_if true number place same e = inl ((cc), own_number it number same)
    found_if false number place other e = inr e

    found_in : (number place : ℕ) → get nat_cmp n number ≡ Some place → ((place ≡ count) × (it ≡ number)) ⊎ (get nat_cmp m number ≡ Some place)
    found_in number place found = found_if (is_at (nat_cmp it) number) number place refl (sym (put number) ∙ found)

    own_if : (b : Bool) (place : ℕ) → is_at (nat_cmp it) (transaction_at ts place).txn ≡ b → place < count → cond b (Some count) (get nat_cmp m (transaction_at ts place).txn) ≡ Some place
    own_if true place same l =
        (let number = own_number it (transaction_at ts place).txn same in
        let there : None ≡ Some place = sym none ∙ (ap (get nat_cmp m) number ∙ is.own place l) in absurd (cc))
    own_if false place other l = is.own place l

    own_of : (place : ℕ) → place < count + 1 → (place ≡ count) ⊎ (place ≡ count → ⊥) → get nat_cmp n (transaction_at ts place).txn ≡ Some place
    own_of place l (inl same) = subst (λ (x : ℕ). get nat_cmp n (transaction_at ts x).txn ≡ Some x) (sym same) (put it ∙ ap (λ (b : Bool). cond b (Some count) (get nat_cmp m it)) at_it)
    own_of place l (inr other) = put (transaction_at ts place).txn ∙ own_if (is_at (nat_cmp it) (transaction_at ts place).txn) place refl (omega (arith, l, other))

-- the one at the place
same_at : (ts : List Transaction) (count : ℕ) (it other : Transaction) → count < length ts → it ≡ get_or ts count it → it ≡ get_or ts count other
same_at [] count it other l is = absurd (omega (arith, l))
same_at (t ∷ ts) zero it other l is = is
same_at (t ∷ ts) (suc count) it other l is = same_at ts count it other (omega (arith, l)) is

none_of : (r : Option ℕ) → is_some r ≡ false → r ≡ None
none_of (Some x) h = absurd (true≢false h)
none_of None h = refl

pub more_at : (ts : List Transaction) (count : ℕ) (m n : BTreeMap ℕ ℕ) (it : Transaction) → count < length ts → it ≡ get_or ts count it → IsIndex ts count m → is_some (get nat_cmp m it.txn) ≡ false
    → ((q : ℕ) → get nat_cmp n q ≡ cond (is_at (nat_cmp it.txn) q) (Some count) (get nat_cmp m q)) → IsIndex ts (count + 1) n
more_at ts count m n it l at is absent put =
    let same = same_at ts count it nobody l at in
    one_more ts count m n is (subst (λ (t : Transaction). get nat_cmp m t.txn ≡ None) same (none_of (get nat_cmp m it.txn) absent))
    (subst (λ (t : Transaction). (q : ℕ) → get nat_cmp n q ≡ cond (is_at (nat_cmp t.txn) q) (Some count) (get nat_cmp m q)) same put)

-- where it is there already two have one number
pub doubled : (ts : List Transaction) (count : ℕ) (m : BTreeMap ℕ ℕ) (it : Transaction) → count < length ts → it ≡ get_or ts count it → IsIndex ts count m → is_some (get nat_cmp m it.txn) ≡ true → ¬ AreApart ts
doubled ts count m it l at is there apart = go (get nat_cmp m it.txn) refl there
  where
    go : (r : Option ℕ) → get nat_cmp m it.txn ≡ r → is_some r ≡ true → ⊥
    go (Some place) e h =
        let below = is.within it.txn place e in
        let same : (transaction_at ts place).txn ≡ (transaction_at ts count).txn = is.only it.txn place e ∙ ap (λ (t : Transaction). t.txn) (same_at ts count it nobody l at) in
        let one : place ≡ count = apart place count (omega (arith, below, l)) l same in
        omega (arith, below, one)
    go None e h = true≢false (sym h)

-- ---- where there is no order

pub doubled_no_order : (ts : List Transaction) (numbers : List ℕ) → ¬ AreApart ts → IsNoOrder ts numbers
doubled_no_order ts numbers doubled places placed = doubled placed.differ

-- those placed so far are the first of any order by the same numbers
first_of : (ts : List Transaction) (ps qs : List ℕ) (n : ℕ) (more : List ℕ) → AreApart ts → ((i : ℕ) → among ps i ≡ true → i < length ts) → ((i : ℕ) → among qs i ≡ true → i < length ts)
    → numbers_of ts qs ≡ numbers_of ts ps ++ n ∷ more → (q : ℕ) × (rest : List ℕ) × (qs ≡ ps ++ q ∷ rest) × ((transaction_at ts q).txn ≡ n) × (q < length ts)
first_of ts [] [] n more apart wp wq h = absurd (cc)
first_of ts [] (q ∷ qs) n more apart wp wq h = (q, qs, refl, (cc), wq q (own_among q qs))
first_of ts (p ∷ ps) [] n more apart wp wq h = absurd (cc)
first_of ts (p ∷ ps) (q ∷ qs) n more apart wp wq h =
    let heads : (transaction_at ts q).txn ≡ (transaction_at ts p).txn = cc in
    let tails : numbers_of ts qs ≡ numbers_of ts ps ++ n ∷ more = cc in
    let one : q ≡ p = apart q p (wq q (own_among q qs)) (wp p (own_among p ps)) heads in
    let rest = first_of ts ps qs n more apart (λ i later. wp i (or_right (i == p) (among ps i) later)) (λ i later. wq i (or_right (i == q) (among qs i) later)) tails in
    (rest.0, rest.1, ap (λ (x : ℕ). x ∷ qs) one ∙ ap (λ (xs : List ℕ). p ∷ xs) rest.2, rest.3, rest.4)

next_of : (h : History) (placed : ℕ → Bool) (ps : List ℕ) (q : ℕ) (rest : List ℕ) → StandInTurn h placed (ps ++ q ∷ rest) → IsNext h (placed_by placed ps) q
next_of h placed [] q rest turns = turns.0
next_of h placed (p ∷ ps) q rest turns = next_of h (with_placed placed p) ps q rest turns.1

-- one that has to wait can't stand next
cannot_stand : (ts : List Transaction) (placed : List Bool) (left : ℕ) (ps : List ℕ) (q : ℕ) → IsPlacing ts placed left ps → IsNext (history_of ts) (placed_by none_placed ps) q
    → (get_or placed q false ≡ true) ⊎ (left < (transaction_at ts q).snap) → ⊥
cannot_stand ts placed left ps q is next waits =
    let h = history_of ts in
    elim waits [
      | inl already ↦ true≢false (sym already ∙ (is.tells q ∙ next.is_left))
      | inr early ↦
          (let began = next_began h (placed_by none_placed ps) q next in
          let within : q < length ts = next.within in
          let size = is.size in
          let in_range : left < length ts = omega (arith, early, began, within) in
          let there : placed_by none_placed ps left ≡ true = next.all_before left in_range (or_left (before h left q) (edge h left q) (lt-ltb left (transaction_at ts q).snap early)) in
          let room : left < length placed = omega (arith, size, in_range) in
          true≢false (sym there ∙ (sym (is.tells left) ∙ is.is_left room)))
    ]

cut_at : (ns : List ℕ) (k : ℕ) → k < length ns → ns ≡ take k ns ++ get_or ns k 0 ∷ drop (suc k) ns
cut_at [] k l = absurd (omega (arith, l))
cut_at (n ∷ ns) zero l = refl
cut_at (n ∷ ns) (suc k) l = ap (λ (rest : List ℕ). n ∷ rest) (cut_at ns k (omega (arith, l)))

pub waits_no_order : (ts : List Transaction) (placed : List Bool) (left k : ℕ) (numbers ps : List ℕ) → IsPlacing ts placed left ps → numbers_of ts ps ≡ take k numbers → k < length numbers
    → HasToWait ts placed left (get_or numbers k 0) → IsNoOrder ts numbers
waits_no_order ts placed left k numbers ps is named less waits qs whole =
    let h = history_of ts in
    let split : numbers_of ts qs ≡ numbers_of ts ps ++ get_or numbers k 0 ∷ drop (suc k) numbers =
    sym whole.named ∙ (cut_at numbers k less ∙ ap (λ (xs : List ℕ). xs ++ get_or numbers k 0 ∷ drop (suc k) numbers) (sym named)) in
    let found = first_of ts ps qs (get_or numbers k 0) (drop (suc k) numbers) whole.differ (λ i there. in_range h none_placed ps i is.in_turn there) (λ i there. in_range h none_placed qs i whole.in_order.in_turn there) split in
    let next = next_of h none_placed ps found.0 found.1 (subst (λ (xs : List ℕ). StandInTurn h none_placed xs) found.2 whole.in_order.in_turn) in
    cannot_stand ts placed left ps found.0 is next (waits found.0 found.4 found.3)

pub left_no_order : (ts : List Transaction) (placed : List Bool) (left : ℕ) (numbers ps : List ℕ) → IsPlacing ts placed left ps → numbers_of ts ps ≡ numbers → left < length ts → IsNoOrder ts numbers
left_no_order ts placed left numbers ps is named less qs whole =
    let h = history_of ts in
    let size = is.size in
    let same : ps ≡ qs = one_order ts ps qs whole.differ (λ i there. in_range h none_placed ps i is.in_turn there) (λ i there. in_range h none_placed qs i whole.in_order.in_turn there) (named ∙ whole.named) in
    let there : placed_by none_placed ps left ≡ true = subst (λ (xs : List ℕ). placed_by none_placed xs left ≡ true) (sym same) (whole.in_order.all left less) in
    true≢false (sym there ∙ (sym (is.tells left) ∙ is.is_left (omega (arith, size, less))))
