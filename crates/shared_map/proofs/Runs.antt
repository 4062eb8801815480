-- The entries from a key on.
use Rattle.std.proofs.Common.{◌≡◌, ℕ, zero, suc, ◌≤◌, List, [], ◌∷◌, ◌++◌, length, take, drop, slice_get, Some, None, IsSome, Bool, true, false, cond, refl, sym, ap, subst, ◌∙◌, append_assoc, arith, true≢false, length-drop, ◌-◌, ◌<◌}
use Rattle.std.proofs.lemmas.List.{append-nil}
use Rattle.std.specs.declared.cmp.Ordering.{Ordering}
use Rattle.std.specs.declared.cmp.Ordering.TheVariants.{Less, Equal, Greater}
use Rattle.std.specs.Ordering.{is_le, is_lt}
use Rattle.std.specs.Cmp.{IsTotalOrder}
use Rattle.shared_map.specs.Entries.{Ascend, IsAbove, IsBelow, IsHit, IsGap, IsFirstRun, entries_from, first_key, is_reached}
use Rattle.shared_map.specs.Parts.{flat, IsSpot}
use Rattle.shared_map.proofs.Hits.{cut}
use Rattle.shared_map.proofs.Parts.{flat_at, take_all}
use Rattle.shared_map.proofs.Places.{above_before_hit, below_after_hit}

not_reached : (o : Ordering) (after : Bool) → o ≡ Greater → cond after (is_lt o) (is_le o) ≡ false
not_reached o true h = rw h refl
not_reached o false h = rw h refl

reached : (o : Ordering) (after : Bool) → o ≡ Less → cond after (is_lt o) (is_le o) ≡ true
reached o true h = rw h refl
reached o false h = rw h refl

module _ {K X : Type 0} (compare : K → Ordering) (after : Bool) where
  from_past : (xs ys : List (K × X)) → IsAbove compare xs → entries_from (is_reached compare after) (xs ++ ys) ≡ entries_from (is_reached compare after) ys
  from_past [] ys a = refl
  from_past (x ∷ xs) ys a = rw (not_reached (compare x.0) after a.0) (from_past xs ys a.1)

  from_first : (ys : List (K × X)) → IsBelow compare ys → entries_from (is_reached compare after) ys ≡ ys
  from_first [] b = refl
  from_first (y ∷ ys) b = rw (reached (compare y.0) after b.0) refl

  from_upto : (xs ys : List (K × X)) → IsBelow compare ys → entries_from (is_reached compare after) (xs ++ ys) ≡ entries_from (is_reached compare after) xs ++ ys
  from_upto [] ys b = from_first ys b
  from_upto (x ∷ xs) ys b = elim (is_reached compare after x.0) as (λ t. cond t (x ∷ xs ++ ys) (entries_from (is_reached compare after) (xs ++ ys)) ≡ cond t (x ∷ xs) (entries_from (is_reached compare after) xs) ++ ys) [ true ↦ refl | false ↦ from_upto xs ys b ]

  pub gap_from : (es : List (K × X)) (i : ℕ) → IsGap compare es i → entries_from (is_reached compare after) es ≡ drop i es
  gap_from es i g = ap (entries_from (is_reached compare after)) (sym (cut i es)) ∙ from_past (take i es) (drop i es) g.1 ∙ from_first (drop i es) g.2

module _ {K X : Type 0} (compare : K → Ordering) where
  at_hit : (es : List (K × X)) (i : ℕ) (e : K × X) → slice_get es i ≡ Some e → compare e.0 ≡ Equal → entries_from (is_reached compare false) (drop i es) ≡ drop i es
  at_hit [] i e h q = absurd (cc)
  at_hit (f ∷ es) zero e h q = let p : f ≡ e = cc in let r : compare f.0 ≡ Equal = ap (λ g. compare g.0) p ∙ q in rw r refl
  at_hit (f ∷ es) (suc i) e h q = at_hit es i e h q

  past_hit : (es : List (K × X)) (i : ℕ) (e : K × X) → slice_get es i ≡ Some e → compare e.0 ≡ Equal → IsBelow compare (drop (suc i) es) → entries_from (is_reached compare true) (drop i es) ≡ drop (suc i) es
  past_hit [] i e h q b = absurd (cc)
  past_hit (f ∷ es) zero e h q b = let p : f ≡ e = cc in let r : compare f.0 ≡ Equal = ap (λ g. compare g.0) p ∙ q in rw r (from_first compare true es b)
  past_hit (f ∷ es) (suc i) e h q b = past_hit es i e h q b

module _ {K X : Type 0} {cmp : K → K → Ordering} (o : IsTotalOrder cmp) (es : List (K × X)) (s : Ascend cmp es) (k : K) (i : ℕ) (h : IsHit (cmp k) es i) where
  pub hit_from : entries_from (is_reached (cmp k) false) es ≡ drop i es
  hit_from = ap (entries_from (is_reached (cmp k) false)) (sym (cut i es)) ∙ from_past (cmp k) false (take i es) (drop i es) (above_before_hit o k es i h.0 s h.1 h.2) ∙ at_hit (cmp k) es i h.0 h.1 h.2

  pub hit_after : entries_from (is_reached (cmp k) true) es ≡ drop (suc i) es
  hit_after = ap (entries_from (is_reached (cmp k) true)) (sym (cut i es)) ∙ from_past (cmp k) true (take i es) (drop i es) (above_before_hit o k es i h.0 s h.1 h.2) ∙ past_hit (cmp k) es i h.0 h.1 h.2 (below_after_hit o k es i h.0 s h.1 h.2)

-- the whole of a list is a first run of it
pub whole_run : {A : Type 0} (es run : List A) → es ≡ run → IsFirstRun es run
whole_run es run q = ([], q ∙ sym (append-nil run), λ n. q ∙ n)

not_some : {K X : Type 0} (es : List (K × X)) → es ≡ [] → IsSome (first_key es) → ⊥
not_some [] q f = absurd (true≢false (sym f))
not_some (e ∷ es) q f = absurd (cc)

-- a first run of a list that has elements is one of that list and others
pub run_more : {K X : Type 0} (es others run : List (K × X)) → IsSome (first_key es) → IsFirstRun es run → IsFirstRun (es ++ others) run
run_more es others run f r = (r.0 ++ others, ap (λ l. l ++ others) r.1 ∙ append_assoc run r.0 others, λ n. absurd (not_some es (r.2 n) f))

pub hit_within : {K X : Type 0} (es : List (K × X)) (i : ℕ) (e : K × X) → slice_get es i ≡ Some e → i < length es
hit_within [] i e h = absurd (cc)
hit_within (f ∷ es) zero e h = omega arith
hit_within (f ∷ es) (suc i) e h = let l = hit_within es i e h in omega (arith, l)

pub take_rest : {A : Type 0} (i : ℕ) (xs : List A) → take (length xs - i) (drop i xs) ≡ drop i xs
take_rest i xs = take_all (length xs - i) (drop i xs) (omega (arith, length-drop i xs))

module _ {K X C : Type 0} (entries : C → List (K × X)) (sound : C → Type 0) where
  pub flat_from : (es : List (K × C)) (i : ℕ) (e : K × C) → slice_get es i ≡ Some e → flat entries (drop i es) ≡ entries e.1 ++ flat entries (drop (suc i) es)
  flat_from [] i e h = absurd (cc)
  flat_from (f ∷ es) zero e h = let p : f ≡ e = cc in ap (λ g. entries g.1 ++ flat entries es) p
  flat_from (f ∷ es) (suc i) e h = flat_from es i e h

  pub drop_none : (es : List (K × C)) (i : ℕ) → slice_get es i ≡ None → drop i es ≡ []
  drop_none [] zero h = refl
  drop_none [] (suc i) h = refl
  drop_none (f ∷ es) zero h = absurd (cc)
  drop_none (f ∷ es) (suc i) h = drop_none es i h

  module _ (compare : K → Ordering) (after : Bool) (es : List (K × C)) (i : ℕ) (e : K × C) (h : slice_get es i ≡ Some e) (p : IsSpot entries compare es i) where
    pub from_at : entries_from (is_reached compare after) (flat entries es) ≡ entries_from (is_reached compare after) (entries e.1) ++ flat entries (drop (suc i) es)
    from_at = ap (entries_from (is_reached compare after)) (flat_at entries sound es i e h) ∙ from_past compare after (flat entries (take i es)) _ p.1 ∙ from_upto compare after (entries e.1) _ p.2

pub no_items : {A : Type 0} (xs : List A) → length xs < 1 → xs ≡ []
no_items [] l = refl
no_items (x ∷ xs) l = absurd (omega arith)

-- what follows an empty first run
pub run_next : {A : Type 0} (es more run next : List A) → IsFirstRun es run → length run < 1 → IsFirstRun more next → IsFirstRun (es ++ more) next
run_next es more run next r n m = subst (λ l. IsFirstRun l next) (sym (ap (λ l. l ++ more) (r.2 (no_items run n)))) m

-- a first run with elements
pub run_some : {A : Type 0} (es more run : List A) → IsFirstRun es run → 1 ≤ length run → IsFirstRun (es ++ more) run
run_some es more run r l = (r.0 ++ more, ap (λ l. l ++ more) r.1 ∙ append_assoc run r.0 more, λ n. let z : length run ≡ 0 = ap length n in absurd (omega arith))
