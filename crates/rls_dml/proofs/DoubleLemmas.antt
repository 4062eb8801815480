-- Keys beside those that were seen before them.
use Rattle.std.proofs.Common.{◌≡◌, Bool, ◌||◌, ◌&&◌, not, true, false, List, [], ◌∷◌, length, take, drop, ◌-◌, ◌<◌, refl, arith, ap, sym, subst, ◌∙◌}
use Rattle.std.specs.Borrow.{Bor}
use Rattle.std.specs.List.{list_any}
use Rattle.std.specs.Cmp.Lexicographic.{slice_cmp}
use Rattle.std.specs.Ordering.{is_eq, is_lt, match_ordering, ordering_reverse}
use Rattle.std.specs.declared.cmp.Ordering.{Ordering}
use Rattle.std.specs.declared.cmp.Ordering.TheVariants.{Less, Equal, Greater}
use Rattle.std.specs.BTreeMap.{is_at}
use Rattle.std.specs.BTreeSet.{insert_key}
use Rattle.std.proofs.{Math.Seq.take-length, lemmas.Bool.true≢false}
use Rattle.rls_value.specs.{declared.value.Value.Value, Listing.rows_total, Values.listed}
use Rattle.rls_dml.specs.Writing.{is_among, has_doubles, is_below, ascend}

-- the order of borrowed keys
abbrev pub key_order : Bor (List Value) → Bor (List Value) → Ordering
key_order x y = slice_cmp listed x.now y.now

-- whether the key is among those that were seen
abbrev pub was_seen : List (Bor (List Value)) → List Value → Bool
was_seen seen key = list_any (is_at (λ k. slice_cmp listed key k.now)) seen

-- whether one of the keys was seen
unfoldable pub any_seen : List (Bor (List Value)) → List (List Value) → Bool
any_seen seen [] = false
any_seen seen (key ∷ keys) = was_seen seen key || any_seen seen keys

-- all but the first, as many as there are
all_taken : {A : Type 0} (xs : List A) → take (length xs - 1) (drop 1 xs) ≡ drop 1 xs
all_taken [] = refl
all_taken (x ∷ xs) = let fewer : length (x ∷ xs) - 1 ≡ length xs = omega arith in ap (λ n. take n xs) fewer ∙ take-length xs

-- where none was seen
pub none_seen : (seen : List (Bor (List Value))) (keys : List (List Value)) → seen ≡ [] → any_seen seen keys ≡ false
unfolding any_seen
none_seen seen [] none = refl
none_seen seen (key ∷ keys) none = rw (none, none_seen seen keys none) refl

swapped : (a b c : Bool) → (a || (b || c)) ≡ (b || (a || c))
swapped true true c = refl
swapped true false c = refl
swapped false b c = refl

inserted : {K : Type 0} (o : Ordering) (test : K → Bool) (k x : K) (xs more : List K) (rest : Bool) → (is_eq o || rest) ≡ false
    → (rest ≡ false → list_any test more ≡ (test k || list_any test xs))
    → list_any test (match_ordering o (k ∷ x ∷ xs) (x ∷ xs) (x ∷ more)) ≡ (test k || (test x || list_any test xs))
inserted Less test k x xs more rest h further = refl
inserted Equal test k x xs more rest h further = absurd (cc)
inserted Greater test k x xs more rest h further = ap (λ b. test x || b) (further h) ∙ swapped (test x) (test k) (list_any test xs)

-- a key put in that wasn't there
any_inserted : {K : Type 0} (cmp : K → K → Ordering) (test : K → Bool) (k : K) (ks : List K) → list_any (is_at (cmp k)) ks ≡ false
    → list_any test (insert_key cmp ks k) ≡ (test k || list_any test ks)
any_inserted cmp test k [] h = refl
any_inserted cmp test k (x ∷ xs) h = inserted (cmp k x) test k x xs (insert_key cmp xs k) (list_any (is_at (cmp k)) xs) h (any_inserted cmp test k xs)

shuffled : (a b c d : Bool) → ((a || b) || (c || d)) ≡ ((a || c) || (b || d))
shuffled true b c d = refl
shuffled false true true d = refl
shuffled false true false d = refl
shuffled false false c d = refl

-- one key more was seen
seen_after : (seen : List (Bor (List Value))) (key : Bor (List Value)) (keys : List (List Value)) → was_seen seen key.now ≡ false
    → any_seen (insert_key key_order seen key) keys ≡ (is_among key.now keys || any_seen seen keys)
unfolding any_seen
seen_after seen key [] h = refl
seen_after seen key (x ∷ xs) h =
    rw (any_inserted key_order (is_at (λ k. slice_cmp listed x k.now)) key seen h, seen_after seen key xs h)
    (shuffled (is_eq (slice_cmp listed x key.now)) (was_seen seen x) (is_among key.now xs) (any_seen seen xs))

turned : (s n h d : Bool) → s ≡ false → ((s || n) || (h || d)) ≡ ((h || n) || d)
turned true n h d e = absurd (cc)
turned false true true d e = refl
turned false true false d e = refl
turned false false true d e = refl
turned false false false d e = refl

put_first : (whole : Bool) (seen after : List (Bor (List Value))) (key : Bor (List Value)) (first : List Value) (keys : List (List Value))
    → whole ≡ (any_seen seen (first ∷ keys) || has_doubles (first ∷ keys)) → key.now ≡ first → was_seen seen key.now ≡ false
    → after ≡ insert_key key_order seen key → whole ≡ (any_seen after keys || has_doubles keys)
unfolding any_seen
put_first whole seen after key first keys h same absent put =
    h ∙ turned (was_seen seen first) (any_seen seen keys) (is_among first keys) (has_doubles keys) (ap (was_seen seen) (sym same) ∙ absent)
    ∙ ap (λ k. (is_among k keys || any_seen seen keys) || has_doubles keys) (sym same)
    ∙ ap (λ b. b || has_doubles keys) (sym (seen_after seen key keys absent))
    ∙ ap (λ ks. any_seen ks keys || has_doubles keys) (sym put)

unseen : (added seen : Bool) → added ≡ not seen → added ≡ true → seen ≡ false
unseen added true is new = absurd (cc)
unseen added false is new = refl

met : (added seen : Bool) → added ≡ not seen → added ≡ false → seen ≡ true
met added true is old = refl
met added false is old = absurd (cc)

-- the first key is new, and is among those seen from now on
pub seen_more : (added whole : Bool) (seen after : List (Bor (List Value))) (key : Bor (List Value)) (first : List Value) (keys : List (List Value))
    → after ≡ insert_key key_order seen key → added ≡ not (was_seen seen key.now) → added ≡ true
    → whole ≡ (any_seen seen keys || has_doubles keys) → keys ≡ first ∷ drop 1 keys → key.now ≡ first
    → whole ≡ (any_seen after (take (length keys - 1) (drop 1 keys)) || has_doubles (take (length keys - 1) (drop 1 keys)))
seen_more added whole seen after key first keys put is new h begins same =
    put_first whole seen after key first (drop 1 keys) (subst (λ all. whole ≡ (any_seen seen all || has_doubles all)) begins h) same (unseen added (was_seen seen key.now) is new) put
    ∙ ap (λ rest. any_seen after rest || has_doubles rest) (sym (all_taken keys))

twice : (whole s n d : Bool) → s ≡ true → whole ≡ ((s || n) || d) → whole ≡ true
twice whole true n d e h = h
twice whole false n d e h = absurd (cc)

twice_first : (whole : Bool) (seen : List (Bor (List Value))) (first : List Value) (keys : List (List Value))
    → whole ≡ (any_seen seen (first ∷ keys) || has_doubles (first ∷ keys)) → was_seen seen first ≡ true → whole ≡ true
unfolding any_seen
twice_first whole seen first keys h present = twice whole (was_seen seen first) (any_seen seen keys) (has_doubles (first ∷ keys)) present h

-- the first key was seen before
pub seen_twice : (added whole : Bool) (seen : List (Bor (List Value))) (first : List Value) (keys : List (List Value))
    → added ≡ not (was_seen seen first) → added ≡ false → whole ≡ (any_seen seen keys || has_doubles keys) → keys ≡ first ∷ drop 1 keys → whole ≡ true
seen_twice added whole seen first keys is old h begins =
    twice_first whole seen first (drop 1 keys) (subst (λ all. whole ≡ (any_seen seen all || has_doubles all)) begins h) (met added (was_seen seen first) is old)

-- none is left
pub none_left : (whole : Bool) (seen : List (Bor (List Value))) (keys : List (List Value)) → whole ≡ (any_seen seen keys || has_doubles keys) → length keys < 1 → whole ≡ false
unfolding any_seen
none_left whole seen [] h few = h
none_left whole seen (key ∷ keys) h few = absurd (omega arith)

-- ---- keys that ascend

below_then : (o : Ordering) → is_lt o ≡ true → o ≡ Less
below_then Less is = refl
below_then Equal is = absurd (true≢false (sym is))
below_then Greater is = absurd (true≢false (sym is))

both : (a b : Bool) → (a && b) ≡ true → (a ≡ true) × (b ≡ true)
both true b is = (refl, is)
both false b is = absurd (true≢false (sym is))

-- a key below the one before keys that ascend from it is none of them
below_rest : (key next : List Value) (keys : List (List Value)) → slice_cmp listed key next ≡ Less → is_below next keys ≡ true → ascend keys ≡ true → is_among key keys ≡ false
below_rest key next [] first below up = refl
below_rest key next (other ∷ keys) first below up =
    let second = rows_total.trans key next other first (below_then (slice_cmp listed next other) below) in
    let parts = both (is_below other keys) (ascend keys) up in
    ap (λ o. is_eq o || is_among key keys) (rows_total.antisymm other key ∙ ap ordering_reverse second) ∙ below_rest key other keys second parts.0 parts.1

below_all : (key : List Value) (keys : List (List Value)) → is_below key keys ≡ true → ascend keys ≡ true → is_among key keys ≡ false
below_all key [] below up = refl
below_all key (next ∷ keys) below up =
    let first = below_then (slice_cmp listed key next) below in
    let parts = both (is_below next keys) (ascend keys) up in
    ap (λ o. is_eq o || is_among key keys) (rows_total.antisymm next key ∙ ap ordering_reverse first) ∙ below_rest key next keys first parts.0 parts.1

-- keys that ascend stand there once
pub ascending_once : (keys : List (List Value)) → ascend keys ≡ true → has_doubles keys ≡ false
ascending_once [] up = refl
ascending_once (key ∷ keys) up =
    let parts = both (is_below key keys) (ascend keys) up in
    ap (λ b. b || has_doubles keys) (below_all key keys parts.0 parts.1) ∙ ascending_once keys parts.1
