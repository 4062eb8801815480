-- Names beside those that were seen before them.
use Rattle.std.proofs.Common.{◌≡◌, ℕ, Bool, ◌||◌, ◌&&◌, true, false, not, List, [], ◌∷◌, length, map, take, drop, ◌-◌, ◌<◌, refl, arith, ap, sym, subst, ◌∙◌}
use Rattle.std.specs.Borrow.{Bor}
use Rattle.std.specs.List.{list_any}
use Rattle.std.specs.Str.{bytes_eq}
use Rattle.std.specs.Cmp.Lexicographic.{slice_cmp}
use Rattle.std.specs.Ordering.{nat_cmp, is_eq, match_ordering}
use Rattle.std.specs.declared.cmp.Ordering.{Ordering}
use Rattle.std.specs.declared.cmp.Ordering.TheVariants.{Less, Equal, Greater}
use Rattle.std.specs.BTreeMap.{is_at}
use Rattle.std.specs.BTreeSet.{insert_key}
use Rattle.std.proofs.{lemmas.Map.Text.is_eq-slice_cmp, Math.Seq.take-length}
use Rattle.rls_text.specs.Values as values

-- the order of borrowed texts
abbrev pub text_order : Bor (List ℕ) → Bor (List ℕ) → Ordering
text_order x y = slice_cmp nat_cmp x.now y.now

-- whether the name is among those that were seen
abbrev pub was_seen : List (Bor (List ℕ)) → List ℕ → Bool
was_seen seen name = list_any (is_at (λ k. slice_cmp nat_cmp name k.now)) seen

-- whether none of the names was seen
unfoldable pub are_new : List (Bor (List ℕ)) → List (List ℕ) → Bool
are_new seen [] = true
are_new seen (name ∷ names) = not (was_seen seen name) && are_new seen names

-- what is left behind the first
abbrev pub behind : {A : Type 0} → List A → List A
behind xs = take (length xs - 1) (drop 1 xs)

-- it is all but the first
all_taken : {A : Type 0} (xs : List A) → behind xs ≡ drop 1 xs
all_taken [] = refl
all_taken (x ∷ xs) = let fewer : length (x ∷ xs) - 1 ≡ length xs = omega arith in ap (λ n. take n xs) fewer ∙ take-length xs

-- a list begins with its first
pub split_first : {A : Type 0} (x : A) (xs : List A) → xs ≡ x ∷ drop 1 xs → xs ≡ x ∷ behind xs
split_first x xs h = h ∙ ap (λ z. x ∷ z) (sym (all_taken xs))

-- where none was seen
pub all_new : (seen : List (Bor (List ℕ))) (names : List (List ℕ)) → seen ≡ [] → are_new seen names ≡ true
unfolding are_new
all_new seen [] none = refl
all_new seen (name ∷ names) none = rw (none, all_new seen names none) refl

swapped : (a b c : Bool) → (a || (b || c)) ≡ (b || (a || c))
swapped true true c = refl
swapped true false c = refl
swapped false b c = refl

inserted : {K : Type 0} (o : Ordering) (test : K → Bool) (k x : K) (xs more : List K) (rest : Bool) → (is_eq o || rest) ≡ false
    → (rest ≡ false → list_any test more ≡ (test k || list_any test xs))
    → list_any test (match_ordering o (k ∷ x ∷ xs) (x ∷ xs) (x ∷ more)) ≡ (test k || (test x || list_any test xs))
inserted Less test k x xs more rest h further = refl
inserted Equal test k x xs more rest h further = absurd (cc)
inserted Greater test k x xs more rest h further = ap (λ b. test x || b) (further h) ∙ swapped (test x) (test k) (list_any test xs)

-- a key put in that wasn't there
any_inserted : {K : Type 0} (cmp : K → K → Ordering) (test : K → Bool) (k : K) (ks : List K) → list_any (is_at (cmp k)) ks ≡ false
    → list_any test (insert_key cmp ks k) ≡ (test k || list_any test ks)
any_inserted cmp test k [] h = refl
any_inserted cmp test k (x ∷ xs) h = inserted (cmp k x) test k x xs (insert_key cmp xs k) (list_any (is_at (cmp k)) xs) h (any_inserted cmp test k xs)

shuffled : (a b c d : Bool) → (not (a || b) && (not c && d)) ≡ (not (a || c) && (not b && d))
shuffled true b c d = refl
shuffled false true true d = refl
shuffled false true false d = refl
shuffled false false c d = refl

seen_or : (seen : List (Bor (List ℕ))) (key : Bor (List ℕ)) (name : List ℕ) → was_seen seen key.now ≡ false
    → was_seen (insert_key text_order seen key) name ≡ (bytes_eq name key.now || was_seen seen name)
seen_or seen key name h = any_inserted text_order (is_at (λ k. slice_cmp nat_cmp name k.now)) key seen h ∙ ap (λ b. b || was_seen seen name) (is_eq-slice_cmp name key.now)

-- one name more was seen
pub new_after : (seen : List (Bor (List ℕ))) (key : Bor (List ℕ)) (names : List (List ℕ)) → was_seen seen key.now ≡ false
    → are_new (insert_key text_order seen key) names ≡ (not (values.has_name key.now names) && are_new seen names)
unfolding are_new
new_after seen key [] h = refl
new_after seen key (name ∷ names) h =
    rw (seen_or seen key name h, new_after seen key names h)
    (shuffled (bytes_eq name key.now) (was_seen seen name) (values.has_name key.now names) (are_new seen names))

turned : (s n h d : Bool) → s ≡ false → ((not s && n) && (not h && d)) ≡ ((not h && n) && d)
turned true n h d e = absurd (cc)
turned false true true d e = refl
turned false true false d e = refl
turned false false true d e = refl
turned false false false d e = refl

put_first : (whole : Bool) (seen after : List (Bor (List ℕ))) (key : Bor (List ℕ)) (name : List ℕ) (names : List (List ℕ))
    → whole ≡ (are_new seen (name ∷ names) && values.are_distinct (name ∷ names)) → key.now ≡ name → was_seen seen key.now ≡ false
    → after ≡ insert_key text_order seen key → whole ≡ (are_new after names && values.are_distinct names)
unfolding are_new
put_first whole seen after key name names h same absent put =
    h ∙ turned (was_seen seen name) (are_new seen names) (values.has_name name names) (values.are_distinct names) (ap (was_seen seen) (sym same) ∙ absent)
    ∙ ap (λ z. (not (values.has_name z names) && are_new seen names) && values.are_distinct names) (sym same)
    ∙ ap (λ b. b && values.are_distinct names) (sym (new_after seen key names absent))
    ∙ ap (λ keys. are_new keys names && values.are_distinct names) (sym put)

-- the first name is new, and is among those seen from now on
pub seen_more : (whole : Bool) (seen after : List (Bor (List ℕ))) (key : Bor (List ℕ)) (name : List ℕ) (names rest : List (List ℕ))
    → whole ≡ (are_new seen names && values.are_distinct names) → names ≡ name ∷ rest → key.now ≡ name → was_seen seen key.now ≡ false
    → after ≡ insert_key text_order seen key → whole ≡ (are_new after rest && values.are_distinct rest)
seen_more whole seen after key name names rest h first same absent put =
    put_first whole seen after key name rest (subst (λ all. whole ≡ (are_new seen all && values.are_distinct all)) first h) same absent put

twice : (whole s n d : Bool) → s ≡ true → whole ≡ ((not s && n) && d) → whole ≡ false
twice whole true n d e h = h
twice whole false n d e h = absurd (cc)

twice_first : (whole : Bool) (seen : List (Bor (List ℕ))) (key : Bor (List ℕ)) (name : List ℕ) (names : List (List ℕ))
    → whole ≡ (are_new seen (name ∷ names) && values.are_distinct (name ∷ names)) → key.now ≡ name → was_seen seen key.now ≡ true → whole ≡ false
unfolding are_new
twice_first whole seen key name names h same present =
    twice whole (was_seen seen name) (are_new seen names) (values.are_distinct (name ∷ names)) (ap (was_seen seen) (sym same) ∙ present) h

-- the first name was seen before
pub seen_twice : (whole : Bool) (seen : List (Bor (List ℕ))) (key : Bor (List ℕ)) (name : List ℕ) (names rest : List (List ℕ))
    → whole ≡ (are_new seen names && values.are_distinct names) → names ≡ name ∷ rest → key.now ≡ name → was_seen seen key.now ≡ true → whole ≡ false
seen_twice whole seen key name names rest h first same present =
    twice_first whole seen key name rest (subst (λ all. whole ≡ (are_new seen all && values.are_distinct all)) first h) same present

-- none is left
pub none_left : {A : Type 0} (f : A → List ℕ) (whole : Bool) (seen : List (Bor (List ℕ))) (xs : List A) → whole ≡ (are_new seen (map f xs) && values.are_distinct (map f xs)) → length xs < 1 → whole ≡ true
unfolding are_new
none_left f whole seen [] h few = h
none_left f whole seen (x ∷ xs) h few = absurd (omega arith)

-- none is left of names
pub no_name_left : (whole : Bool) (seen : List (Bor (List ℕ))) (names : List (List ℕ)) → whole ≡ (are_new seen names && values.are_distinct names) → length names < 1 → whole ≡ true
unfolding are_new
no_name_left whole seen [] h few = h
no_name_left whole seen (name ∷ names) h few = absurd (omega arith)
