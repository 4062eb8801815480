-- What a walk may go on with: where a stack leads to words, a walk that has it doesn't stop at one of them.
use Rattle.std.proofs.Common.{◌≡◌, ℕ, zero, suc, Bool, true, false, ◌||◌, if◌then◌else◌, List, [], ◌∷◌, ◌++◌, ◌⊎◌, map, Option, Some, None, refl, inl, inr, sym, ap, subst, append_assoc}
use Rattle.std.specs.Prelude.{take, drop}
use Rattle.std.specs.List.{filter, flat_map, list_any}
use Rattle.rls_text.specs.declared.token.Token.{Token as TextToken}
use Rattle.rls_text.specs.Lang.{only, Both, Mapped, Either, Perhaps, Many, Checked, One}
use Rattle.rls_hints.specs.declared.grammar.Item.{Item}
use Rattle.rls_hints.specs.declared.grammar.Item.TheVariants as i
use Rattle.rls_hints.specs.declared.grammar.Phrase.{Phrase}
use Rattle.rls_hints.specs.Rows.{alternatives}
use Rattle.rls_hints.specs.Walking.{Coming, Whatever, End, This, Found, fits, is_open, may_begin, opened_one, opened, ready_of, behind_one, may_end, is_empty, fault_from}
use Rattle.rls_hints.specs.Beginnings.{seen}

-- ---- a list that has a value

-- it is in the list
abbrev pub In : {A : Type 0} → A → List A → Type 0
In x [] = ⊥
In x (y ∷ ys) = (y ≡ x) ⊎ In x ys

in_front : {A : Type 0} (x : A) (xs ys : List A) → In x xs → In x (xs ++ ys)
in_front x [] ys h = absurd h
in_front x (y ∷ xs) ys h = elim h [ inl e ↦ inl e | inr more ↦ inr (in_front x xs ys more) ]

in_back : {A : Type 0} (x : A) (xs ys : List A) → In x ys → In x (xs ++ ys)
in_back x [] ys h = h
in_back x (y ∷ xs) ys h = inr (in_back x xs ys h)

in_flat : {A B : Type 0} (f : A → List B) (x : A) (y : B) (xs : List A) → In x xs → In y (f x) → In y (flat_map f xs)
in_flat f x y [] h g = absurd h
in_flat f x y (z ∷ xs) h g = elim h [
  | inl e ↦ in_front y (f z) (flat_map f xs) (subst (λ w. In y (f w)) (sym e) g)
  | inr more ↦ in_back y (f z) (flat_map f xs) (in_flat f x y xs more g)
]

in_map : {A B : Type 0} (f : A → B) (x : A) (xs : List A) → In x xs → In (f x) (map f xs)
in_map f x [] h = absurd h
in_map f x (z ∷ xs) h = elim h [ inl e ↦ inl (ap f e) | inr more ↦ inr (in_map f x xs more) ]

in_any : {A : Type 0} (test : A → Bool) (x : A) (xs : List A) → In x xs → test x ≡ true → list_any test xs ≡ true
in_any test x [] h t = absurd h
in_any test x (z ∷ xs) h t = elim h [
  | inl e ↦ rw (e, t) refl
  | inr more ↦ go (test z) (in_any test x xs more t)
]
  where
    go : (b : Bool) → list_any test xs ≡ true → (b || list_any test xs) ≡ true
    go true e = refl
    go false e = e

not_empty : (x : List Item) (xs : List (List Item)) → In x xs → is_empty xs ≡ false
not_empty x [] h = absurd h
not_empty x (y ∷ xs) h = refl

-- ---- stacks that lead to words

-- what comes first of the words
abbrev pub first_of : List TextToken → Coming
first_of [] = End
first_of (word ∷ words) = This (seen word)

-- the walk, where this was opened so far of the stacks
unfoldable pub goes_from : ℕ → List (List Item) → List (List Item) → List TextToken → Found
goes_from place stacks ready [] = if◌then◌else◌ {A = Found} (list_any may_end ready) None (Some (place, ready_of Whatever stacks))
goes_from place stacks ready (word ∷ words) = if◌then◌else◌ {A = Found} (is_empty (flat_map (behind_one (seen word)) ready)) (Some (place, ready_of Whatever stacks)) (fault_from (suc place) (flat_map (behind_one (seen word)) ready) (map seen words))

-- The stack may stand before the words, and however often phrases are still opened, a walk that has it doesn't stop at one of the words, nor at
-- their end.
pub record Leads (stack : List Item) (words : List TextToken) : Type 0 where
  pub begins : may_begin (first_of words) stack ≡ true
  pub goes : (n place : ℕ) (stacks now : List (List Item)) → In stack now → goes_from place stacks (opened n (first_of words) now) words ≡ None

-- a walk that begins with the stack
pub leads_from : (stack : List Item) (words : List TextToken) (place : ℕ) (stacks : List (List Item)) → Leads stack words → In stack stacks → fault_from place stacks (map seen words) ≡ None
unfolding fault_from goes_from ready_of
leads_from stack [] place stacks leads h = leads.goes 16 place stacks stacks h
leads_from stack (word ∷ words) place stacks leads h = leads.goes 16 place stacks stacks h

-- what is no phrase stays on top
stays : (next : Coming) (stack : List Item) (n : ℕ) (now : List (List Item)) → opened_one next stack ≡ stack ∷ [] → In stack now → In stack (opened n next now)
unfolding opened
stays next stack zero now e h = h
stays next stack (suc n) now e h = stays next stack n (flat_map (opened_one next) now) e (in_flat (opened_one next) stack stack now h (subst (λ opened. In stack opened) (sym e) (inl refl)))

-- where a word is taken the walk goes on
goes_on : (place : ℕ) (stacks ready : List (List Item)) (word : TextToken) (words : List TextToken) (stack : List Item) → In stack (flat_map (behind_one (seen word)) ready) → Leads stack words → goes_from place stacks ready (word ∷ words) ≡ None
unfolding goes_from
goes_on place stacks ready word words stack behind leads = rw (not_empty stack _ behind) (leads_from stack words (suc place) _ leads behind)

-- where the line may end it isn't blamed for its end
ends : (place : ℕ) (stacks ready : List (List Item)) (stack : List Item) → In stack ready → may_end stack ≡ true → goes_from place stacks ready [] ≡ None
unfolding goes_from
ends place stacks ready stack h e = rw (in_any may_end stack ready h e) refl

-- what takes all leads to all
any_leads : (words : List TextToken) → Leads (i.Any ∷ []) words
any_leads [] = record { begins = refl; goes = λ n place stacks now h. ends place stacks (opened n End now) (i.Any ∷ []) (stays End (i.Any ∷ []) n now refl h) refl }
any_leads (word ∷ words) = record {
  begins = refl;
  goes = λ n place stacks now h.
      let ready = opened n (This (seen word)) now in
      let here : In (i.Any ∷ []) ready = stays (This (seen word)) (i.Any ∷ []) n now refl h in
      goes_on place stacks ready word words (i.Any ∷ []) (in_flat (behind_one (seen word)) (i.Any ∷ []) (i.Any ∷ []) ready here (inl refl)) (any_leads words);
}

-- a phrase that isn't opened takes all
phrase_goes : (phrase : Phrase) (rest : List Item) (words : List TextToken) (place : ℕ) (stacks ready : List (List Item)) → In (i.Part phrase ∷ rest) ready → goes_from place stacks ready words ≡ None
phrase_goes phrase rest [] place stacks ready h = ends place stacks ready (i.Part phrase ∷ rest) h refl
phrase_goes phrase rest (word ∷ words) place stacks ready h = goes_on place stacks ready word words (i.Any ∷ []) (in_flat (behind_one (seen word)) (i.Part phrase ∷ rest) (i.Any ∷ []) ready h (inl refl)) (any_leads words)

-- nothing leads to the end
pub nothing_leads : Leads [] []
nothing_leads = record { begins = refl; goes = λ n place stacks now h. ends place stacks (opened n End now) [] (stays End [] n now refl h) refl }

or_true : (a : Bool) → (a || true) ≡ true
or_true true = refl
or_true false = refl

-- a word that the item stands for, and then what the rest leads to
word_leads : (item : Item) (rest : List Item) (word : TextToken) (words : List TextToken) → is_open item ≡ false → fits item (seen word) ≡ true → ((next : Coming) → opened_one next (item ∷ rest) ≡ (item ∷ rest) ∷ []) → Leads rest words → Leads (item ∷ rest) (word ∷ words)
word_leads item rest word words closed fit same more = record {
  begins = rw (fit) (or_true (is_open item));
  goes = λ n place stacks now h.
      let ready = opened n (This (seen word)) now in
      let here : In (item ∷ rest) ready = stays (This (seen word)) (item ∷ rest) n now (same (This (seen word))) h in
      goes_on place stacks ready word words rest (in_flat (behind_one (seen word)) (item ∷ rest) rest ready here (rw (closed, fit) (inl refl))) more;
}

-- a row may begin as what it begins may
row_begins : (next : Coming) (items rest : List Item) → may_begin next (items ++ rest) ≡ true → may_begin next items ≡ true
row_begins Whatever items rest h = refl
row_begins End [] rest h = refl
row_begins End (item ∷ items) rest h = h
row_begins (This token) [] rest h = refl
row_begins (This token) (item ∷ items) rest h = h

in_filter : {A : Type 0} (test : A → Bool) (x : A) (xs : List A) → In x xs → test x ≡ true → In x (filter test xs)
in_filter test x [] h t = absurd h
in_filter test x (z ∷ xs) h t = elim h [
  | inl e ↦ (let passes : test z ≡ true = subst (λ y. test y ≡ true) (sym e) t in rw passes (inl e))
  | inr more ↦ go (test z) (in_filter test x xs more t)
]
  where
    go : (b : Bool) → In x (filter test xs) → In x (if◌then◌else◌ b (z ∷ filter test xs) (filter test xs))
    go true h = inr h
    go false h = h

phrase_begins : (words : List TextToken) (phrase : Phrase) (rest : List Item) → may_begin (first_of words) (i.Part phrase ∷ rest) ≡ true
phrase_begins [] phrase rest = refl
phrase_begins (word ∷ words) phrase rest = refl

-- what may stand for a phrase, and what the rest leads to behind it
part_leads : (phrase : Phrase) (items rest : List Item) (words : List TextToken) → In items (alternatives phrase) → Leads (items ++ rest) words → Leads (i.Part phrase ∷ rest) words
unfolding opened
part_leads phrase items rest words one more = record { begins = phrase_begins words phrase rest; goes = go }
  where
    go : (n place : ℕ) (stacks now : List (List Item)) → In (i.Part phrase ∷ rest) now → goes_from place stacks (opened n (first_of words) now) words ≡ None
    go zero place stacks now h = phrase_goes phrase rest words place stacks now h
    go (suc n) place stacks now h =
        let row : In items (filter (may_begin (first_of words)) (alternatives phrase)) = in_filter (may_begin (first_of words)) items (alternatives phrase) one (row_begins (first_of words) items rest more.begins) in
        more.goes n place stacks (flat_map (opened_one (first_of words)) now) (in_flat (opened_one (first_of words)) (i.Part phrase ∷ rest) (items ++ rest) now h (in_map (λ its. its ++ rest) items (filter (may_begin (first_of words)) (alternatives phrase)) row))

-- ---- languages that items read

-- the items lead to what the language spells, and then to what follows
pub record Reads {A : Type 0} (p : List TextToken → A → Type 0) (items : List Item) : Type 0 where
  pub read : (front words : List TextToken) (a : A) (rest : List Item) → p front a → Leads rest words → Leads (items ++ rest) (front ++ words)

-- a word or a sign
pub reads_only : (item : Item) (token : TextToken) → is_open item ≡ false → ((next : Coming) (rest : List Item) → opened_one next (item ∷ rest) ≡ (item ∷ rest) ∷ []) → fits item (seen token) ≡ true → Reads (only token) (item ∷ [])
reads_only item token closed same fit = record { read = λ front words a rest h more. rw h (word_leads item rest token words closed fit (λ next. same next rest) more) }

-- a word of a kind
pub reads_one : {A : Type 0} (item : Item) (f : TextToken → Option A) → is_open item ≡ false → ((next : Coming) (rest : List Item) → opened_one next (item ∷ rest) ≡ (item ∷ rest) ∷ []) → ((t : TextToken) (a : A) → f t ≡ Some a → fits item (seen t) ≡ true) → Reads (One f) (item ∷ [])
reads_one item f closed same fit = record { read = λ front words a rest h more. rw (h.alone) (word_leads item rest h.token words closed (fit h.token a h.value) (λ next. same next rest) more) }

-- nothing
reads_nothing : (rest : List Item) (words front : List TextToken) → front ≡ [] → Leads rest words → Leads rest (front ++ words)
reads_nothing rest words front e more = rw e more

-- one, and then the other
pub reads_both : {A B : Type 0} (p : List TextToken → A → Type 0) (q : List TextToken → B → Type 0) (xs ys : List Item) → Reads p xs → Reads q ys → Reads (Both p q) (xs ++ ys)
reads_both p q xs ys P Q = record {
  read = λ front words r rest h more.
      rw (h.split, append_assoc h.front h.rest words, append_assoc xs ys rest) (P.read h.front (h.rest ++ words) r.0 (ys ++ rest) h.one (Q.read h.rest words r.1 rest h.other more));
}

pub reads_mapped : {A B : Type 0} (f : A → B) (p : List TextToken → A → Type 0) (items : List Item) → Reads p items → Reads (Mapped f p) items
reads_mapped f p items P = record { read = λ front words b rest h more. P.read front words h.source rest h.spelled more }

pub reads_checked : {A : Type 0} (test : A → Bool) (p : List TextToken → A → Type 0) (items : List Item) → Reads p items → Reads (Checked test p) items
reads_checked test p items P = record { read = λ front words a rest h more. P.read front words a rest h.spelled more }

-- one or the other, where the items lead to both
pub reads_either : {A : Type 0} (p q : List TextToken → A → Type 0) (items : List Item) → Reads p items → Reads q items → Reads (Either p q) items
reads_either {A = A} p q items P Q = record { read = go }
  where
    go : (front words : List TextToken) (a : A) (rest : List Item) → Either p q front a → Leads rest words → Leads (items ++ rest) (front ++ words)
    go front words a rest h more = elim h [ inl x ↦ P.read front words a rest x more | inr x ↦ Q.read front words a rest x more ]

-- a phrase, by one of its rules
pub reads_part : {A : Type 0} (phrase : Phrase) (items : List Item) (p : List TextToken → A → Type 0) → In items (alternatives phrase) → Reads p items → Reads p (i.Part phrase ∷ [])
reads_part phrase items p one P = record { read = λ front words a rest h more. part_leads phrase items rest (front ++ words) one (P.read front words a rest h more) }

-- one, or nothing
pub reads_perhaps : {A : Type 0} (phrase : Phrase) (items : List Item) (p : List TextToken → A → Type 0) → In [] (alternatives phrase) → In items (alternatives phrase) → Reads p items → Reads (Perhaps p) (i.Part phrase ∷ [])
reads_perhaps {A = A} phrase items p none one P = record { read = go }
  where
    go : (front words : List TextToken) (a : Option A) (rest : List Item) → Perhaps p front a → Leads rest words → Leads (i.Part phrase ∷ rest) (front ++ words)
    go front words None rest h more = part_leads phrase [] rest (front ++ words) none (reads_nothing rest words front h more)
    go front words (Some a) rest h more = part_leads phrase items rest (front ++ words) one (P.read front words a rest h more)

-- any number of them
pub reads_many : {A : Type 0} (phrase : Phrase) (items : List Item) (p : List TextToken → A → Type 0) → In [] (alternatives phrase) → In (items ++ i.Part phrase ∷ []) (alternatives phrase) → Reads p items → Reads (Many p) (i.Part phrase ∷ [])
reads_many {A = A} phrase items p none one P = record { read = go }
  where
    go : (front words : List TextToken) (all : List A) (rest : List Item) → Many p front all → Leads rest words → Leads (i.Part phrase ∷ rest) (front ++ words)
    go front words [] rest h more = part_leads phrase [] rest (front ++ words) none (reads_nothing rest words front h more)
    go front words (a ∷ others) rest h more =
        let again : Leads (i.Part phrase ∷ rest) (h.1 ++ words) = go h.1 words others rest h.4 more in
        let first : Leads (items ++ (i.Part phrase ∷ rest)) (h.0 ++ (h.1 ++ words)) = P.read h.0 (h.1 ++ words) a (i.Part phrase ∷ rest) h.3 again in
        part_leads phrase (items ++ i.Part phrase ∷ []) rest (front ++ words) one (rw (h.2, append_assoc h.0 h.1 words, append_assoc items (i.Part phrase ∷ []) rest) first)

-- ---- the rows of the rules

-- the row at this place, or nothing
abbrev pub row_in : List (List Item) → ℕ → List Item
row_in [] k = []
row_in (items ∷ rows) zero = items
row_in (items ∷ rows) (suc k) = row_in rows k

-- a phrase's row
abbrev pub row : Phrase → ℕ → List Item
row phrase k = row_in (alternatives phrase) k

-- so many rows at least
abbrev pub has_row : List (List Item) → ℕ → Bool
has_row [] k = false
has_row (items ∷ rows) zero = true
has_row (items ∷ rows) (suc k) = has_row rows k

in_row : (rows : List (List Item)) (k : ℕ) → has_row rows k ≡ true → In (row_in rows k) rows
in_row [] k h = cc
in_row (items ∷ rows) zero h = inl refl
in_row (items ∷ rows) (suc k) h = inr (in_row rows k h)

-- a phrase, by the row at this place
pub by_row : {A : Type 0} {p : List TextToken → A → Type 0} (phrase : Phrase) (k : ℕ) → has_row (alternatives phrase) k ≡ true → Reads p (row phrase k) → Reads p (i.Part phrase ∷ [])
by_row {p = p} phrase k h P = reads_part phrase (row phrase k) p (in_row (alternatives phrase) k h) P

-- one, or nothing, by the second row, of which the first is empty
pub by_perhaps : {A : Type 0} {p : List TextToken → A → Type 0} (phrase : Phrase) → has_row (alternatives phrase) 1 ≡ true → row phrase 0 ≡ [] → Reads p (row phrase 1) → Reads (Perhaps p) (i.Part phrase ∷ [])
by_perhaps {p = p} phrase h e P = reads_perhaps phrase (row phrase 1) p (subst (λ its. In its (alternatives phrase)) e (in_row (alternatives phrase) 0 (first_too (alternatives phrase) h))) (in_row (alternatives phrase) 1 h) P
  where
    first_too : (rows : List (List Item)) → has_row rows 1 ≡ true → has_row rows 0 ≡ true
    first_too [] h = cc
    first_too (items ∷ rows) h = refl

-- any number of them, by the second row, which ends with the phrase again
pub by_many : {A : Type 0} {p : List TextToken → A → Type 0} (phrase : Phrase) (k : ℕ) → has_row (alternatives phrase) 1 ≡ true → row phrase 0 ≡ [] → row phrase 1 ≡ take k (row phrase 1) ++ i.Part phrase ∷ [] → Reads p (take k (row phrase 1)) → Reads (Many p) (i.Part phrase ∷ [])
by_many {p = p} phrase k h e s P = reads_many phrase (take k (row phrase 1)) p (subst (λ its. In its (alternatives phrase)) e (in_row (alternatives phrase) 0 (first_too (alternatives phrase) h)))
    (subst (λ its. In its (alternatives phrase)) s (in_row (alternatives phrase) 1 h)) P
  where
    first_too : (rows : List (List Item)) → has_row rows 1 ≡ true → has_row rows 0 ≡ true
    first_too [] h = cc
    first_too (items ∷ rows) h = refl

take_drop : (k : ℕ) (items : List Item) → take k items ++ drop k items ≡ items
take_drop zero items = refl
take_drop (suc k) [] = refl
take_drop (suc k) (x ∷ xs) = ap (λ its. x ∷ its) (take_drop k xs)

-- one, by the first of the items, and then the other
pub by_both : {A B : Type 0} {p : List TextToken → A → Type 0} {q : List TextToken → B → Type 0} {items : List Item} (k : ℕ) → Reads p (take k items) → Reads q (drop k items) → Reads (Both p q) items
by_both {p = p} {q = q} {items = items} k P Q = subst (λ its. Reads (Both p q) its) (take_drop k items) (reads_both p q (take k items) (drop k items) P Q)

pub by_mapped : {A B : Type 0} {f : A → B} {p : List TextToken → A → Type 0} {items : List Item} → Reads p items → Reads (Mapped f p) items
by_mapped {f = f} {p = p} {items = items} P = reads_mapped f p items P

pub by_checked : {A : Type 0} {test : A → Bool} {p : List TextToken → A → Type 0} {items : List Item} → Reads p items → Reads (Checked test p) items
by_checked {test = test} {p = p} {items = items} P = reads_checked test p items P

pub by_either : {A : Type 0} {p q : List TextToken → A → Type 0} {items : List Item} → Reads p items → Reads q items → Reads (Either p q) items
by_either {p = p} {q = q} {items = items} P Q = reads_either p q items P Q

-- this word or sign is all that the items are
abbrev pub is_head : Item → Bool
is_head (i.Part phrase) = false
is_head i.Any = false
is_head _ = true

abbrev pub are_only : TextToken → List Item → Bool
are_only token (item ∷ []) = if◌then◌else◌ {A = Bool} (is_head item) (fits item (seen token)) false
are_only token _ = false

head_closed : (item : Item) → is_head item ≡ true → is_open item ≡ false
head_closed (i.Part phrase) h = cc
head_closed i.Any h = cc
head_closed _ h = refl

head_same : (item : Item) → is_head item ≡ true → (next : Coming) (rest : List Item) → opened_one next (item ∷ rest) ≡ (item ∷ rest) ∷ []
head_same (i.Part phrase) h next rest = cc
head_same _ h next rest = refl

both_true : (a b : Bool) → if◌then◌else◌ {A = Bool} a b false ≡ true → (a ≡ true) × (b ≡ true)
both_true true b h = (refl, h)
both_true false b h = cc

only_reads : (token : TextToken) (items : List Item) → are_only token items ≡ true → Reads (only token) items
only_reads token [] h = cc
only_reads token (item ∷ []) h =
    let parts = both_true (is_head item) (fits item (seen token)) h in
    reads_only item token (head_closed item parts.0) (head_same item parts.0) parts.1
only_reads token (item ∷ other ∷ more) h = cc

pub by_token : {token : TextToken} {items : List Item} → are_only token items ≡ true → Reads (only token) items
by_token {token = token} {items = items} h = only_reads token items h

-- a word, and then what follows
pub by_after : {A B : Type 0} {f : Unit {0} × A → B} {token : TextToken} {q : List TextToken → A → Type 0} {items : List Item} → are_only token (take 1 items) ≡ true → Reads q (drop 1 items) → Reads (Mapped f (Both (only token) q)) items
by_after h Q = by_mapped (by_both 1 (by_token h) Q)
