-- Readers: each reads one language, exactly, whatever follows that it can't go on with.
use Rattle.std.specs.Prelude.{◌≡◌, ℕ, zero, suc, ◌≤◌, Bool, true, false, ◌&&◌, ◌||◌, not, if◌then◌else◌, List, [], ◌∷◌, ◌++◌, length, ◌⊎◌, Option, Some, None, refl}
use Rattle.std.proofs.Common.{arith, sym, ◌∙◌, ap, subst, inl, inr, append_assoc, length-append}
use denote.Enum.Bare.{same_true}
use Rattle.rls_text.specs.contracts.token.Symbol.{the_type}
use Rattle.std.proofs.lemmas.Slice.Eq.{bytes_eq-Decides}
use Rattle.rls_text.specs.declared.token.Token.{Token}
use Rattle.rls_text.specs.declared.token.Token.TheVariants.{Word, Number, Text, Bad}
use Rattle.rls_text.specs.declared.token.Token.TheVariants as t
use Rattle.rls_text.specs.declared.token.Symbol.TheVariants as s
use Rattle.rls_text.specs.Heads.{Head, Exact, Names, Numbers, Texts, same, fits, begins, sees, clash, clash_any, apart, same_head, has_head, within}
use Rattle.rls_text.specs.Lang.{only, Both, Mapped, Either, Perhaps, Many, Checked, Never, One, After, Before}

-- ---- heads

same_is : (t u : Token) → same t u ≡ true → t ≡ u
same_is (Word a) (Word b) h = ap Word ((bytes_eq-Decides a b).0 h)
same_is (t.Symbol a) (t.Symbol b) h = ap t.Symbol (same_true the_type tt a b h)
same_is _ _ h = cc

abbrev two_facts : Bool → Type 0
two_facts b = (b ≡ true) ⊎ (b ≡ false)

which : (b : Bool) → (b ≡ true) ⊎ (b ≡ false)
which true = inl refl
which false = inr refl

or_is : (a b : Bool) → (a || b) ≡ true → (a ≡ true) ⊎ (b ≡ true)
or_is true b h = inl refl
or_is false b h = inr h

or_left : (a b : Bool) → a ≡ true → (a || b) ≡ true
or_left true b h = refl
or_left false b h = cc

or_right : (a b : Bool) → b ≡ true → (a || b) ≡ true
or_right true b h = refl
or_right false b h = h

or_none : (a b : Bool) → (a || b) ≡ false → (a ≡ false) × (b ≡ false)
or_none true b h = cc
or_none false b h = (refl, h)

and_is : (a b : Bool) → (a && b) ≡ true → (a ≡ true) × (b ≡ true)
and_is true b h = (refl, h)
and_is false b h = cc

not_is : (a : Bool) → not a ≡ true → a ≡ false
not_is true h = cc
not_is false h = refl

never_both : (b : Bool) → b ≡ true → b ≡ false → ⊥
never_both b h k = cc

no_clash : (h k : Head) (t : Token) → clash h k ≡ false → fits h t ≡ true → fits k t ≡ true → ⊥
no_clash (Exact u) k t apart one other = never_both (fits k t) other (ap (fits k) (sym (same_is u t one)) ∙ apart)
no_clash Names (Exact u) t apart one other = never_both (fits Names t) one (ap (fits Names) (sym (same_is u t other)) ∙ apart)
no_clash Numbers (Exact u) t apart one other = never_both (fits Numbers t) one (ap (fits Numbers) (sym (same_is u t other)) ∙ apart)
no_clash Texts (Exact u) t apart one other = never_both (fits Texts t) one (ap (fits Texts) (sym (same_is u t other)) ∙ apart)
no_clash Names Names t apart one other = cc
no_clash Numbers Numbers t apart one other = cc
no_clash Texts Texts t apart one other = cc
no_clash Names Numbers (Word w) apart one other = cc
no_clash Names Numbers _ apart one other = cc
no_clash Names Texts (Word w) apart one other = cc
no_clash Names Texts _ apart one other = cc
no_clash Numbers Names (Number w) apart one other = cc
no_clash Numbers Names _ apart one other = cc
no_clash Numbers Texts (Number w) apart one other = cc
no_clash Numbers Texts _ apart one other = cc
no_clash Texts Names (Text w) apart one other = cc
no_clash Texts Names _ apart one other = cc
no_clash Texts Numbers (Text w) apart one other = cc
no_clash Texts Numbers _ apart one other = cc

no_clash_any : (h : Head) (ks : List Head) (t : Token) → clash_any h ks ≡ false → fits h t ≡ true → begins ks t ≡ true → ⊥
no_clash_any h [] t apart one other = cc
no_clash_any h (k ∷ ks) t apart one other =
    let parts = or_none (clash h k) (clash_any h ks) apart in
    let back : ⊥ = elim (or_is (fits k t) (begins ks t) other) [ inl x ↦ no_clash h k t parts.0 one x | inr x ↦ no_clash_any h ks t parts.1 one x ] in back

apart_is : (hs ks : List Head) (t : Token) → apart hs ks ≡ true → begins hs t ≡ true → begins ks t ≡ true → ⊥
apart_is [] ks t h one other = cc
apart_is (h ∷ hs) ks t e one other =
    let parts = and_is (not (clash_any h ks)) (apart hs ks) e in
    let back : ⊥ = elim (or_is (fits h t) (begins hs t) one) [ inl x ↦ no_clash_any h ks t (not_is (clash_any h ks) parts.0) x other | inr x ↦ apart_is hs ks t parts.1 x other ] in back

not_true : (b : Bool) → (b ≡ true → ⊥) → b ≡ false
not_true true h = absurd (h refl)
not_true false h = refl

pub unseen : (hs ks : List Head) (ts : List Token) → apart hs ks ≡ true → sees hs ts ≡ true → sees ks ts ≡ false
unseen hs ks [] e h = cc
unseen hs ks (t ∷ ts) e h = not_true (begins ks t) (apart_is hs ks t e h)

unseen_back : (hs ks : List Head) (ts : List Token) → apart hs ks ≡ true → sees ks ts ≡ true → sees hs ts ≡ false
unseen_back hs ks [] e h = cc
unseen_back hs ks (t ∷ ts) e h = not_true (begins hs t) (λ x. apart_is hs ks t e x h)

pub begins-append : (hs ks : List Head) (t : Token) → begins (hs ++ ks) t ≡ (begins hs t || begins ks t)
begins-append [] ks t = refl
begins-append (h ∷ hs) ks t = go (fits h t) (begins hs t) (begins ks t) (begins (hs ++ ks) t) (begins-append hs ks t)
  where
    go : (a b c d : Bool) → d ≡ (b || c) → (a || d) ≡ ((a || b) || c)
    go true b c d e = refl
    go false b c d e = e

sees_front : (hs ks : List Head) (ts : List Token) → sees hs ts ≡ true → sees (hs ++ ks) ts ≡ true
sees_front hs ks [] h = cc
sees_front hs ks (t ∷ ts) h = begins-append hs ks t ∙ or_left (begins hs t) (begins ks t) h

sees_back : (hs ks : List Head) (ts : List Token) → sees ks ts ≡ true → sees (hs ++ ks) ts ≡ true
sees_back hs ks [] h = cc
sees_back hs ks (t ∷ ts) h = begins-append hs ks t ∙ or_right (begins hs t) (begins ks t) h

pub unseen_parts : (hs ks : List Head) (ts : List Token) → sees (hs ++ ks) ts ≡ false → (sees hs ts ≡ false) × (sees ks ts ≡ false)
unseen_parts hs ks [] h = (refl, refl)
unseen_parts hs ks (t ∷ ts) h = or_none (begins hs t) (begins ks t) (sym (begins-append hs ks t) ∙ h)

sees_longer : (hs : List Head) (ts us : List Token) → sees hs ts ≡ true → sees hs (ts ++ us) ≡ true
sees_longer hs [] us h = cc
sees_longer hs (t ∷ ts) us h = h

same_head_is : (h k : Head) (t : Token) → same_head h k ≡ true → fits h t ≡ true → fits k t ≡ true
same_head_is (Exact u) (Exact v) t e h = ap (λ x. same x t) (sym (same_is u v e)) ∙ h
same_head_is Names Names t e h = h
same_head_is Numbers Numbers t e h = h
same_head_is Texts Texts t e h = h
same_head_is _ _ t e h = cc

has_head_is : (h : Head) (ks : List Head) (t : Token) → has_head h ks ≡ true → fits h t ≡ true → begins ks t ≡ true
has_head_is h [] t e x = cc
has_head_is h (k ∷ ks) t e x = elim (or_is (same_head h k) (has_head h ks) e) [
  | inl y ↦ or_left (fits k t) (begins ks t) (same_head_is h k t y x)
  | inr y ↦ or_right (fits k t) (begins ks t) (has_head_is h ks t y x)
]

within_is : (hs ks : List Head) (t : Token) → within hs ks ≡ true → begins hs t ≡ true → begins ks t ≡ true
within_is [] ks t e x = cc
within_is (h ∷ hs) ks t e x =
    let parts = and_is (has_head h ks) (within hs ks) e in
    elim (or_is (fits h t) (begins hs t) x) [ inl y ↦ has_head_is h ks t parts.0 y | inr y ↦ within_is hs ks t parts.1 y ]

pub sees_within : (hs ks : List Head) (ts : List Token) → within hs ks ≡ true → sees hs ts ≡ true → sees ks ts ≡ true
sees_within hs ks [] e x = cc
sees_within hs ks (t ∷ ts) e x = within_is hs ks t e x

pub unseen_within : (hs ks : List Head) (ts : List Token) → within hs ks ≡ true → sees ks ts ≡ false → sees hs ts ≡ false
unseen_within hs ks ts e x = not_true (sees hs ts) (λ y. never_both (sees ks ts) (sees_within hs ks ts e y) x)

-- ---- readers

-- the value, and the tokens behind it
abbrev pub Outcome : Type 0 → Type 0
Outcome A = Option (A × List Token)

-- the one reader, and behind what it took the other
abbrev pub and_then : {A B : Type 0} → Outcome A → (A → List Token → Outcome B) → Outcome B
and_then None f = None
and_then (Some x) f = f x.0 x.1

record Step {A B : Type 0} (o : Outcome A) (f : A → List Token → Outcome B) (y : B × List Token) : Type 0 where
  value : A
  behind : List Token
  here : o ≡ Some (value, behind)
  there : f value behind ≡ Some y

step : {A B : Type 0} (o : Outcome A) (f : A → List Token → Outcome B) (y : B × List Token) → and_then o f ≡ Some y → Step o f y
step None f y h = cc
step (Some x) f y h = record { value = x.0; behind = x.1; here = refl; there = h }

-- the tokens are a phrase for the value, and the rest
pub record Front {A : Type 0} (p : List Token → A → Type 0) (ts : List Token) (a : A) (rest : List Token) : Type 0 where
  pub front : List Token
  pub split : ts ≡ front ++ rest
  pub spelled : p front a

-- A reader of the language p, whose phrases begin with one of `heads` (or are empty, where `empty`), and which goes on at one of `more`.
pub record Parses {A : Type 0} (p : List Token → A → Type 0) (heads more : List Head) (empty : Bool) : Type 0 where
  pub read : List Token → Outcome A
  pub sound : (ts rest : List Token) (a : A) → read ts ≡ Some (a, rest) → Front p ts a rest
  pub complete : (front rest : List Token) (a : A) → p front a → sees more rest ≡ false → read (front ++ rest) ≡ Some (a, rest)
  pub starts : (front : List Token) (a : A) → p front a → ((front ≡ []) × (empty ≡ true)) ⊎ (sees heads front ≡ true)

-- what a reader found is one value, and one rest
pub found : {A : Type 0} (x y : A × List Token) → ◌≡◌ {A = Outcome A} (Some x) (Some y) → (x.0 ≡ y.0) × (x.1 ≡ y.1)
found x y h = let e : x ≡ y = cc in (ap (λ z. z.0) e, ap (λ z. z.1) e)

-- ---- one token

-- takes this very token
abbrev pub read_token : Token → List Token → Outcome (Unit {0})
read_token t [] = None
read_token t (u ∷ ts) = if same t u then Some (tt, ts) else None

pub token_sound : (t : Token) (ts rest : List Token) (a : Unit {0}) → read_token t ts ≡ Some (a, rest) → Front (only t) ts a rest
token_sound t [] rest a h = cc
token_sound t (u ∷ ts) rest a h = go (same t u) refl h
  where
    go : (b : Bool) → same t u ≡ b → if◌then◌else◌ {A = Outcome (Unit {0})} b (Some (tt, ts)) None ≡ Some (a, rest) → Front (only t) (u ∷ ts) a rest
    go true e h = let r = (found (tt, ts) (a, rest) h).1 in let s : t ≡ u = same_is t u e in record { front = t ∷ []; split = (ap (λ x. x ∷ ts) (sym s)) ∙ ap (λ x. t ∷ x) r; spelled = refl }
    go false e h = cc

pub token_complete : (t : Token) → same t t ≡ true → (front rest : List Token) (a : Unit {0}) → only t front a → sees [] rest ≡ false → read_token t (front ++ rest) ≡ Some (a, rest)
token_complete t e front rest a h _ = rw h (rw e refl)

pub token_starts : (t : Token) → same t t ≡ true → (front : List Token) (a : Unit {0}) → only t front a → ((front ≡ []) × (false ≡ true)) ⊎ (sees (Exact t ∷ []) front ≡ true)
token_starts t e front a h = inr (rw h (or_left (same t t) false e))

-- a reader of one token
abbrev pub token : (t : Token) → same t t ≡ true → Parses (only t) (Exact t ∷ []) [] false
token t e = record { read = read_token t; sound = token_sound t; complete = token_complete t e; starts = token_starts t e }

-- ---- one behind the other

-- the heads, if the test holds
abbrev pub when : Bool → List Head → List Head
when true hs = hs
when false hs = []

-- takes the one, then the other
abbrev pub read_both : {A B : Type 0} → (List Token → Outcome A) → (List Token → Outcome B) → List Token → Outcome (A × B)
read_both p q ts = and_then (p ts) (λ a rest. and_then (q rest) (λ b behind. Some ((a, b), behind)))

module _ {A B : Type 0} (p : List Token → A → Type 0) (q : List Token → B → Type 0) (hp mp hq mq : List Head) (ep eq : Bool) (P : Parses p hp mp ep) (Q : Parses q hq mq eq) where
  pub both_sound : (ts rest : List Token) (r : A × B) → read_both P.read Q.read ts ≡ Some (r, rest) → Front (Both p q) ts r rest
  both_sound ts rest r h =
      let s = step (P.read ts) (λ a rest. and_then (Q.read rest) (λ b behind. Some ((a, b), behind))) (r, rest) h in
      let u = step (Q.read s.behind) (λ b behind. Some ((s.value, b), behind)) (r, rest) s.there in
      let one = P.sound ts s.behind s.value s.here in
      let other = Q.sound s.behind u.behind u.value u.here in
      let e = (found ((s.value, u.value), u.behind) (r, rest) u.there).0 in
      let f = (found ((s.value, u.value), u.behind) (r, rest) u.there).1 in
      record {
        front = one.front ++ other.front;
        split = one.split ∙ ap (λ x. one.front ++ x) (other.split ∙ ap (λ x. other.front ++ x) f) ∙ sym (append_assoc one.front other.front rest);
        spelled = record { front = one.front; rest = other.front; split = refl; one = subst (λ x. p one.front x) (ap (λ x. x.0) e) one.spelled; other = subst (λ x. q other.front x) (ap (λ x. x.1) e) other.spelled };
      }

  follows : (front rest : List Token) (b : B) → q front b → apart mp hq ≡ true → sees (mq ++ when eq mp) rest ≡ false → sees mp (front ++ rest) ≡ false
  follows front rest b h e stop = elim (Q.starts front b h) [
    | inl x ↦ rw (x.0) (go eq x.1 (unseen_parts mq (when eq mp) rest stop).1)
    | inr x ↦ unseen_back mp hq (front ++ rest) e (sees_longer hq front rest x)
  ]
    where
      go : (b : Bool) → b ≡ true → sees (when b mp) rest ≡ false → sees mp rest ≡ false
      go true e h = h
      go false e h = cc

  pub both_complete : apart mp hq ≡ true → (front rest : List Token) (r : A × B) → Both p q front r → sees (mq ++ when eq mp) rest ≡ false → read_both P.read Q.read (front ++ rest) ≡ Some (r, rest)
  both_complete e front rest r h stop =
      let one = P.complete h.front (h.rest ++ rest) r.0 h.one (follows h.rest rest r.1 h.other e stop) in
      let other = Q.complete h.rest rest r.1 h.other (unseen_parts mq (when eq mp) rest stop).0 in
      rw (h.split, append_assoc, one) (rw other refl)

  pub both_starts : (front : List Token) (r : A × B) → Both p q front r → ((front ≡ []) × ((ep && eq) ≡ true)) ⊎ (sees (hp ++ when ep hq) front ≡ true)
  both_starts front r h = elim (P.starts h.front r.0 h.one) [
    | inl x ↦ elim (Q.starts h.rest r.1 h.other) [
      | inl y ↦ inl (h.split ∙ rw (x.0) y.0, rw (x.1, y.1) refl)
      | inr y ↦ inr (rw (h.split) (rw (x.0) (sees_back hp (when ep hq) h.rest (rw (x.1) y))))
    ]
    | inr x ↦ inr (rw (h.split) (sees_longer (hp ++ when ep hq) h.front h.rest (sees_front hp (when ep hq) h.front x)))
  ]

  abbrev pub both_of : apart mp hq ≡ true → Parses (Both p q) (hp ++ when ep hq) (mq ++ when eq mp) (ep && eq)
  both_of e = record { read = read_both P.read Q.read; sound = both_sound; complete = both_complete e; starts = both_starts }

-- ---- a value made of the one that is spelled

-- takes what the other takes, and gives its value changed
abbrev pub read_mapped : {A B : Type 0} → (A → B) → (List Token → Outcome A) → List Token → Outcome B
read_mapped f p ts = and_then (p ts) (λ a rest. Some (f a, rest))

module _ {A B : Type 0} (f : A → B) (p : List Token → A → Type 0) (hp mp : List Head) (ep : Bool) (P : Parses p hp mp ep) where
  pub mapped_sound : (ts rest : List Token) (b : B) → read_mapped f P.read ts ≡ Some (b, rest) → Front (Mapped f p) ts b rest
  mapped_sound ts rest b h =
      let s = step (P.read ts) (λ a behind. Some (f a, behind)) (b, rest) h in
      let e = found (f s.value, s.behind) (b, rest) s.there in
      let one = P.sound ts s.behind s.value s.here in
      record { front = one.front; split = one.split ∙ ap (λ x. one.front ++ x) e.1; spelled = record { source = s.value; spelled = one.spelled; value = sym e.0 } }

  pub mapped_complete : (front rest : List Token) (b : B) → Mapped f p front b → sees mp rest ≡ false → read_mapped f P.read (front ++ rest) ≡ Some (b, rest)
  mapped_complete front rest b h stop = rw (P.complete front rest h.source h.spelled stop, h.value) refl

  pub mapped_starts : (front : List Token) (b : B) → Mapped f p front b → ((front ≡ []) × (ep ≡ true)) ⊎ (sees hp front ≡ true)
  mapped_starts front b h = P.starts front h.source h.spelled

  abbrev pub mapped_of : Parses (Mapped f p) hp mp ep
  mapped_of = record { read = read_mapped f P.read; sound = mapped_sound; complete = mapped_complete; starts = mapped_starts }

-- ---- a value that passes a test

abbrev pub read_checked : {A : Type 0} → (A → Bool) → (List Token → Outcome A) → List Token → Outcome A
read_checked test p ts = and_then (p ts) (λ a rest. if test a then Some (a, rest) else None)

pub kept : {A : Type 0} (b : Bool) (x y : A × List Token) → if◌then◌else◌ {A = Outcome A} b (Some x) None ≡ Some y → (b ≡ true) × (x.0 ≡ y.0) × (x.1 ≡ y.1)
kept true x y h = (refl, (found x y h).0, (found x y h).1)
kept false x y h = cc

module _ {A : Type 0} (test : A → Bool) (p : List Token → A → Type 0) (hp mp : List Head) (ep : Bool) (P : Parses p hp mp ep) where
  pub checked_sound : (ts rest : List Token) (b : A) → read_checked test P.read ts ≡ Some (b, rest) → Front (Checked test p) ts b rest
  checked_sound ts rest b h =
      let s = step (P.read ts) (λ a behind. if◌then◌else◌ {A = Outcome A} (test a) (Some (a, behind)) None) (b, rest) h in
      let e = kept (test s.value) (s.value, s.behind) (b, rest) s.there in
      let one = P.sound ts s.behind s.value s.here in
      record { front = one.front; split = one.split ∙ ap (λ x. one.front ++ x) e.2; spelled = record { spelled = subst (λ x. p one.front x) e.1 one.spelled; passes = ap test (sym e.1) ∙ e.0 } }

  pub checked_complete : (front rest : List Token) (b : A) → Checked test p front b → sees mp rest ≡ false → read_checked test P.read (front ++ rest) ≡ Some (b, rest)
  checked_complete front rest b h stop = rw (P.complete front rest b h.spelled stop, h.passes) refl

  pub checked_starts : (front : List Token) (b : A) → Checked test p front b → ((front ≡ []) × (ep ≡ true)) ⊎ (sees hp front ≡ true)
  checked_starts front b h = P.starts front b h.spelled

  abbrev pub checked_of : Parses (Checked test p) hp mp ep
  checked_of = record { read = read_checked test P.read; sound = checked_sound; complete = checked_complete; starts = checked_starts }

-- ---- one or the other

-- takes the first where a token of its heads comes, else the second
abbrev pub read_either : {A : Type 0} → List Head → (List Token → Outcome A) → (List Token → Outcome A) → List Token → Outcome A
read_either heads p q ts = if sees heads ts then p ts else q ts

module _ {A : Type 0} (p q : List Token → A → Type 0) (hp mp hq mq : List Head) (P : Parses p hp mp false) (Q : Parses q hq mq false) where
  pub either_sound : (ts rest : List Token) (a : A) → read_either hp P.read Q.read ts ≡ Some (a, rest) → Front (Either p q) ts a rest
  either_sound ts rest a h = go (sees hp ts) h
    where
      go : (b : Bool) → if◌then◌else◌ b (P.read ts) (Q.read ts) ≡ Some (a, rest) → Front (Either p q) ts a rest
      go true h = let one = P.sound ts rest a h in record { front = one.front; split = one.split; spelled = inl one.spelled }
      go false h = let one = Q.sound ts rest a h in record { front = one.front; split = one.split; spelled = inr one.spelled }

  pub not_empty : (heads front : List Head) (ts : List Token) → ((ts ≡ []) × (false ≡ true)) ⊎ (sees heads ts ≡ true) → sees heads ts ≡ true
  not_empty heads front ts h = elim h [ inl x ↦ absurd (never_both false x.1 refl) | inr x ↦ x ]

  pub either_complete : apart hp hq ≡ true → (front rest : List Token) (a : A) → Either p q front a → sees (mp ++ mq) rest ≡ false → read_either hp P.read Q.read (front ++ rest) ≡ Some (a, rest)
  either_complete e front rest a h stop =
      let stops = unseen_parts mp mq rest stop in
      elim h [
        | inl x ↦ rw (sees_longer hp front rest (not_empty hp hp front (P.starts front a x))) (P.complete front rest a x stops.0)
        | inr x ↦ rw (unseen_back hp hq (front ++ rest) e (sees_longer hq front rest (not_empty hq hq front (Q.starts front a x)))) (Q.complete front rest a x stops.1)
      ]

  pub either_starts : (front : List Token) (a : A) → Either p q front a → ((front ≡ []) × (false ≡ true)) ⊎ (sees (hp ++ hq) front ≡ true)
  either_starts front a h = elim h [
    | inl x ↦ inr (sees_front hp hq front (not_empty hp hp front (P.starts front a x)))
    | inr x ↦ inr (sees_back hp hq front (not_empty hq hq front (Q.starts front a x)))
  ]

  abbrev pub either_of : apart hp hq ≡ true → Parses (Either p q) (hp ++ hq) (mp ++ mq) false
  either_of e = record { read = read_either hp P.read Q.read; sound = either_sound; complete = either_complete e; starts = either_starts }

-- ---- one or none

abbrev pub read_perhaps : {A : Type 0} → List Head → (List Token → Outcome A) → List Token → Outcome (Option A)
read_perhaps heads p ts = if sees heads ts then and_then (p ts) (λ a rest. Some (Some a, rest)) else Some (None, ts)

module _ {A : Type 0} (p : List Token → A → Type 0) (hp mp : List Head) (P : Parses p hp mp false) where
  pub perhaps_sound : (ts rest : List Token) (a : Option A) → read_perhaps hp P.read ts ≡ Some (a, rest) → Front (Perhaps p) ts a rest
  perhaps_sound ts rest a h = go (sees hp ts) h
    where
      go : (b : Bool) → if◌then◌else◌ {A = Outcome (Option A)} b (and_then (P.read ts) (λ a behind. Some (Some a, behind))) (Some (None, ts)) ≡ Some (a, rest) → Front (Perhaps p) ts a rest
      go true h =
          let s = step (P.read ts) (λ a behind. Some (Some a, behind)) (a, rest) h in
          let e = found (Some s.value, s.behind) (a, rest) s.there in
          let one = P.sound ts s.behind s.value s.here in
          record { front = one.front; split = one.split ∙ ap (λ x. one.front ++ x) e.1; spelled = subst (λ x. Perhaps p one.front x) e.0 one.spelled }
      go false h =
          let e = found {A = Option A} (None, ts) (a, rest) h in
          record { front = []; split = e.1; spelled = subst (λ x. Perhaps p [] x) e.0 refl }

  pub perhaps_complete : (front rest : List Token) (a : Option A) → Perhaps p front a → sees (mp ++ hp) rest ≡ false → read_perhaps hp P.read (front ++ rest) ≡ Some (a, rest)
  perhaps_complete front rest None h stop = rw (h, (unseen_parts mp hp rest stop).1) refl
  perhaps_complete front rest (Some a) h stop =
      rw (sees_longer hp front rest (not_empty p p hp mp hp mp P P hp hp front (P.starts front a h)), P.complete front rest a h (unseen_parts mp hp rest stop).0) refl

  pub perhaps_starts : (front : List Token) (a : Option A) → Perhaps p front a → ((front ≡ []) × (true ≡ true)) ⊎ (sees hp front ≡ true)
  perhaps_starts front None h = inl (h, refl)
  perhaps_starts front (Some a) h = inr (not_empty p p hp mp hp mp P P hp hp front (P.starts front a h))

  abbrev pub perhaps_of : Parses (Perhaps p) hp (mp ++ hp) true
  perhaps_of = record { read = read_perhaps hp P.read; sound = perhaps_sound; complete = perhaps_complete; starts = perhaps_starts }

-- ---- any number

-- takes one after another, as long as a token of the heads comes
unfoldable pub read_many : {A : Type 0} → List Head → (List Token → Outcome A) → ℕ → List Token → Outcome (List A)
read_many heads p zero ts = Some ([], ts)
read_many heads p (suc n) ts = if sees heads ts then and_then (p ts) (λ a rest. and_then (read_many heads p n rest) (λ more behind. Some (a ∷ more, behind))) else Some ([], ts)

module _ {A : Type 0} (p : List Token → A → Type 0) (hp mp : List Head) (P : Parses p hp mp false) where
  pub many_sound : (n : ℕ) (ts rest : List Token) (a : List A) → read_many hp P.read n ts ≡ Some (a, rest) → Front (Many p) ts a rest
  unfolding read_many
  many_sound zero ts rest a h =
      let e = found {A = List A} ([], ts) (a, rest) h in
      record { front = []; split = e.1; spelled = subst (λ x. Many p [] x) e.0 refl }
  many_sound (suc n) ts rest a h = go (sees hp ts) h (λ ts rest a. many_sound n ts rest a)
    where
      go : (b : Bool) → if◌then◌else◌ {A = Outcome (List A)} b (and_then (P.read ts) (λ a rest. and_then (read_many hp P.read n rest) (λ more behind. Some (a ∷ more, behind)))) (Some ([], ts)) ≡ Some (a, rest)
          → ((ts rest : List Token) (a : List A) → read_many hp P.read n ts ≡ Some (a, rest) → Front (Many p) ts a rest) → Front (Many p) ts a rest
      go true h again =
          let s = step (P.read ts) (λ a rest. and_then (read_many hp P.read n rest) (λ more behind. Some (a ∷ more, behind))) (a, rest) h in
          let u = step (read_many hp P.read n s.behind) (λ more behind. Some (s.value ∷ more, behind)) (a, rest) s.there in
          let one = P.sound ts s.behind s.value s.here in
          let other = again s.behind u.behind u.value u.here in
          let e = found (s.value ∷ u.value, u.behind) (a, rest) u.there in
          record {
            front = one.front ++ other.front;
            split = one.split ∙ ap (λ x. one.front ++ x) (other.split ∙ ap (λ x. other.front ++ x) e.1) ∙ sym (append_assoc one.front other.front rest);
            spelled = subst (λ x. Many p (one.front ++ other.front) x) e.0 (one.front, other.front, refl, one.spelled, other.spelled);
          }
      go false h again =
          let e = found {A = List A} ([], ts) (a, rest) h in
          record { front = []; split = e.1; spelled = subst (λ x. Many p [] x) e.0 refl }

  pub many_starts : (front : List Token) (a : List A) → Many p front a → ((front ≡ []) × (true ≡ true)) ⊎ (sees hp front ≡ true)
  many_starts front [] h = inl (h, refl)
  many_starts front (a ∷ more) h = inr (rw (h.2) (sees_longer hp h.0 h.1 (not_empty p p hp mp hp mp P P hp hp h.0 (P.starts h.0 a h.3))))

  shorter : (n : ℕ) (front rest : List Token) → sees hp front ≡ true → length (front ++ rest) ≤ suc n → length rest ≤ n
  shorter n [] rest h k = cc
  shorter n (t ∷ ts) rest h k = omega (arith, length-append ts rest)

  no_room : (front rest : List Token) → sees hp front ≡ true → length (front ++ rest) ≤ 0 → ⊥
  no_room [] rest h k = cc
  no_room (t ∷ ts) rest h k = omega arith

  pub many_complete : apart mp hp ≡ true → (n : ℕ) (front rest : List Token) (a : List A) → Many p front a → sees (mp ++ hp) rest ≡ false → length (front ++ rest) ≤ n → read_many hp P.read n (front ++ rest) ≡ Some (a, rest)
  unfolding read_many
  many_complete e zero front rest [] h stop k = rw h refl
  many_complete e (suc n) front rest [] h stop k = rw (h, (unseen_parts mp hp rest stop).1) refl
  many_complete e zero front rest (a ∷ more) h stop k =
      absurd (no_room h.0 (h.1 ++ rest) (not_empty p p hp mp hp mp P P hp hp h.0 (P.starts h.0 a h.3)) (rw (← append_assoc, ← h.2) k))
  many_complete e (suc n) front rest (a ∷ more) h stop k =
      let begun : sees hp h.0 ≡ true = not_empty p p hp mp hp mp P P hp hp h.0 (P.starts h.0 a h.3) in
      let tail : sees mp (h.1 ++ rest) ≡ false = elim (many_starts h.1 more h.4) [
        | inl x ↦ rw (x.0) (unseen_parts mp hp rest stop).0
        | inr x ↦ unseen_back mp hp (h.1 ++ rest) e (sees_longer hp h.1 rest x)
      ] in
      let room : length (h.1 ++ rest) ≤ n = shorter n h.0 (h.1 ++ rest) begun (rw (← append_assoc, ← h.2) k) in
      rw (h.2, append_assoc, sees_longer hp h.0 (h.1 ++ rest) begun, P.complete h.0 (h.1 ++ rest) a h.3 tail, many_complete e n h.1 rest more h.4 stop room) refl

  pub all_complete : apart mp hp ≡ true → (front rest : List Token) (a : List A) → Many p front a → sees (mp ++ hp) rest ≡ false → read_many hp P.read (length (front ++ rest)) (front ++ rest) ≡ Some (a, rest)
  all_complete e front rest a h stop = many_complete e (length (front ++ rest)) front rest a h stop (omega arith)

  abbrev pub many_of : apart mp hp ≡ true → Parses (Many p) hp (mp ++ hp) true
  many_of e = record { read = λ ts. read_many hp P.read (length ts) ts; sound = λ ts. many_sound (length ts) ts; complete = all_complete e; starts = many_starts }

-- ---- lists with commas

-- "," and what p reads
unfoldable pub behind_comma : {A : Type 0} → (List Token → Outcome A) → List Token → Outcome A
behind_comma p ts = read_mapped (λ r. r.1) (read_both (read_token (t.Symbol s.Comma)) p) ts

-- what p reads, and more of it, each behind a comma
unfoldable pub read_listed : {A : Type 0} → (List Token → Outcome A) → List Token → Outcome (List A)
read_listed p ts = read_mapped (λ r. r.0 ∷ r.1) (read_both p (λ rest. read_many (Exact (t.Symbol s.Comma) ∷ []) (behind_comma p) (length rest) rest)) ts

-- ---- a token that has a value

abbrev pub given : {A : Type 0} → Option A → List Token → Outcome A
given None ts = None
given (Some a) ts = Some (a, ts)

abbrev pub read_one : {A : Type 0} → (Token → Option A) → List Token → Outcome A
read_one f [] = None
read_one f (t ∷ ts) = given (f t) ts

module _ {A : Type 0} (f : Token → Option A) (heads : List Head) where
  pub one_sound : (ts rest : List Token) (a : A) → read_one f ts ≡ Some (a, rest) → Front (One f) ts a rest
  one_sound [] rest a h = cc
  one_sound (t ∷ ts) rest a h = go (f t) refl h
    where
      go : (o : Option A) → f t ≡ o → given o ts ≡ Some (a, rest) → Front (One f) (t ∷ ts) a rest
      go None e h = cc
      go (Some b) e h =
          let k = found (b, ts) (a, rest) h in
          record { front = t ∷ []; split = ap (λ x. t ∷ x) k.1; spelled = record { token = t; alone = refl; value = e ∙ ap Some k.0 } }

  pub one_complete : (front rest : List Token) (a : A) → One f front a → sees [] rest ≡ false → read_one f (front ++ rest) ≡ Some (a, rest)
  one_complete front rest a h stop = rw (h.alone, h.value) refl

  pub one_starts : ((t : Token) (a : A) → f t ≡ Some a → begins heads t ≡ true) → (front : List Token) (a : A) → One f front a → ((front ≡ []) × (false ≡ true)) ⊎ (sees heads front ≡ true)
  one_starts k front a h = inr (rw (h.alone) (k h.token a h.value))

  abbrev pub one_of_kind : ((t : Token) (a : A) → f t ≡ Some a → begins heads t ≡ true) → Parses (One f) heads [] false
  one_of_kind k = record { read = read_one f; sound = one_sound; complete = one_complete; starts = one_starts k }

-- ---- nothing at all

pub nothing_read : {A : Type 0} (ts rest : List Token) (a : A) → ◌≡◌ {A = Outcome A} None (Some (a, rest)) → Front (Never {A = A}) ts a rest
nothing_read ts rest a h = cc

-- a reader of a rule that spells nothing
abbrev pub never : {A : Type 0} {heads more : List Head} → Parses (Never {A = A}) heads more false
never = record { read = λ ts. None; sound = nothing_read; complete = λ front rest a h stop. absurd h; starts = λ front a h. absurd h }

-- ---- the same with what can be inferred left out

-- a reader of one phrase behind another
abbrev pub both : {A B : Type 0} {p : List Token → A → Type 0} {q : List Token → B → Type 0} {hp mp hq mq : List Head} {ep eq : Bool} → Parses p hp mp ep → Parses q hq mq eq → apart mp hq ≡ true → Parses (Both p q) (hp ++ when ep hq) (mq ++ when eq mp) (ep && eq)
both P Q e = both_of _ _ _ _ _ _ _ _ P Q e

-- a reader of phrases whose values are changed
abbrev pub mapped : {A B : Type 0} {p : List Token → A → Type 0} {hp mp : List Head} {ep : Bool} → (f : A → B) → Parses p hp mp ep → Parses (Mapped f p) hp mp ep
mapped f P = mapped_of f _ _ _ _ P

-- a reader of those phrases whose values pass a test
abbrev pub checked : {A : Type 0} {p : List Token → A → Type 0} {hp mp : List Head} {ep : Bool} → (test : A → Bool) → Parses p hp mp ep → Parses (Checked test p) hp mp ep
checked test P = checked_of test _ _ _ _ P

-- a reader of the one or the other
abbrev pub either : {A : Type 0} {p q : List Token → A → Type 0} {hp mp hq mq : List Head} → Parses p hp mp false → Parses q hq mq false → apart hp hq ≡ true → Parses (Either p q) (hp ++ hq) (mp ++ mq) false
either P Q e = either_of _ _ _ _ _ _ P Q e

-- a reader of a phrase that may be left out
abbrev pub perhaps : {A : Type 0} {p : List Token → A → Type 0} {hp mp : List Head} → Parses p hp mp false → Parses (Perhaps p) hp (mp ++ hp) true
perhaps P = perhaps_of _ _ _ P

-- a reader of phrases one after another, as many as come
abbrev pub many : {A : Type 0} {p : List Token → A → Type 0} {hp mp : List Head} → Parses p hp mp false → apart mp hp ≡ true → Parses (Many p) hp (mp ++ hp) true
many P e = many_of _ _ _ P e

abbrev pub after : {A B : Type 0} {p : List Token → A → Type 0} {q : List Token → B → Type 0} {hp mp hq mq : List Head} {ep eq : Bool} → Parses p hp mp ep → Parses q hq mq eq → apart mp hq ≡ true → Parses (After p q) (hp ++ when ep hq) (mq ++ when eq mp) (ep && eq)
after P Q e = mapped (λ r. r.1) (both P Q e)

abbrev pub before : {A B : Type 0} {p : List Token → A → Type 0} {q : List Token → B → Type 0} {hp mp hq mq : List Head} {ep eq : Bool} → Parses p hp mp ep → Parses q hq mq eq → apart mp hq ≡ true → Parses (Before p q) (hp ++ when ep hq) (mq ++ when eq mp) (ep && eq)
before P Q e = mapped (λ r. r.0) (both P Q e)

-- ---- the same reader, under wider lists
module _ {A : Type 0} (p : List Token → A → Type 0) (h m h' m' : List Head) (e : Bool) (P : Parses p h m e) where
  pub widened_complete : within m m' ≡ true → (front rest : List Token) (a : A) → p front a → sees m' rest ≡ false → P.read (front ++ rest) ≡ Some (a, rest)
  widened_complete w front rest a x stop = P.complete front rest a x (unseen_within m m' rest w stop)

  pub widened_starts : within h h' ≡ true → (front : List Token) (a : A) → p front a → ((front ≡ []) × (e ≡ true)) ⊎ (sees h' front ≡ true)
  widened_starts w front a x = elim (P.starts front a x) [ inl y ↦ inl y | inr y ↦ inr (sees_within h h' front w y) ]

-- the same reader, with more heads and more that may follow
abbrev pub widened : {A : Type 0} {p : List Token → A → Type 0} {h m h' m' : List Head} {e : Bool} → Parses p h m e → within h h' ≡ true → within m m' ≡ true → Parses p h' m' e
widened {p = p} {h = h} {m = m} {h' = h'} {m' = m'} {e = e} P u v =
    record { read = P.read; sound = P.sound; complete = widened_complete p h m h' m' e P v; starts = widened_starts p h m h' m' e P u }

-- ---- one or the other, by a test that may look further ahead
abbrev pub read_by : {A : Type 0} → (List Token → Bool) → (List Token → Outcome A) → (List Token → Outcome A) → List Token → Outcome A
read_by test p q ts = if test ts then p ts else q ts

module _ {A : Type 0} (test : List Token → Bool) (p q : List Token → A → Type 0) (hp mp hq mq : List Head) (P : Parses p hp mp false) (Q : Parses q hq mq false) where
  pub by_sound : (ts rest : List Token) (a : A) → read_by test P.read Q.read ts ≡ Some (a, rest) → Front (Either p q) ts a rest
  by_sound ts rest a h = go (test ts) h
    where
      go : (b : Bool) → if◌then◌else◌ b (P.read ts) (Q.read ts) ≡ Some (a, rest) → Front (Either p q) ts a rest
      go true h = let one = P.sound ts rest a h in record { front = one.front; split = one.split; spelled = inl one.spelled }
      go false h = let one = Q.sound ts rest a h in record { front = one.front; split = one.split; spelled = inr one.spelled }

  pub by_complete : ((front rest : List Token) (a : A) → p front a → sees mp rest ≡ false → test (front ++ rest) ≡ true) → ((front rest : List Token) (a : A) → q front a → sees mq rest ≡ false → test (front ++ rest) ≡ false)
      → (front rest : List Token) (a : A) → Either p q front a → sees (mp ++ mq) rest ≡ false → read_by test P.read Q.read (front ++ rest) ≡ Some (a, rest)
  by_complete when_one when_other front rest a h stop =
      let stops = unseen_parts mp mq rest stop in
      elim h [
        | inl x ↦ rw (when_one front rest a x stops.0) (P.complete front rest a x stops.0)
        | inr x ↦ rw (when_other front rest a x stops.1) (Q.complete front rest a x stops.1)
      ]

  abbrev pub either_by : ((front rest : List Token) (a : A) → p front a → sees mp rest ≡ false → test (front ++ rest) ≡ true) → ((front rest : List Token) (a : A) → q front a → sees mq rest ≡ false → test (front ++ rest) ≡ false)
      → Parses (Either p q) (hp ++ hq) (mp ++ mq) false
  either_by when_one when_other = record { read = read_by test P.read Q.read; sound = by_sound; complete = by_complete when_one when_other; starts = either_starts p q hp mp hq mq P Q }

-- ---- another form of the same language
module _ {A : Type 0} (p q : List Token → A → Type 0) (h m : List Head) (e : Bool) (P : Parses p h m e) (to : (ts : List Token) (a : A) → p ts a → q ts a) (back : (ts : List Token) (a : A) → q ts a → p ts a) where
  pub transferred_sound : (ts rest : List Token) (a : A) → P.read ts ≡ Some (a, rest) → Front q ts a rest
  transferred_sound ts rest a x = let f = P.sound ts rest a x in record { front = f.front; split = f.split; spelled = to f.front a f.spelled }

  abbrev pub transferred : Parses q h m e
  transferred = record { read = P.read; sound = transferred_sound; complete = λ front rest a x stop. P.complete front rest a (back front a x) stop; starts = λ front a x. P.starts front a (back front a x) }
