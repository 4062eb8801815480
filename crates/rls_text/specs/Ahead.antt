-- Tests that look ahead among the tokens, and what is passed over in looking.
use Rattle.std.specs.Prelude.{◌≡◌, Bool, true, false, if◌then◌else◌, List, [], ◌∷◌, ◌++◌, Option, Some, None, codes, refl}
use Rattle.std.proofs.Common.{◌∙◌, ap, append_assoc, inl, inr}
use Rattle.rls_text.specs.declared.token.Token.{Token}
use Rattle.rls_text.specs.Heads.{Head, Keyword, begins, apart, sees}
use Rattle.rls_text.specs.Lang.{only, Both, Mapped, Either, Perhaps, Many, Checked, One, After}
use Rattle.rls_text.specs.Parses.{Parses, unseen}

-- one of the first comes before one of the others
abbrev pub comes_first : List Head → List Head → List Token → Bool
comes_first hs ks [] = false
comes_first hs ks (t ∷ ts) = if begins hs t then true else (if begins ks t then false else comes_first hs ks ts)

-- ON comes before TO and FROM
abbrev pub on_comes_first : List Token → Bool
on_comes_first = comes_first (Keyword (codes "on") ∷ []) (Keyword (codes "to") ∷ Keyword (codes "from") ∷ [])

-- the second token is one of these
abbrev pub second_is : List Head → List Token → Bool
second_is hs [] = false
second_is hs (t ∷ ts) = sees hs ts

-- ---- what is passed over

-- A test that says behind each phrase what it says before it.
pub record Skips {A : Type 0} (test : List Token → Bool) (p : List Token → A → Type 0) : Type 0 where
  pub passes : (ts rest : List Token) (a : A) → p ts a → test (ts ++ rest) ≡ test rest

module _ {A B : Type 0} (test : List Token → Bool) (p : List Token → A → Type 0) (q : List Token → B → Type 0) (P : Skips test p) (Q : Skips test q) where
  pub both_skips : Skips test (Both p q)
  both_skips = record { passes = λ ts rest r h. rw (h.split, append_assoc) (P.passes h.front (h.rest ++ rest) r.0 h.one ∙ Q.passes h.rest rest r.1 h.other) }

module _ {A B : Type 0} (test : List Token → Bool) (f : A → B) (p : List Token → A → Type 0) (P : Skips test p) where
  pub mapped_skips : Skips test (Mapped f p)
  mapped_skips = record { passes = λ ts rest b h. P.passes ts rest h.source h.spelled }

module _ {A : Type 0} (test : List Token → Bool) (passing : A → Bool) (p : List Token → A → Type 0) (P : Skips test p) where
  pub checked_skips : Skips test (Checked passing p)
  checked_skips = record { passes = λ ts rest a h. P.passes ts rest a h.spelled }

module _ {A : Type 0} (test : List Token → Bool) (p q : List Token → A → Type 0) (P : Skips test p) (Q : Skips test q) where
  pub either_skips : Skips test (Either p q)
  either_skips = record { passes = λ ts rest a h. elim h [ inl x ↦ P.passes ts rest a x | inr x ↦ Q.passes ts rest a x ] }

module _ {A : Type 0} (test : List Token → Bool) (p : List Token → A → Type 0) (P : Skips test p) where
  perhaps_passes : (ts rest : List Token) (a : Option A) → Perhaps p ts a → test (ts ++ rest) ≡ test rest
  perhaps_passes ts rest None h = rw h refl
  perhaps_passes ts rest (Some a) h = P.passes ts rest a h

  pub perhaps_skips : Skips test (Perhaps p)
  perhaps_skips = record { passes = perhaps_passes }

  many_passes : (ts rest : List Token) (a : List A) → Many p ts a → test (ts ++ rest) ≡ test rest
  many_passes ts rest [] h = rw h refl
  many_passes ts rest (a ∷ more) h = rw (h.2, append_assoc) (P.passes h.0 (h.1 ++ rest) a h.3 ∙ many_passes h.1 rest more h.4)

  pub many_skips : Skips test (Many p)
  many_skips = record { passes = many_passes }

module _ (hs ks : List Head) where
  neither : (t : Token) (ts : List Token) → begins hs t ≡ false → begins ks t ≡ false → comes_first hs ks (t ∷ ts) ≡ comes_first hs ks ts
  neither t ts one other = rw (one, other) refl

  pub token_skips : (t : Token) → begins hs t ≡ false → begins ks t ≡ false → Skips (comes_first hs ks) (only t)
  token_skips t one other = record { passes = λ ts rest a h. rw h (neither t rest one other) }

  pub one_skips : {A : Type 0} (f : Token → Option A) (heads : List Head) → ((t : Token) (a : A) → f t ≡ Some a → begins heads t ≡ true) → apart heads hs ≡ true → apart heads ks ≡ true → Skips (comes_first hs ks) (One f)
  one_skips f heads begun one other = record {
    passes = λ ts rest a h.
        rw (h.alone) (neither h.token rest (unseen heads hs (h.token ∷ []) one (begun h.token a h.value)) (unseen heads ks (h.token ∷ []) other (begun h.token a h.value)));
  }

-- ---- what decides

module _ {A : Type 0} (test : List Token → Bool) (t : Token) (q : List Token → A → Type 0) where
  -- a token at the front
  pub decided_at : (b : Bool) → ((ts : List Token) → test (t ∷ ts) ≡ b) → (front rest : List Token) (a : A) → After (only t) q front a → test (front ++ rest) ≡ b
  decided_at b decides front rest a h = let x = h.spelled in rw (x.split, x.one) (decides (x.rest ++ rest))

module _ {A B : Type 0} (test : List Token → Bool) (p : List Token → A → Type 0) (q : List Token → B → Type 0) where
  -- the first of two
  pub decided_before : (b : Bool) → ((front rest : List Token) (a : A) → p front a → test (front ++ rest) ≡ b) → (front rest : List Token) (r : A × B) → Both p q front r → test (front ++ rest) ≡ b
  decided_before b decides front rest r h = rw (h.split, append_assoc) (decides h.front (h.rest ++ rest) r.0 h.one)

  -- the second, where the first is passed over
  pub decided_behind : Skips test p → (b : Bool) → ((front rest : List Token) (c : B) → q front c → test (front ++ rest) ≡ b) → (front rest : List Token) (r : A × B) → Both p q front r → test (front ++ rest) ≡ b
  decided_behind P b decides front rest r h = rw (h.split, append_assoc) (P.passes h.front (h.rest ++ rest) r.0 h.one ∙ decides h.rest rest r.1 h.other)

-- ---- the second token

-- Each phrase has a token, and behind it none of these.
pub record Begins {A : Type 0} (hs : List Head) (p : List Token → A → Type 0) : Type 0 where
  pub parts : (ts : List Token) (a : A) → p ts a → (t : Token) × (us : List Token) × (ts ≡ t ∷ us) × (sees hs us ≡ false)

sees_behind : (hs : List Head) (us rest : List Token) → sees hs us ≡ false → sees hs rest ≡ false → sees hs (us ++ rest) ≡ false
sees_behind hs [] rest h stop = stop
sees_behind hs (u ∷ us) rest h stop = h

module _ (hs : List Head) where
  pub only_begins : (t : Token) → Begins hs (only t)
  only_begins t = record { parts = λ ts a h. (t, [], h, refl) }

  pub one_begins : {A : Type 0} (f : Token → Option A) → Begins hs (One f)
  one_begins f = record { parts = λ ts a h. (h.token, [], h.alone, refl) }

module _ {A : Type 0} (hs : List Head) (p : List Token → A → Type 0) (P : Begins hs p) where
  pub mapped_begins : {B : Type 0} (f : A → B) → Begins hs (Mapped f p)
  mapped_begins f = record { parts = λ ts b h. P.parts ts h.source h.spelled }

  pub checked_begins : (test : A → Bool) → Begins hs (Checked test p)
  checked_begins test = record { parts = λ ts a h. P.parts ts a h.spelled }

  -- behind such a phrase and none of these the second token isn't one
  pub no_second : (front rest : List Token) (a : A) → p front a → sees hs rest ≡ false → second_is hs (front ++ rest) ≡ false
  no_second front rest a h stop = let x = P.parts front a h in rw (x.2) (sees_behind hs x.1 rest x.3 stop)

module _ {A : Type 0} (hs : List Head) (p q : List Token → A → Type 0) (P : Begins hs p) (Q : Begins hs q) where
  pub either_begins : Begins hs (Either p q)
  either_begins = record { parts = λ ts a h. elim h [ inl x ↦ P.parts ts a x | inr x ↦ Q.parts ts a x ] }

module _ {A B : Type 0} (hs hq mq : List Head) (eq : Bool) (p : List Token → A → Type 0) (q : List Token → B → Type 0) (P : Begins hs p) (Q : Parses q hq mq eq) where
  behind : apart hq hs ≡ true → (ts : List Token) (b : B) → q ts b → sees hs ts ≡ false
  behind e ts b h = elim (Q.starts ts b h) [ inl x ↦ rw (x.0) refl | inr x ↦ unseen hq hs ts e x ]

  -- what such a phrase goes on with begins with none of these
  pub both_begins : apart hq hs ≡ true → Begins hs (Both p q)
  both_begins e = record {
    parts = λ ts r h.
        let x = P.parts h.front r.0 h.one in
        (x.0, x.1 ++ h.rest, h.split ∙ ap (λ z. z ++ h.rest) x.2, sees_behind hs x.1 h.rest x.3 (behind e h.rest r.1 h.other));
  }

  perhaps_parts : apart hq hs ≡ true → Begins hs q → (front rest : List Token) (a : Option A) (b : B) → Perhaps p front a → q rest b → (t : Token) × (us : List Token) × (front ++ rest ≡ t ∷ us) × (sees hs us ≡ false)
  perhaps_parts e K front rest None b h k = rw h (K.parts rest b k)
  perhaps_parts e K front rest (Some a) b h k =
      let x = P.parts front a h in
      (x.0, x.1 ++ rest, ap (λ z. z ++ rest) x.2, sees_behind hs x.1 rest x.3 (behind e rest b k))

  -- the first may be left out
  pub perhaps_begins : apart hq hs ≡ true → Begins hs q → Begins hs (Both (Perhaps p) q)
  perhaps_begins e K = record { parts = λ ts r h. let x = perhaps_parts e K h.front h.rest r.0 r.1 h.one h.other in (x.0, x.1, h.split ∙ x.2, x.3) }

-- each phrase is one token
pub record Alone {A : Type 0} (p : List Token → A → Type 0) : Type 0 where
  pub token : (ts : List Token) (a : A) → p ts a → (t : Token) × (ts ≡ t ∷ [])

pub only_alone : (t : Token) → Alone (only t)
only_alone t = record { token = λ ts a h. (t, h) }

module _ {A B : Type 0} (f : A → B) (p : List Token → A → Type 0) (P : Alone p) where
  pub mapped_alone : Alone (Mapped f p)
  mapped_alone = record { token = λ ts b h. P.token ts h.source h.spelled }

module _ {A : Type 0} (p q : List Token → A → Type 0) (P : Alone p) (Q : Alone q) where
  pub either_alone : Alone (Either p q)
  either_alone = record { token = λ ts a h. elim h [ inl x ↦ P.token ts a x | inr x ↦ Q.token ts a x ] }
