-- Writers: each writes some of the values of one language, in words that spell them.
use Rattle.std.specs.Prelude.{◌≡◌, Bool, true, false, if◌then◌else◌, List, [], ◌∷◌, ◌++◌, Option, Some, None, refl}
use Rattle.std.proofs.Common.{inl, inr, sym, ap, ◌∙◌}
use Rattle.rls_text.specs.declared.token.Token.{Token}
use Rattle.rls_text.specs.Lang.{only, Both, Mapped, Either, Perhaps, Many, Checked, Never, One}

-- A writer of some of what the language spells.
pub record Writer {A : Type 0} (p : List Token → A → Type 0) : Type 0 where
  pub writes : A → Option (List Token)
  pub wrote : (a : A) (ts : List Token) → writes a ≡ Some ts → p ts a

-- one behind the other, where both are written
abbrev pub joined : Option (List Token) → Option (List Token) → Option (List Token)
joined None u = None
joined (Some x) None = None
joined (Some x) (Some y) = Some (x ++ y)

-- the second where the first isn't written
abbrev pub or_else : Option (List Token) → Option (List Token) → Option (List Token)
or_else None u = u
or_else (Some x) u = Some x

-- as the part is written, if there is one
abbrev pub written_if : {A : Type 0} → (A → Option (List Token)) → Option A → Option (List Token)
written_if w None = None
written_if w (Some a) = w a

-- one token alone, if there is one
abbrev pub alone_if : Option Token → Option (List Token)
alone_if None = None
alone_if (Some t) = Some (t ∷ [])

pub some_is : {A : Type 0} (x y : A) → ◌≡◌ {A = Option A} (Some x) (Some y) → x ≡ y
some_is x y h = cc

pub append_end : {A : Type 0} (xs : List A) → xs ++ [] ≡ xs
append_end [] = refl
append_end (x ∷ xs) = ap (λ z. x ∷ z) (append_end xs)

-- ---- what each writes spells its value

pub token_wrote : (t : Token) (a : Unit {0}) (ts : List Token) → ◌≡◌ {A = Option (List Token)} (Some (t ∷ [])) (Some ts) → only t ts a
token_wrote t a ts h = sym (some_is (t ∷ []) ts h)

pub never_wrote : {A : Type 0} (a : A) (ts : List Token) → ◌≡◌ {A = Option (List Token)} None (Some ts) → Never {A = A} ts a
never_wrote a ts h = cc

module _ {A : Type 0} (f : Token → Option A) (back : A → Option Token) (law : (a : A) (t : Token) → back a ≡ Some t → f t ≡ Some a) where
  pub one_wrote : (a : A) (ts : List Token) → alone_if (back a) ≡ Some ts → One f ts a
  one_wrote a ts h = go (back a) refl h
    where
      go : (o : Option Token) → back a ≡ o → alone_if o ≡ Some ts → One f ts a
      go None e h = cc
      go (Some t) e h = record { token = t; alone = sym (some_is (t ∷ []) ts h); value = law a t e }

module _ {A B : Type 0} (p : List Token → A → Type 0) (q : List Token → B → Type 0) (P : Writer p) (Q : Writer q) where
  pub both_wrote : (r : A × B) (ts : List Token) → joined (P.writes r.0) (Q.writes r.1) ≡ Some ts → Both p q ts r
  both_wrote r ts h = go (P.writes r.0) refl (Q.writes r.1) refl h
    where
      go : (o : Option (List Token)) → P.writes r.0 ≡ o → (u : Option (List Token)) → Q.writes r.1 ≡ u → joined o u ≡ Some ts → Both p q ts r
      go None e u f h = cc
      go (Some x) e None f h = cc
      go (Some x) e (Some y) f h = record { front = x; rest = y; split = sym (some_is (x ++ y) ts h); one = P.wrote r.0 x e; other = Q.wrote r.1 y f }

module _ {A B : Type 0} (f : A → B) (back : B → Option A) (law : (b : B) (a : A) → back b ≡ Some a → b ≡ f a) (p : List Token → A → Type 0) (P : Writer p) where
  pub mapped_wrote : (b : B) (ts : List Token) → written_if P.writes (back b) ≡ Some ts → Mapped f p ts b
  mapped_wrote b ts h = go (back b) refl h
    where
      go : (o : Option A) → back b ≡ o → written_if P.writes o ≡ Some ts → Mapped f p ts b
      go None e h = cc
      go (Some a) e h = record { source = a; spelled = P.wrote a ts h; value = law b a e }

module _ {A : Type 0} (p : List Token → A → Type 0) (P Q : Writer p) where
  pub first_wrote : (a : A) (ts : List Token) → or_else (P.writes a) (Q.writes a) ≡ Some ts → p ts a
  first_wrote a ts h = go (P.writes a) refl h
    where
      go : (o : Option (List Token)) → P.writes a ≡ o → or_else o (Q.writes a) ≡ Some ts → p ts a
      go None e h = Q.wrote a ts h
      go (Some x) e h = P.wrote a ts (e ∙ h)

module _ {A : Type 0} (test : A → Bool) (p : List Token → A → Type 0) (P : Writer p) where
  pub checked_wrote : (a : A) (ts : List Token) → if◌then◌else◌ {A = Option (List Token)} (test a) (P.writes a) None ≡ Some ts → Checked test p ts a
  checked_wrote a ts h = go (test a) refl h
    where
      go : (b : Bool) → test a ≡ b → if◌then◌else◌ {A = Option (List Token)} b (P.writes a) None ≡ Some ts → Checked test p ts a
      go true e h = record { spelled = P.wrote a ts h; passes = e }
      go false e h = cc

module _ {A : Type 0} (p : List Token → A → Type 0) (P : Writer p) where
  abbrev pub perhaps_writes : Option A → Option (List Token)
  perhaps_writes None = Some []
  perhaps_writes (Some a) = P.writes a

  pub perhaps_wrote : (a : Option A) (ts : List Token) → perhaps_writes a ≡ Some ts → Perhaps p ts a
  perhaps_wrote None ts h = sym (some_is [] ts h)
  perhaps_wrote (Some a) ts h = P.wrote a ts h

  abbrev pub many_writes : List A → Option (List Token)
  many_writes [] = Some []
  many_writes (a ∷ more) = joined (P.writes a) (many_writes more)

  pub many_wrote : (a : List A) (ts : List Token) → many_writes a ≡ Some ts → Many p ts a
  many_wrote [] ts h = sym (some_is [] ts h)
  many_wrote (a ∷ more) ts h = go (P.writes a) refl (many_writes more) refl h (λ us. many_wrote more us)
    where
      go : (o : Option (List Token)) → P.writes a ≡ o → (u : Option (List Token)) → many_writes more ≡ u → joined o u ≡ Some ts → ((us : List Token) → many_writes more ≡ Some us → Many p us more) → Many p ts (a ∷ more)
      go None e u f h again = cc
      go (Some x) e None f h again = cc
      go (Some x) e (Some y) f h again = (x, y, sym (some_is (x ++ y) ts h), P.wrote a x e, again y f)

-- ---- writers of a language from those of another

-- what p spells, q spells too
abbrev pub through : {A : Type 0} {p q : List Token → A → Type 0} → Writer p → ((ts : List Token) (a : A) → p ts a → q ts a) → Writer q
through W to = record { writes = W.writes; wrote = λ a ts h. to ts a (W.wrote a ts h) }

-- as the first writes it, or else as the second does
abbrev pub first_of : {A : Type 0} {p : List Token → A → Type 0} → Writer p → Writer p → Writer p
first_of P Q = record { writes = λ a. or_else (P.writes a) (Q.writes a); wrote = first_wrote _ P Q }

-- as the first rule of two writes it, or else as the second does
abbrev pub one_or_other : {A : Type 0} {p q : List Token → A → Type 0} → Writer p → Writer q → Writer (Either p q)
one_or_other P Q = first_of (through P (λ ts a x. inl x)) (through Q (λ ts a x. inr x))

module _ {A B C : Type 0} (f : A × B → C) (p : List Token → A → Type 0) (q : List Token → B → Type 0) where
  -- the first of two alone, where nothing spells the second
  pub without_second : (g : C → A) (b : B) → q [] b → ((c : C) → f (g c, b) ≡ c) → (ts : List Token) (c : C) → p ts (g c) → Mapped f (Both p q) ts c
  without_second g b none same ts c x = record { source = (g c, b); spelled = record { front = ts; rest = []; split = sym (append_end ts); one = x; other = none }; value = sym (same c) }

  -- the second alone
  pub without_first : (g : C → B) (a : A) → p [] a → ((c : C) → f (a, g c) ≡ c) → (ts : List Token) (c : C) → q ts (g c) → Mapped f (Both p q) ts c
  without_first g a none same ts c x = record { source = (a, g c); spelled = record { front = []; rest = ts; split = refl; one = none; other = x }; value = sym (same c) }
