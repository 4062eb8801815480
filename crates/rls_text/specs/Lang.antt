-- Languages: which lists of tokens spell which values.
use Rattle.std.specs.Prelude.{◌≡◌, Bool, true, List, [], ◌∷◌, ◌++◌, ◌⊎◌, Option, Some, None}
use Rattle.rls_text.specs.declared.token.Token.{Token}

-- a language: which values a list of tokens spells
abbrev pub Lang : Type 0 → Type 1
Lang A = List Token → A → Type 0

-- one token, exactly this
abbrev pub only : Token → Lang (Unit {0})
only t ts _ = ts ≡ t ∷ []

-- one, and then the other
pub record Both {A B : Type 0} (p : List Token → A → Type 0) (q : List Token → B → Type 0) (ts : List Token) (r : A × B) : Type 0 where
  pub front : List Token
  pub rest : List Token
  pub split : ts ≡ front ++ rest
  pub one : p front r.0
  pub other : q rest r.1

-- those of p, with f of their value
pub record Mapped {A B : Type 0} (f : A → B) (p : List Token → A → Type 0) (ts : List Token) (b : B) : Type 0 where
  pub source : A
  pub spelled : p ts source
  pub value : b ≡ f source

-- one or the other
abbrev pub Either : {A : Type 0} → Lang A → Lang A → Lang A
Either p q ts a = p ts a ⊎ q ts a

-- one, or nothing
abbrev pub Perhaps : {A : Type 0} → Lang A → Lang (Option A)
Perhaps p ts None = ts ≡ []
Perhaps p ts (Some a) = p ts a

-- any number of them, one behind another
abbrev pub Many : {A : Type 0} → Lang A → Lang (List A)
Many p ts [] = ts ≡ []
Many p ts (a ∷ more) = (front : List Token) × (rest : List Token) × (ts ≡ front ++ rest) × p front a × Many p rest more

-- those whose value passes a test
pub record Checked {A : Type 0} (test : A → Bool) (p : List Token → A → Type 0) (ts : List Token) (a : A) : Type 0 where
  pub spelled : p ts a
  pub passes : test a ≡ true

-- none
abbrev pub Never : {A : Type 0} → Lang A
Never ts a = ⊥

-- one token that has a value
pub record One {A : Type 0} (f : Token → Option A) (ts : List Token) (a : A) : Type 0 where
  pub token : Token
  pub alone : ts ≡ token ∷ []
  pub value : f token ≡ Some a

-- both, of which the value is the second one's, or the first one's
abbrev pub After : {A B : Type 0} → Lang A → Lang B → Lang B
After p q = Mapped (λ r. r.1) (Both p q)

-- both, with the value of the first
abbrev pub Before : {A B : Type 0} → Lang A → Lang B → Lang A
Before p q = Mapped (λ r. r.0) (Both p q)

-- the values of a list, put one by one into one value
abbrev pub put_in : {A B : Type 0} → (B → A → B) → B → List A → B
put_in step into [] = into
put_in step into (x ∷ xs) = put_in step (step into x) xs
