-- A rule of a grammar: what it spells, how that is read, and how it is written. A grammar is put together by the
-- combinators below, which build all three; each names what must hold so that one token ahead is enough.
use Rattle.std.specs.Prelude.{◌≡◌, ℕ, Bool, true, false, ◌&&◌, if◌then◌else◌, List, [], ◌∷◌, ◌++◌, Option, Some, None, refl}
use Rattle.std.proofs.Common.{ap}
use Rattle.std.proofs.lemmas.Slice.Eq.{bytes_eq-Decides}
use denote.Enum.Bare.{true_same}
use Rattle.rls_text.specs.{contracts.token.Symbol.the_type, declared.token.Symbol.Symbol, declared.token.Token.Token, declared.token.Token.TheVariants.Word}
use Rattle.rls_text.specs.declared.token.Symbol.TheVariants as s
use Rattle.rls_text.specs.declared.token.Token.TheVariants as t
use Rattle.rls_text.specs.Heads.{Head, Exact, Keyword, Sign, same, begins, sees, apart, within}
use Rattle.rls_text.specs.Lang.{only, Both, Mapped, Either, Perhaps, Many, Checked, Never, One}
use Rattle.rls_text.specs.Parses.{Parses, when}
use Rattle.rls_text.specs.Parses as p
use Rattle.rls_text.specs.Writes.{Writer, some_is, through, first_of, one_or_other, written_if, alone_if, joined, perhaps_writes, many_writes, token_wrote, never_wrote, one_wrote, both_wrote, mapped_wrote, checked_wrote, perhaps_wrote, many_wrote}

-- A rule whose phrases begin with one of `heads` (or are empty, where `empty`), and go on at one of `more`.
pub record Rule (A : Type 0) (heads more : List Head) (empty : Bool) : Type 1 where
  -- which lists of tokens spell which values
  pub spells : List Token → A → Type 0
  -- how it is read
  pub parses : Parses spells heads more empty
  -- how some values are written
  pub prints : Writer spells

-- the same rule, written in other words that spell the same
abbrev pub writing : {A : Type 0} {hp mp : List Head} {ep : Bool} → (P : Rule A hp mp ep) → Writer P.spells → Rule A hp mp ep
writing P W = record { spells = P.spells; parses = P.parses; prints = W }

-- as the node is written, or else as what the rule holds besides
abbrev pub level : {A : Type 0} {hp mp : List Head} {ep : Bool} {q : List Token → A → Type 0} → (node : Rule A hp mp ep) → Writer q → ((ts : List Token) (a : A) → q ts a → node.spells ts a) → Rule A hp mp ep
level node below to = writing node (first_of node.prints (through below to))

-- ---- single tokens

-- exactly this token
abbrev pub token : (t : Token) → same t t ≡ true → Rule (Unit {0}) (Exact t ∷ []) [] false
token t e = record { spells = only t; parses = p.token t e; prints = record { writes = λ _. Some (t ∷ []); wrote = token_wrote t } }

pub word_same : (w : List ℕ) → same (Word w) (Word w) ≡ true
word_same w = (bytes_eq-Decides w w).1 refl

pub sign_same : (x : Symbol) → same (t.Symbol x) (t.Symbol x) ≡ true
sign_same x = true_same the_type x x refl

-- this keyword
abbrev pub word : (w : List ℕ) → Rule (Unit {0}) (Keyword w ∷ []) [] false
word w = token (Word w) (word_same w)

-- this sign
abbrev pub sign : (x : Symbol) → Rule (Unit {0}) (Sign x ∷ []) [] false
sign x = token (t.Symbol x) (sign_same x)

-- one token that has a value
abbrev pub one : {A : Type 0} {heads : List Head} → (f : Token → Option A) → ((t : Token) (a : A) → f t ≡ Some a → begins heads t ≡ true)
    → (back : A → Option Token) → ((a : A) (t : Token) → back a ≡ Some t → f t ≡ Some a) → Rule A heads [] false
one {heads = heads} f k back law = record { spells = One f; parses = p.one_of_kind f heads k; prints = record { writes = λ a. alone_if (back a); wrote = one_wrote f back law } }

-- none
abbrev pub never : {A : Type 0} {heads more : List Head} → Rule A heads more false
never = record { spells = Never; parses = p.never; prints = record { writes = λ a. None; wrote = never_wrote } }

-- ---- sequences

-- one, and then the other
abbrev pub both : {A B : Type 0} {hp mp hq mq : List Head} {ep eq : Bool} → Rule A hp mp ep → Rule B hq mq eq → apart mp hq ≡ true → Rule (A × B) (hp ++ when ep hq) (mq ++ when eq mp) (ep && eq)
both P Q e = record { spells = Both P.spells Q.spells; parses = p.both P.parses Q.parses e; prints = record { writes = λ r. joined (P.prints.writes r.0) (Q.prints.writes r.1); wrote = both_wrote _ _ P.prints Q.prints } }

-- with f of its value; `back` says of which part a value is written
abbrev pub mapped : {A B : Type 0} {hp mp : List Head} {ep : Bool} → (f : A → B) → (back : B → Option A) → ((b : B) (a : A) → back b ≡ Some a → b ≡ f a) → Rule A hp mp ep → Rule B hp mp ep
mapped f back law P = record { spells = Mapped f P.spells; parses = p.mapped f P.parses; prints = record { writes = λ b. written_if P.prints.writes (back b); wrote = mapped_wrote f back law _ P.prints } }

pub second_law : {A B : Type 0} (a : A) (b : B) (r : A × B) → ◌≡◌ {A = Option (A × B)} (Some (a, b)) (Some r) → b ≡ r.1
second_law a b r h = ap (λ z. z.1) (some_is (a, b) r h)

pub first_law : {A B : Type 0} (a : A) (b : B) (r : A × B) → ◌≡◌ {A = Option (A × B)} (Some (a, b)) (Some r) → a ≡ r.0
first_law a b r h = ap (λ z. z.0) (some_is (a, b) r h)

-- both, with the value of the second; the first is written as that of a
abbrev pub after_as : {A B : Type 0} {hp mp hq mq : List Head} {ep eq : Bool} → A → Rule A hp mp ep → Rule B hq mq eq → apart mp hq ≡ true → Rule B (hp ++ when ep hq) (mq ++ when eq mp) (ep && eq)
after_as a P Q e = mapped (λ r. r.1) (λ b. Some (a, b)) (λ b r. second_law a b r) (both P Q e)

-- both, with the value of the first; the second is written as that of b
abbrev pub before_as : {A B : Type 0} {hp mp hq mq : List Head} {ep eq : Bool} → B → Rule A hp mp ep → Rule B hq mq eq → apart mp hq ≡ true → Rule A (hp ++ when ep hq) (mq ++ when eq mp) (ep && eq)
before_as b P Q e = mapped (λ r. r.0) (λ a. Some (a, b)) (λ a r. first_law a b r) (both P Q e)

-- both, where the first has no value
abbrev pub after : {B : Type 0} {hp mp hq mq : List Head} {ep eq : Bool} → Rule (Unit {0}) hp mp ep → Rule B hq mq eq → apart mp hq ≡ true → Rule B (hp ++ when ep hq) (mq ++ when eq mp) (ep && eq)
after P Q e = after_as tt P Q e

-- both, where the second has no value
abbrev pub before : {A : Type 0} {hp mp hq mq : List Head} {ep eq : Bool} → Rule A hp mp ep → Rule (Unit {0}) hq mq eq → apart mp hq ≡ true → Rule A (hp ++ when ep hq) (mq ++ when eq mp) (ep && eq)
before P Q e = before_as tt P Q e

-- "(" P ")"
abbrev pub in_parentheses : {A : Type 0} {hp mp : List Head} → Rule A hp mp false → apart mp (Sign s.RParen ∷ []) ≡ true → Rule A (Sign s.LParen ∷ []) [] false
in_parentheses P e = after (sign s.LParen) (before P (sign s.RParen) e) refl

-- ---- choices, repetitions, tests

-- one or the other
abbrev pub either : {A : Type 0} {hp mp hq mq : List Head} → Rule A hp mp false → Rule A hq mq false → apart hp hq ≡ true → Rule A (hp ++ hq) (mp ++ mq) false
either P Q e = record { spells = Either P.spells Q.spells; parses = p.either P.parses Q.parses e; prints = one_or_other P.prints Q.prints }

-- one or the other, told apart by a test that may look further ahead
abbrev pub either_by : {A : Type 0} {hp mp hq mq : List Head} → (test : List Token → Bool) → (P : Rule A hp mp false) → (Q : Rule A hq mq false)
    → ((front rest : List Token) (a : A) → P.spells front a → sees mp rest ≡ false → test (front ++ rest) ≡ true) → ((front rest : List Token) (a : A) → Q.spells front a → sees mq rest ≡ false → test (front ++ rest) ≡ false)
    → Rule A (hp ++ hq) (mp ++ mq) false
either_by test P Q one other = record { spells = Either P.spells Q.spells; parses = p.either_by test _ _ _ _ _ _ P.parses Q.parses one other; prints = one_or_other P.prints Q.prints }

-- one, or nothing
abbrev pub perhaps : {A : Type 0} {hp mp : List Head} → Rule A hp mp false → Rule (Option A) hp (mp ++ hp) true
perhaps P = record { spells = Perhaps P.spells; parses = p.perhaps P.parses; prints = record { writes = perhaps_writes _ P.prints; wrote = perhaps_wrote _ P.prints } }

-- any number, one behind another
abbrev pub many : {A : Type 0} {hp mp : List Head} → Rule A hp mp false → apart mp hp ≡ true → Rule (List A) hp (mp ++ hp) true
many P e = record { spells = Many P.spells; parses = p.many P.parses e; prints = record { writes = many_writes _ P.prints; wrote = many_wrote _ P.prints } }

-- where the value passes the test
abbrev pub checked : {A : Type 0} {hp mp : List Head} {ep : Bool} → (test : A → Bool) → Rule A hp mp ep → Rule A hp mp ep
checked test P = record { spells = Checked test P.spells; parses = p.checked test P.parses; prints = record { writes = λ a. if test a then P.prints.writes a else None; wrote = checked_wrote test _ P.prints } }

-- the same rule, under longer lists
abbrev pub widened : {A : Type 0} {h m h' m' : List Head} {e : Bool} → Rule A h m e → within h h' ≡ true → within m m' ≡ true → Rule A h' m' e
widened P u v = record { spells = P.spells; parses = p.widened P.parses u v; prints = P.prints }

-- what q spells, read and written as by P, which spells the same
abbrev pub spelled_as : {A : Type 0} {h m : List Head} {e : Bool} → (q : List Token → A → Type 0) → (P : Rule A h m e) → ((ts : List Token) (a : A) → P.spells ts a → q ts a) → ((ts : List Token) (a : A) → q ts a → P.spells ts a) → Rule A h m e
spelled_as {h = h} {m = m} {e = e} q P to back = record { spells = q; parses = p.transferred _ q h m e P.parses to back; prints = through P.prints to }

-- ---- lists with commas

-- "," P
unfoldable pub with_comma : {A : Type 0} {hp mp : List Head} → Rule A hp mp false → Rule A (Sign s.Comma ∷ []) (mp ++ []) false
with_comma P = after (sign s.Comma) P refl

-- the first, and the others
abbrev pub as_list : {A : Type 0} → List A → Option (A × List A)
as_list [] = None
as_list (x ∷ xs) = Some (x, xs)

pub list_law : {A : Type 0} (b : List A) (a : A × List A) → as_list b ≡ Some a → b ≡ a.0 ∷ a.1
list_law [] a h = cc
list_law (x ∷ xs) a h = ap (λ r. r.0 ∷ r.1) (some_is (x, xs) a h)

-- P {"," P}
abbrev pub listed : {A : Type 0} {hp : List Head} → Rule A hp [] false → Rule (List A) (hp ++ []) (Sign s.Comma ∷ []) false
listed P = mapped (λ r. r.0 ∷ r.1) as_list list_law (both P (many (with_comma P) refl) refl)

-- ---- words that stand for values

-- A test that tells two values apart.
pub record Telling (A : Type 0) : Type 0 where
  pub are_same : A → A → Bool
  pub same_is : (x y : A) → are_same x y ≡ true → x ≡ y

-- what is given where a test passes
abbrev pub given_if : {A : Type 0} → Bool → A → Option A
given_if true a = Some a
given_if false a = None

pub given_was : {A : Type 0} (b : Bool) (x y : A) → given_if b x ≡ Some y → (b ≡ true) × (x ≡ y)
given_was true x y h = (refl, some_is x y h)
given_was false x y h = cc

pub stands_law : {A : Type 0} (T : Telling A) (x y : A) (u : Unit {0}) → given_if (T.are_same y x) tt ≡ Some u → y ≡ x
stands_law T x y u h = T.same_is y x (given_was (T.are_same y x) tt u h).0

-- with this value
abbrev pub standing_for : {A : Type 0} {hp mp : List Head} {ep : Bool} → Telling A → (x : A) → Rule (Unit {0}) hp mp ep → Rule A hp mp ep
standing_for T x P = mapped (λ _. x) (λ y. given_if (T.are_same y x) tt) (stands_law T x) P

-- this keyword, with this value
abbrev pub word_for : {A : Type 0} → Telling A → A → (w : List ℕ) → Rule A (Keyword w ∷ []) [] false
word_for T x w = standing_for T x (word w)

-- this sign, with this value
abbrev pub sign_for : {A : Type 0} → Telling A → A → (y : Symbol) → Rule A (Sign y ∷ []) [] false
sign_for T x y = standing_for T x (sign y)
