-- A rule, and what the parser keeps of its values, since it cuts an expression that is too deep. What each function
-- gives is what its rule's reader finds, with the map laid over it once; the combinators are those of `Rule`.
use Rattle.std.specs.Prelude.{◌≡◌, ℕ, zero, suc, Bool, true, false, ◌&&◌, if◌then◌else◌, List, [], ◌∷◌, ◌++◌, length, map, Option, Some, None, refl}
use Rattle.std.proofs.Common.{sym, ap, ◌∙◌}
use Rattle.rls_text.specs.declared.token.Symbol.TheVariants as s
use Rattle.rls_text.specs.declared.token.Token.{Token}
use Rattle.rls_text.specs.Heads.{Head, Sign, sees, apart, within}
use Rattle.rls_text.specs.Parses.{Outcome, and_then, when, read_both, read_mapped, read_checked, read_either, read_perhaps, read_many}
use Rattle.rls_text.specs.Writes.{Writer, without_second}
use Rattle.rls_text.specs.Rule as base
use Rattle.rls_text.specs.Rule.{Rule}

-- A rule of which `to` is kept, and the reader of what is kept.
pub record Cut {A I : Type 0} (to : A → I) (heads more : List Head) (empty : Bool) : Type 1 where
  pub rule : Rule A heads more empty
  pub read : List Token → Outcome I
  pub same : (ts : List Token) → read ts ≡ read_mapped to rule.parses.read ts

-- the same, if it is there
abbrev pub of_some : {A I : Type 0} → (A → I) → Option A → Option I
of_some f None = None
of_some f (Some a) = Some (f a)

-- ---- the readers of what is kept find what the rules' readers find

kept_outcome : {A : Type 0} (o : Outcome A) → o ≡ and_then o (λ a rest. Some (a, rest))
kept_outcome None = refl
kept_outcome (Some x) = refl

pub plain_same : {A : Type 0} (p : List Token → Outcome A) (ts : List Token) → p ts ≡ read_mapped (λ a. a) p ts
plain_same p ts = kept_outcome (p ts)

module _ {A I B J : Type 0} (f : A → I) (g : B → J) (p : List Token → Outcome A) (p' : List Token → Outcome I) (q : List Token → Outcome B) (q' : List Token → Outcome J) (P : (ts : List Token) → p' ts ≡ read_mapped f p ts) (Q : (ts : List Token) → q' ts ≡ read_mapped g q ts) where
  pub both_same : (ts : List Token) → read_both p' q' ts ≡ read_mapped (λ r. (f r.0, g r.1)) (read_both p q) ts
  both_same ts = ap (λ o. and_then {B = I × J} o (λ a rest. and_then {B = I × J} (q' rest) (λ b behind. Some ((a, b), behind)))) (P ts) ∙ go (p ts)
    where
      other : (a : A) (o : Outcome B) → and_then {B = I × J} (and_then {B = J} o (λ b rest. Some (g b, rest))) (λ b behind. Some ((f a, b), behind)) ≡ and_then {B = I × J} (and_then {B = A × B} o (λ b behind. Some ((a, b), behind))) (λ r rest. Some ((f r.0, g r.1), rest))
      other a None = refl
      other a (Some y) = refl

      go : (o : Outcome A) → and_then {B = I × J} (and_then {B = I} o (λ a rest. Some (f a, rest))) (λ a rest. and_then {B = I × J} (q' rest) (λ b behind. Some ((a, b), behind)))
          ≡ and_then {B = I × J} (and_then {B = A × B} o (λ a rest. and_then {B = A × B} (q rest) (λ b behind. Some ((a, b), behind)))) (λ r rest. Some ((f r.0, g r.1), rest))
      go None = refl
      go (Some x) = ap (λ o. and_then {B = I × J} o (λ b behind. Some ((f x.0, b), behind))) (Q x.1) ∙ other x.0 (q x.1)

module _ {A I B J : Type 0} (to : A → I) (out : B → J) (f : A → B) (f' : I → J) (square : (a : A) → out (f a) ≡ f' (to a)) (p : List Token → Outcome A) (p' : List Token → Outcome I) (P : (ts : List Token) → p' ts ≡ read_mapped to p ts) where
  pub mapped_same : (ts : List Token) → read_mapped f' p' ts ≡ read_mapped out (read_mapped f p) ts
  mapped_same ts = ap (λ o. and_then o (λ a rest. Some (f' a, rest))) (P ts) ∙ go (p ts)
    where
      go : (o : Outcome A) → and_then (and_then o (λ a rest. Some (to a, rest))) (λ a rest. Some (f' a, rest)) ≡ and_then (and_then o (λ a rest. Some (f a, rest))) (λ a rest. Some (out a, rest))
      go None = refl
      go (Some x) = ap (λ z. Some (z, x.1)) (sym (square x.0))

module _ {A I : Type 0} (to : A → I) (test : A → Bool) (test' : I → Bool) (square : (a : A) → test' (to a) ≡ test a) (p : List Token → Outcome A) (p' : List Token → Outcome I) (P : (ts : List Token) → p' ts ≡ read_mapped to p ts) where
  pub checked_same : (ts : List Token) → read_checked test' p' ts ≡ read_mapped to (read_checked test p) ts
  checked_same ts = ap (λ o. and_then o (λ a rest. if◌then◌else◌ {A = Outcome I} (test' a) (Some (a, rest)) None)) (P ts) ∙ go (p ts)
    where
      passed : (b : Bool) (x : A × List Token) → if◌then◌else◌ {A = Outcome I} b (Some (to x.0, x.1)) None ≡ and_then (if◌then◌else◌ {A = Outcome A} b (Some x) None) (λ a rest. Some (to a, rest))
      passed true x = refl
      passed false x = refl

      go : (o : Outcome A) → and_then (and_then o (λ a rest. Some (to a, rest))) (λ a rest. if◌then◌else◌ {A = Outcome I} (test' a) (Some (a, rest)) None)
          ≡ and_then (and_then o (λ a rest. if◌then◌else◌ {A = Outcome A} (test a) (Some (a, rest)) None)) (λ a rest. Some (to a, rest))
      go None = refl
      go (Some x) = ap (λ b. if◌then◌else◌ {A = Outcome I} b (Some (to x.0, x.1)) None) (square x.0) ∙ passed (test x.0) x

module _ {A I : Type 0} (to : A → I) (heads : List Head) (p q : List Token → Outcome A) (p' q' : List Token → Outcome I) (P : (ts : List Token) → p' ts ≡ read_mapped to p ts) (Q : (ts : List Token) → q' ts ≡ read_mapped to q ts) where
  pub either_same : (ts : List Token) → read_either heads p' q' ts ≡ read_mapped to (read_either heads p q) ts
  either_same ts = go (sees heads ts)
    where
      go : (b : Bool) → if◌then◌else◌ {A = Outcome I} b (p' ts) (q' ts) ≡ and_then (if◌then◌else◌ {A = Outcome A} b (p ts) (q ts)) (λ a rest. Some (to a, rest))
      go true = P ts
      go false = Q ts

module _ {A I : Type 0} (to : A → I) (heads : List Head) (p : List Token → Outcome A) (p' : List Token → Outcome I) (P : (ts : List Token) → p' ts ≡ read_mapped to p ts) where
  pub perhaps_same : (ts : List Token) → read_perhaps heads p' ts ≡ read_mapped (of_some to) (read_perhaps heads p) ts
  perhaps_same ts = go (sees heads ts)
    where
      some : (o : Outcome A) → and_then (and_then o (λ a rest. Some (to a, rest))) (λ a rest. Some (Some a, rest)) ≡ and_then (and_then o (λ a rest. Some (Some a, rest))) (λ a rest. Some (of_some to a, rest))
      some None = refl
      some (Some x) = refl

      go : (b : Bool) → if◌then◌else◌ {A = Outcome (Option I)} b (and_then (p' ts) (λ a rest. Some (Some a, rest))) (Some (None, ts))
          ≡ and_then (if◌then◌else◌ {A = Outcome (Option A)} b (and_then (p ts) (λ a rest. Some (Some a, rest))) (Some (None, ts))) (λ a rest. Some (of_some to a, rest))
      go true = ap (λ o. and_then o (λ a rest. Some (Some a, rest))) (P ts) ∙ some (p ts)
      go false = refl

  pub many_same : (n : ℕ) (ts : List Token) → read_many heads p' n ts ≡ read_mapped (map to) (read_many heads p n) ts
  unfolding read_many
  many_same zero ts = refl
  many_same (suc n) ts = go (sees heads ts) (λ us. many_same n us)
    where
      more : (a : A) (o : Outcome (List A)) → and_then (and_then o (λ xs rest. Some (map to xs, rest))) (λ xs behind. Some (to a ∷ xs, behind)) ≡ and_then (and_then o (λ xs behind. Some (a ∷ xs, behind))) (λ xs rest. Some (map to xs, rest))
      more a None = refl
      more a (Some y) = refl

      first : (o : Outcome A) → ((us : List Token) → read_many heads p' n us ≡ read_mapped (map to) (read_many heads p n) us)
          → and_then (and_then o (λ a rest. Some (to a, rest))) (λ a rest. and_then (read_many heads p' n rest) (λ xs behind. Some (a ∷ xs, behind)))
          ≡ and_then (and_then o (λ a rest. and_then (read_many heads p n rest) (λ xs behind. Some (a ∷ xs, behind)))) (λ xs rest. Some (map to xs, rest))
      first None again = refl
      first (Some x) again = ap (λ o. and_then o (λ xs behind. Some (to x.0 ∷ xs, behind))) (again x.1) ∙ more x.0 (read_many heads p n x.1)

      go : (b : Bool) → ((us : List Token) → read_many heads p' n us ≡ read_mapped (map to) (read_many heads p n) us)
          → if◌then◌else◌ {A = Outcome (List I)} b (and_then (p' ts) (λ a rest. and_then (read_many heads p' n rest) (λ xs behind. Some (a ∷ xs, behind)))) (Some ([], ts))
          ≡ and_then (if◌then◌else◌ {A = Outcome (List A)} b (and_then (p ts) (λ a rest. and_then (read_many heads p n rest) (λ xs behind. Some (a ∷ xs, behind)))) (Some ([], ts))) (λ xs rest. Some (map to xs, rest))
      go true again = ap (λ o. and_then o (λ a rest. and_then (read_many heads p' n rest) (λ xs behind. Some (a ∷ xs, behind)))) (P ts) ∙ first (p ts) again
      go false again = refl

module _ {A J : Type 0} (out f' : A → J) (hp mp : List Head) (ep : Bool) (P : Rule A hp mp ep) (square : (ts : List Token) (a : A) → P.spells ts a → out a ≡ f' a) where
  pub spelled_same : (ts : List Token) → read_mapped f' P.parses.read ts ≡ read_mapped out P.parses.read ts
  spelled_same ts = go (P.parses.read ts) refl
    where
      go : (o : Outcome A) → P.parses.read ts ≡ o → and_then {B = J} o (λ a rest. Some (f' a, rest)) ≡ and_then {B = J} o (λ a rest. Some (out a, rest))
      go None e = refl
      go (Some x) e =
          let front = P.parses.sound ts x.1 x.0 e in
          ap (λ z. Some (z, x.1)) (sym (square front.front x.0 front.spelled))

-- ---- combinators

-- all of the value
abbrev pub plain : {A : Type 0} {hp mp : List Head} {ep : Bool} → Rule A hp mp ep → Cut {A = A} {I = A} (λ a. a) hp mp ep
plain P = record { rule = P; read = P.parses.read; same = plain_same P.parses.read }

-- one, and then the other
abbrev pub both : {A I B J : Type 0} {f : A → I} {g : B → J} {hp mp hq mq : List Head} {ep eq : Bool} → Cut f hp mp ep → Cut g hq mq eq → apart mp hq ≡ true → Cut {A = A × B} {I = I × J} (λ r. (f r.0, g r.1)) (hp ++ when ep hq) (mq ++ when eq mp) (ep && eq)
both {f = f} {g = g} P Q e = record { rule = base.both P.rule Q.rule e; read = read_both P.read Q.read; same = both_same f g P.rule.parses.read P.read Q.rule.parses.read Q.read P.same Q.same }

-- with f of the value, of which f' of what is kept is kept
abbrev pub mapped : {A I B J : Type 0} {to : A → I} {hp mp : List Head} {ep : Bool} → (out : B → J) → (f : A → B) → (f' : I → J) → ((a : A) → out (f a) ≡ f' (to a))
    → (back : B → Option A) → ((b : B) (a : A) → back b ≡ Some a → b ≡ f a) → Cut to hp mp ep → Cut out hp mp ep
mapped {to = to} out f f' square back law P =
    record { rule = base.mapped f back law P.rule; read = read_mapped f' P.read; same = mapped_same to out f f' square P.rule.parses.read P.read P.same }

-- a word without a value, and then the other
abbrev pub after : {B J : Type 0} {g : B → J} {hp mp hq mq : List Head} {ep eq : Bool} → Rule (Unit {0}) hp mp ep → Cut g hq mq eq → apart mp hq ≡ true → Cut g (hp ++ when ep hq) (mq ++ when eq mp) (ep && eq)
after {g = g} P Q e = mapped g (λ r. r.1) (λ r. r.1) (λ r. refl) (λ b. Some (tt, b)) (λ b r. base.second_law tt b r) (both (plain P) Q e)

-- one, and then the other, whose value is lost; it is written as that of b
abbrev pub before_as : {A I B : Type 0} {f : A → I} {hp mp hq mq : List Head} {ep eq : Bool} → B → Cut f hp mp ep → Rule B hq mq eq → apart mp hq ≡ true → Cut f (hp ++ when ep hq) (mq ++ when eq mp) (ep && eq)
before_as {f = f} b P Q e = mapped f (λ r. r.0) (λ r. r.0) (λ r. refl) (λ a. Some (a, b)) (λ a r. base.first_law a b r) (both P (plain Q) e)

-- "(" P ")"
abbrev pub in_parentheses : {A I : Type 0} {f : A → I} {hp mp : List Head} → Cut f hp mp false → apart mp (Sign s.RParen ∷ []) ≡ true → Cut f (Sign s.LParen ∷ []) [] false
in_parentheses P e = after (base.sign s.LParen) (before_as tt P (base.sign s.RParen) e) refl

-- "," P
unfoldable pub with_comma : {A I : Type 0} {f : A → I} {hp mp : List Head} → Cut f hp mp false → Cut f (Sign s.Comma ∷ []) (mp ++ []) false
with_comma P = after (base.sign s.Comma) P refl

-- one or the other
abbrev pub either : {A I : Type 0} {f : A → I} {hp mp hq mq : List Head} → Cut f hp mp false → Cut f hq mq false → apart hp hq ≡ true → Cut f (hp ++ hq) (mp ++ mq) false
either {f = f} {hp = hp} P Q e = record { rule = base.either P.rule Q.rule e; read = read_either hp P.read Q.read; same = either_same f hp P.rule.parses.read Q.rule.parses.read P.read Q.read P.same Q.same }

-- one, or nothing
abbrev pub perhaps : {A I : Type 0} {f : A → I} {hp mp : List Head} → Cut f hp mp false → Cut (of_some f) hp (mp ++ hp) true
perhaps {f = f} {hp = hp} P = record { rule = base.perhaps P.rule; read = read_perhaps hp P.read; same = perhaps_same f hp P.rule.parses.read P.read P.same }

-- any number, one behind another
abbrev pub many : {A I : Type 0} {f : A → I} {hp mp : List Head} → Cut f hp mp false → apart mp hp ≡ true → Cut (map f) hp (mp ++ hp) true
many {f = f} {hp = hp} P e = record { rule = base.many P.rule e; read = λ ts. read_many hp P.read (length ts) ts; same = λ ts. many_same f hp P.rule.parses.read P.read P.same (length ts) ts }

-- where the value passes the test, as what is kept does
abbrev pub checked : {A I : Type 0} {f : A → I} {hp mp : List Head} {ep : Bool} → (test : A → Bool) → (test' : I → Bool) → ((a : A) → test' (f a) ≡ test a) → Cut f hp mp ep → Cut f hp mp ep
checked {f = f} test test' square P = record { rule = base.checked test P.rule; read = read_checked test' P.read; same = checked_same f test test' square P.rule.parses.read P.read P.same }

-- none
abbrev pub never : {A I : Type 0} {f : A → I} {heads more : List Head} → Cut f heads more false
never = record { rule = base.never; read = λ ts. None; same = λ ts. refl }

-- the same rule, under longer lists
abbrev pub widened : {A I : Type 0} {f : A → I} {h m h' m' : List Head} {e : Bool} → Cut f h m e → within h h' ≡ true → within m m' ≡ true → Cut f h' m' e
widened P u v = record { rule = base.widened P.rule u v; read = P.read; same = P.same }

-- the same rule, written in other words that spell the same
abbrev pub writing : {A I : Type 0} {f : A → I} {hp mp : List Head} {ep : Bool} → (P : Cut f hp mp ep) → Writer P.rule.spells → Cut f hp mp ep
writing P W = record { rule = base.writing P.rule W; read = P.read; same = P.same }

-- as the node is written, or else as what the rule holds besides
abbrev pub level : {A I : Type 0} {f : A → I} {hp mp : List Head} {ep : Bool} {q : List Token → A → Type 0} → (node : Cut f hp mp ep) → Writer q → ((ts : List Token) (a : A) → q ts a → node.rule.spells ts a) → Cut f hp mp ep
level node below to = record { rule = base.level node.rule below to; read = node.read; same = node.same }

-- a level of precedence: the level below and what goes on with it, or the level below alone; where it goes on, what
-- stands before is written as an operand
abbrev pub chain : {A I B L : Type 0} {to : A → I} {k : B → L} {hp mp hq mq : List Head} {ep eq : Bool} → (f : A × B → A) → (f' : I × L → I) → ((r : A × B) → to (f r) ≡ f' (to r.0, k r.1))
    → (back : A → Option (A × B)) → ((b : A) (a : A × B) → back b ≡ Some a → b ≡ f a) → (below : Cut to hp mp ep) → Writer below.rule.spells → (more : Cut k hq mq eq)
    → (nothing : B) → more.rule.spells [] nothing → ((a : A) → f (a, nothing) ≡ a) → apart mp hq ≡ true → Cut to (hp ++ when ep hq) (mq ++ when eq mp) (ep && eq)
chain {to = to} f f' square back law below operand more nothing none alone e =
    level (mapped to f f' square back law (both (writing below operand) more e)) below.rule.prints (without_second f below.rule.spells more.rule.spells (λ a. a) nothing none alone)

-- what f' makes of the values is kept, since `out` makes the same of what the rule spells
abbrev pub kept_as : {A J : Type 0} {hp mp : List Head} {ep : Bool} → (out f' : A → J) → (P : Rule A hp mp ep) → ((ts : List Token) (a : A) → P.spells ts a → out a ≡ f' a) → Cut out hp mp ep
kept_as {hp = hp} {mp = mp} {ep = ep} out f' P square = record { rule = P; read = read_mapped f' P.parses.read; same = spelled_same out f' hp mp ep P square }
