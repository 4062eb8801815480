-- Loops that read any number of phrases.
use Rattle.std.proofs.Common.{◌≡◌, ℕ, zero, suc, ◌+◌, ◌-◌, ◌<◌, ◌≤◌, Bool, ◌||◌, true, false, List, [], ◌∷◌, ◌++◌, length, Some, None, refl, arith, ap, sym, append_assoc, ◌∙◌}
use Rattle.rls_text.specs.declared.token.Token.{Token}
use Rattle.rls_text.specs.FirstSets.{literal_heads, item_heads}
use Rattle.rls_text.specs.Heads.{Head, Names, sees, fits, begins, Keyword}
use Rattle.rls_text.specs.Parses.{begins-append, Outcome, and_then, read_many, read_token}
use Rattle.rls_text.specs.declared.token.Token.TheVariants.{Word}
use Rattle.std.specs.Prelude.{codes}
use Rattle.rls_text.specs.Trees.{Tree, not_of}
use Rattle.rls_text.specs.Gives.{with_front, counted, added, folded}
use Rattle.rls_text.specs.Grammar as g
use Rattle.rls_text.specs.Trees as trees

pub one_left : (turn end : ℕ) → turn < end → end - turn ≡ suc (end - (turn + 1))
one_left turn end h = omega arith

pub none_left : (turn end : ℕ) → end ≤ turn → end - turn ≡ 0
none_left turn end h = omega arith

append_nothing : {A : Type 0} (o : Outcome (List A)) → with_front [] o ≡ o
unfolding with_front
append_nothing None = refl
append_nothing (Some x) = refl

append_twice : {A : Type 0} (xs ys : List A) (o : Outcome (List A)) → with_front xs (with_front ys o) ≡ with_front (xs ++ ys) o
unfolding with_front
append_twice xs ys None = refl
append_twice xs ys (Some x) = ap (λ z. Some (z, x.1)) (sym (append_assoc xs ys x.0))

pub append_end : {A : Type 0} (xs : List A) → xs ++ [] ≡ xs
append_end [] = refl
append_end (x ∷ xs) = ap (λ z. x ∷ z) (append_end xs)

module _ {A : Type 0} (heads : List Head) (p : List Token → Outcome A) where
  pub loop_begins : (end : ℕ) (ts : List Token) → read_many heads p end ts ≡ with_front [] (read_many heads p (end - 0) ts)
  loop_begins end ts = let e : end - 0 ≡ end = omega arith in rw e (sym (append_nothing (read_many heads p end ts)))

  pub front_begins : (front : List A) (end : ℕ) (ts : List Token) → with_front front (read_many heads p end ts) ≡ with_front front (read_many heads p (end - 0) ts)
  front_begins front end ts = let e : end - 0 ≡ end = omega arith in rw e refl

  pub loop_stops : (front : List A) (turn end : ℕ) (rest : List Token) → turn < end → sees heads rest ≡ false → with_front front (read_many heads p (end - turn) rest) ≡ Some (front, rest)
  unfolding read_many with_front
  loop_stops front turn end rest h e = rw (one_left turn end h, e) (ap (λ z. Some (z, rest)) (append_end front))

  pub loop_ends : (front : List A) (turn end : ℕ) (rest : List Token) → end ≤ turn → with_front front (read_many heads p (end - turn) rest) ≡ Some (front, rest)
  unfolding read_many with_front
  loop_ends front turn end rest h = rw (none_left turn end h) (ap (λ z. Some (z, rest)) (append_end front))

  pub loop_fails : (front : List A) (turn end : ℕ) (rest : List Token) → turn < end → sees heads rest ≡ true → p rest ≡ None → with_front front (read_many heads p (end - turn) rest) ≡ None
  unfolding read_many with_front
  loop_fails front turn end rest h e n = rw (one_left turn end h, e, n) refl

  pub loop_goes_on : (front : List A) (turn end : ℕ) (rest behind : List Token) (a : A) → turn < end → sees heads rest ≡ true → p rest ≡ Some (a, behind)
      → with_front front (read_many heads p (end - turn) rest) ≡ with_front (front ++ a ∷ []) (read_many heads p (end - (turn + 1)) behind)
  unfolding read_many with_front
  loop_goes_on front turn end rest behind a h e n = rw (one_left turn end h, e, n) (append_twice front (a ∷ []) (read_many heads p (end - (turn + 1)) behind))

module _ (heads : List Head) (p : List Token → Outcome (Unit {0})) where
  pub count_stops : (count turn end : ℕ) (rest : List Token) → turn < end → sees heads rest ≡ false → added count (counted (read_many heads p (end - turn) rest)) ≡ Some (count, rest)
  unfolding read_many counted added
  count_stops count turn end rest h e = rw (one_left turn end h, e) (ap (λ z. Some (z, rest)) (omega arith))

  pub count_ends : (count turn end : ℕ) (rest : List Token) → end ≤ turn → added count (counted (read_many heads p (end - turn) rest)) ≡ Some (count, rest)
  unfolding read_many counted added
  count_ends count turn end rest h = rw (none_left turn end h) (ap (λ z. Some (z, rest)) (omega arith))

  pub count_goes_on : (count turn end : ℕ) (rest behind : List Token) (a : Unit {0}) → turn < end → sees heads rest ≡ true → p rest ≡ Some (a, behind)
      → added count (counted (read_many heads p (end - turn) rest)) ≡ added (count + 1) (counted (read_many heads p (end - (turn + 1)) behind))
  unfolding read_many counted added
  count_goes_on count turn end rest behind a h e n = rw (one_left turn end h, e, n) (go (read_many heads p (end - (turn + 1)) behind))
    where
      go : (o : Outcome (List (Unit {0}))) → added count (counted (and_then o (λ more behind. Some (a ∷ more, behind)))) ≡ added (count + 1) (counted o)
      go None = refl
      go (Some x) = ap (λ z. Some (z, x.1)) (omega arith)

-- an expression at a depth that isn't 0 is a disjunction one deeper
pub deeper : (depth : ℕ) (ts : List Token) → 0 < depth → (g.expr depth).read ts ≡ (g.or (g.expr (depth - 1))).read ts
unfolding g.expr
deeper zero ts h = absurd (omega arith)
deeper (suc n) ts h = let e : n ≡ suc n - 1 = omega arith in ap (λ d. (g.or (g.expr d)).read ts) e

pub negated_on : (turn count : ℕ) (operand : Tree) → turn < count → trees.negated (count - turn) operand ≡ trees.negated (count - (turn + 1)) (not_of operand)
negated_on turn count operand h = rw (one_left turn count h) refl

pub negated_done : (turn count : ℕ) (operand : Tree) → count ≤ turn → trees.negated (count - turn) operand ≡ operand
negated_done turn count operand h = rw (none_left turn count h) refl

pub nots_begin : (ts : List Token) → g.nots.parses.read ts ≡ added 0 (counted (read_many (Keyword (codes "not") ∷ []) (read_token (Word (codes "not"))) (length ts - 0) ts))
unfolding g.nots counted added
nots_begin ts = let e : length ts - 0 ≡ length ts = omega arith in rw e (go (read_many (Keyword (codes "not") ∷ []) (read_token (Word (codes "not"))) (length ts) ts))
  where
    go : (o : Outcome (List (Unit {0}))) → and_then o (λ xs rest. Some (length xs, rest)) ≡ added 0 (counted o)
    go None = refl
    go (Some x) = ap (λ z. Some (z, x.1)) (omega arith)

sees_append : (hs ks : List Head) (ts : List Token) → sees (hs ++ ks) ts ≡ (sees hs ts || sees ks ts)
sees_append hs ks [] = refl
sees_append hs ks (t ∷ ts) = begins-append hs ks t

-- an item begins as a literal, a column or CURRENT_USER
pub sees_item : (ts : List Token) → sees item_heads ts ≡ (sees literal_heads ts || (sees (Names ∷ []) ts || sees (Keyword (codes "current_user") ∷ []) ts))
sees_item ts = sees_append literal_heads (Names ∷ Keyword (codes "current_user") ∷ []) ts ∙ ap (λ b. sees literal_heads ts || b) (sees_append (Names ∷ []) (Keyword (codes "current_user") ∷ []) ts)

pub sees_none : (ts : List Token) → sees [] ts ≡ false
sees_none [] = refl
sees_none (t ∷ ts) = refl

pub sees_more : (h : Head) (hs : List Head) (ts : List Token) → sees (h ∷ []) ts ≡ false → sees (h ∷ hs) ts ≡ sees hs ts
sees_more h hs [] e = refl
sees_more h hs (t ∷ ts) e = go (fits h t) (begins hs t) e
  where
    go : (a b : Bool) → (a || false) ≡ false → (a || b) ≡ b
    go true b e = cc
    go false b e = refl

pub sees_first : (h : Head) (hs : List Head) (ts : List Token) → sees (h ∷ []) ts ≡ true → sees (h ∷ hs) ts ≡ true
sees_first h hs [] e = cc
sees_first h hs (t ∷ ts) e = go (fits h t) (begins hs t) e
  where
    go : (a b : Bool) → (a || false) ≡ true → (a || b) ≡ true
    go true b e = refl
    go false b e = cc

-- a loop that puts each value into one
module _ {A B : Type 0} (step : B → A → B) (heads : List Head) (p : List Token → Outcome A) where
  pub fold_begins : (into : B) (end : ℕ) (ts : List Token) → folded step into (read_many heads p end ts) ≡ folded step into (read_many heads p (end - 0) ts)
  fold_begins into end ts = let e : end - 0 ≡ end = omega arith in rw e refl

  pub fold_stops : (into : B) (turn end : ℕ) (rest : List Token) → turn < end → sees heads rest ≡ false → folded step into (read_many heads p (end - turn) rest) ≡ Some (into, rest)
  unfolding read_many folded
  fold_stops into turn end rest h e = rw (one_left turn end h, e) refl

  pub fold_ends : (into : B) (turn end : ℕ) (rest : List Token) → end ≤ turn → folded step into (read_many heads p (end - turn) rest) ≡ Some (into, rest)
  unfolding read_many folded
  fold_ends into turn end rest h = rw (none_left turn end h) refl

  pub fold_fails : (into : B) (turn end : ℕ) (rest : List Token) → turn < end → sees heads rest ≡ true → p rest ≡ None → folded step into (read_many heads p (end - turn) rest) ≡ None
  unfolding read_many folded
  fold_fails into turn end rest h e n = rw (one_left turn end h, e, n) refl

  pub fold_goes_on : (into : B) (turn end : ℕ) (rest behind : List Token) (a : A) → turn < end → sees heads rest ≡ true → p rest ≡ Some (a, behind)
      → folded step into (read_many heads p (end - turn) rest) ≡ folded step (step into a) (read_many heads p (end - (turn + 1)) behind)
  unfolding read_many folded
  fold_goes_on into turn end rest behind a h e n = rw (one_left turn end h, e, n) (go (read_many heads p (end - (turn + 1)) behind))
    where
      go : (o : Outcome (List A)) → folded step into (and_then o (λ more behind. Some (a ∷ more, behind))) ≡ folded step (step into a) o
      go None = refl
      go (Some x) = refl
