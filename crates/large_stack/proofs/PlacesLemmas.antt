-- What holds of two parts of a list holds of the whole.
use Rattle.std.proofs.Common.{◌≡◌, ℕ, ◌+◌, ◌-◌, ◌<◌, ◌++◌, List, length, refl, sym, subst, ap, ◌∙◌, arith}
use Rattle.std.proofs.Math.ListN.{get_or, set}
use Rattle.std.proofs.lemmas.Bool.{cases_lt}
use Rattle.std.proofs.lemmas.List.{get_or_append_left, get_or-append-add, get_or-append_right, get_or-set_same, get_or_default, length-append, length-set}
use denote.Ref.{MutBor}
use denote.Param.Members.{Shared}
use mathlib.Core.Logic.{⊎_elim}
use Rattle.std.specs.Fork.{ChangesAt}
use Rattle.large_stack.specs.Places.{AcceptsFrom, ChangesFrom}

-- the same of equal things
moved : {T : Type 0} (R : ℕ → T → T → Type 0) (i j : ℕ) (x x' y y' : T) → i ≡ j → x ≡ x' → y ≡ y' → R i x y → R j x' y'
moved R i j x x' y y' e f h r = subst (λ (it : _). R j x' it) h (subst (λ (it : _). R j it y) f (subst (λ (it : ℕ). R it x y) e r))

module _ {F T : Type 0} (g : Shared F (ℕ × (MutBor T × Unit {0})) (Unit {0} × (MutBor T × Unit {0}))) (f : F) (base : ℕ) where
  -- the only place
  pub only_changes : (xs : List T) (x y : T) → length xs < 2 → 0 < length xs → AcceptsFrom g f base xs → ChangesAt g f base (get_or xs 0 x) y → ChangesFrom g f base xs (set xs 0 y)
  only_changes xs x y short some accepts changes = record {
    len = length-set xs 0 y;
    each = λ k d below.
        let zeroth : 0 ≡ k = omega (arith, short, below) in
        let here : get_or xs 0 x ≡ get_or xs k d = get_or_default xs 0 x d some ∙ ap (λ (i : ℕ). get_or xs i d) zeroth in
        let there : y ≡ get_or (set xs 0 y) k d = sym (get_or-set_same xs 0 y d some) ∙ ap (λ (i : ℕ). get_or (set xs 0 y) i d) zeroth in
        moved (ChangesAt g f) base (base + k) _ _ _ _ (omega (arith, zeroth)) here there changes;
  }

  -- what stands behind the first place
  pub back_accepts : (all xs ys : List T) → all ≡ xs ++ ys → length xs ≡ 1 → AcceptsFrom g f base all → AcceptsFrom g f (base + 1) ys
  back_accepts all xs ys is one accepts = record {
    room = let room = accepts.room in omega (arith, room, ap length is, length-append xs ys, one);
    each = λ k d below p at.
        let long : 1 + k < length all = omega (arith, ap length is, length-append xs ys, one, below) in
        let same : get_or all (1 + k) d ≡ get_or ys k d = ap (λ (l : List T). get_or l (1 + k) d) is ∙ (ap (λ (n : ℕ). get_or (xs ++ ys) (n + k) d) (sym one) ∙ get_or-append-add xs ys k d) in
        let sum : base + (1 + k) ≡ base + 1 + k = omega arith in
        subst (λ (i : ℕ). g.pre f (i, (p, tt))) sum (accepts.each (1 + k) d long p (at ∙ sym same));
  }

  -- both parts
  pub both_change : (all xs ys xs' ys' : List T) → all ≡ xs ++ ys → length xs ≡ 1 → ChangesFrom g f base xs xs' → ChangesFrom g f (base + 1) ys ys' → ChangesFrom g f base all (xs' ++ ys')
  both_change all xs ys xs' ys' is one front back = record {
    len = omega (arith, ap length is, length-append xs ys, length-append xs' ys', front.len, back.len);
    each = λ k d below. ⊎_elim
        (λ low.
        let old : get_or xs k d ≡ get_or all k d = sym (ap (λ (l : List T). get_or l k d) is ∙ get_or_append_left xs ys d k low) in
        let new : get_or xs' k d ≡ get_or (xs' ++ ys') k d = sym (get_or_append_left xs' ys' d k (omega (arith, front.len, low))) in
        moved (ChangesAt g f) (base + k) (base + k) _ _ _ _ refl old new (front.each k d low))
        (λ high.
        let far : k - 1 < length ys = omega (arith, ap length is, length-append xs ys, one, below, high) in
        let old : get_or ys (k - 1) d ≡ get_or all k d = sym (ap (λ (l : List T). get_or l k d) is ∙ get_or-append_right xs ys 1 k d one (omega (arith, one, high))) in
        let new : get_or ys' (k - 1) d ≡ get_or (xs' ++ ys') k d = sym (get_or-append_right xs' ys' 1 k d (front.len ∙ one) (omega (arith, one, high))) in
        moved (ChangesAt g f) (base + 1 + (k - 1)) (base + k) _ _ _ _ (omega (arith, one, high)) old new (back.each (k - 1) d far))
        (cases_lt k (length xs));
  }
