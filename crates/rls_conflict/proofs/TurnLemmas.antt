-- An order grows by one in turn after another.
use Rattle.std.specs.Prelude.{◌≡◌, refl, ℕ, zero, suc, ◌<◌, ◌==◌, Bool, true, false, ◌||◌, List, [], ◌∷◌, ◌++◌, length, get_or, take, replicate, slice_set}
use Rattle.std.proofs.Common.{ap, sym, subst, ◌∙◌, arith}
use Rattle.std.proofs.lemmas.Bool.{true≢false, or_right, eqb-true, eqb-false}
use Rattle.std.proofs.lemmas.List.{get_or-set_same, get_or-set_other, length-set}
use Rattle.rls_history.specs.History.{History}
use Rattle.rls_history.specs.Orders.{IsNext, IsOrder, IsFirstLeft, StandInTurn, placed_by, none_placed, with_placed, left_below}
use Rattle.rls_conflict.specs.Ordering.{placed_in, AreListed, IsFirst}

-- the lists are those of all that are left, who is placed stands in the order so far, and all before the number are placed
pub record IsUnderWay (h : History) (lists : List (List ℕ)) (placed : List Bool) (order : List ℕ) (from : ℕ) : Type 0 where
  pub listed : AreListed h (placed_in placed) lists
  pub size : length placed ≡ h.count
  pub same : placed_in placed ≡ placed_by none_placed order
  pub turns : StandInTurn h none_placed order
  pub before : (i : ℕ) → i < from → placed_in placed i ≡ true

-- ---- nobody is placed at first

none_at : (n i : ℕ) → get_or (replicate n false) i false ≡ false
none_at zero i = refl
none_at (suc n) zero = refl
none_at (suc n) (suc i) = none_at n i

none_in : (n m i : ℕ) → get_or (take n [] ++ replicate m false) i false ≡ false
none_in zero m i = none_at m i
none_in (suc n) m i = none_at m i

pub nobody_placed : (h : History) (lists : List (List ℕ)) (placed : List Bool) (order : List ℕ) (n m from : ℕ) → AreListed h none_placed lists → length placed ≡ h.count → placed ≡ take n [] ++ replicate m false
    → order ≡ [] → from ≡ 0 → IsUnderWay h lists placed order from
nobody_placed h lists placed order n m from listed size are none start =
    let nobody : placed_in placed ≡ none_placed = (λ j. λ i. (ap (λ (all : List Bool). get_or all i false) are ∙ none_in n m i) j) in
    record {
      listed = subst (λ (now : ℕ → Bool). AreListed h now lists) (sym nobody) listed;
      size = size;
      same = nobody ∙ ap (placed_by none_placed) (sym none);
      turns = subst (StandInTurn h none_placed) (sym none) tt;
      before = λ i less. absurd (omega (arith, less, start));
    }

-- ---- one more is placed

placed_case : (same : Bool) (placed : List Bool) (t i : ℕ) → (i == t) ≡ same → t < length placed → placed_in (slice_set placed t true) i ≡ (same || placed_in placed i)
placed_case true placed t i is less = ap (placed_in (slice_set placed t true)) (eqb-true i t is) ∙ get_or-set_same placed t true false less
placed_case false placed t i is less = get_or-set_other placed t i true false (eqb-false i t is)

-- who is placed then
pub placed_more : (placed : List Bool) (t : ℕ) → t < length placed → placed_in (slice_set placed t true) ≡ with_placed (placed_in placed) t
placed_more placed t less = λ j. λ i. placed_case (i == t) placed t i refl less j

or_none : (a b : Bool) → (a || b) ≡ false → b ≡ false
or_none true b none = absurd (true≢false none)
or_none false b none = none

pub one_more : (h : History) (lists new : List (List ℕ)) (placed : List Bool) (order : List ℕ) (from first t : ℕ) → IsUnderWay h lists placed order from → AreListed h (placed_in placed) new → IsFirst placed first
    → IsNext h (placed_in placed) t → (StandInTurn h none_placed order → IsNext h (placed_by none_placed order) t → StandInTurn h none_placed (order ++ t ∷ []))
    → placed_by none_placed (order ++ t ∷ []) ≡ with_placed (placed_by none_placed order) t
    → IsUnderWay h new (slice_set placed t true) (order ++ t ∷ []) first
one_more h lists new placed order from first t so_far listed is next grows placed_is =
    let less : t < length placed = (let size = so_far.size in let within = next.within in omega (arith, size, within)) in
    let more : placed_in (slice_set placed t true) ≡ with_placed (placed_in placed) t = placed_more placed t less in
    record {
      listed = record {
        size = listed.size;
        only = listed.only;
        left = λ place reader within below none reads. listed.left place reader within below (or_none (reader == t) (placed_in placed reader) ((λ j. sym more j reader) ∙ none)) reads;
      };
      size = length-set placed t true ∙ so_far.size;
      same = more ∙ ap (λ (now : ℕ → Bool). with_placed now t) so_far.same ∙ sym placed_is;
      turns = grows so_far.turns (subst (λ (now : ℕ → Bool). IsNext h now t) so_far.same next);
      before = λ i before. (λ j. more j i) ∙ or_right (i == t) (placed_in placed i) (is.least i before);
    }

-- the first place that isn't placed is that of the first that is left
pub is_first_left : (h : History) (placed : List Bool) (first : ℕ) → length placed ≡ h.count → IsFirst placed first → IsFirstLeft h (placed_in placed) first
is_first_left h placed first size is = record {
  within = let within = is.within in omega (arith, size, within);
  is_left = is.is_left;
  least = is.least;
}

-- fewer are left
pub fewer_left : (h : History) (placed : List Bool) (t : ℕ) → t < length placed → suc (left_below (with_placed (placed_in placed) t) h.count) ≡ left_below (placed_in placed) h.count
    → left_below (placed_in (slice_set placed t true)) h.count < left_below (placed_in placed) h.count
fewer_left h placed t less fewer =
    let more = ap (λ (now : ℕ → Bool). left_below now h.count) (placed_more placed t less) in
    omega (arith, more, fewer)

-- where all are placed it is an order
pub all_placed : (h : History) (lists : List (List ℕ)) (placed : List Bool) (order : List ℕ) (from : ℕ) → IsUnderWay h lists placed order from → ((i : ℕ) → i < length placed → placed_in placed i ≡ true) → IsOrder h order
all_placed h lists placed order from so_far all = record {
  in_turn = so_far.turns;
  all = λ i less. (λ j. sym so_far.same j i) ∙ all i (let size = so_far.size in omega (arith, size, less));
}

-- the next in turn, as it is found by what is seen of who is placed
pub found_next : (h : History) (lists : List (List ℕ)) (placed seen : List Bool) (order : List ℕ) (from first t : ℕ) → seen ≡ placed → IsUnderWay h lists placed order from → IsFirst placed first
    → (AreListed h (placed_in seen) lists → IsFirstLeft h (placed_in seen) first → IsNext h (placed_in seen) t) → IsNext h (placed_in placed) t
found_next h lists placed seen order from first t are so_far is finds =
    subst (λ (all : List Bool). IsNext h (placed_in all) t) are
    (finds (subst (λ (all : List Bool). AreListed h (placed_in all) lists) (sym are) so_far.listed)
    (subst (λ (all : List Bool). IsFirstLeft h (placed_in all) first) (sym are) (is_first_left h placed first so_far.size is)))

pub kept_listed : (h : History) (lists new : List (List ℕ)) (placed seen : List Bool) → seen ≡ placed → AreListed h (placed_in placed) lists
    → (AreListed h (placed_in seen) lists → AreListed h (placed_in seen) new) → AreListed h (placed_in placed) new
kept_listed h lists new placed seen are listed keeps =
    subst (λ (all : List Bool). AreListed h (placed_in all) new) are (keeps (subst (λ (all : List Bool). AreListed h (placed_in all) lists) (sym are) listed))
