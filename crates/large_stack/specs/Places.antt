-- A call at each place of a part of a list.
use Rattle.std.specs.Prelude.{◌≡◌, ℕ, ◌+◌, ◌^◌, ◌<◌, List, length, slice_index_or}
use Rattle.std.specs.Fork.{AcceptsAt, ChangesAt}
use denote.Ref.{MutBor}
use denote.Param.Members.{Shared}

module _ {F T : Type 0} (g : Shared F (ℕ × (MutBor T × Unit {0})) (Unit {0} × (MutBor T × Unit {0}))) (f : F) (base : ℕ) where
  -- f may be called at each place of xs, which stands from the place base on
  pub record AcceptsFrom (xs : List T) : Type 0 where
    pub room : base + length xs < 2 ^ 64
    pub each : (k : ℕ) (d : T) → k < length xs → AcceptsAt g f (base + k) (slice_index_or xs k d)

  -- ys is what such calls left there
  pub record ChangesFrom (xs ys : List T) : Type 0 where
    pub len : length ys ≡ length xs
    pub each : (k : ℕ) (d : T) → k < length xs → ChangesAt g f (base + k) (slice_index_or xs k d) (slice_index_or ys k d)
