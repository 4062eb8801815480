-- The first bytes of a name as a number, by which names are compared.
use Rattle.std.specs.Prelude.{ℕ, zero, suc, ◌+◌, ◌*◌, List, [], ◌∷◌}

-- 256 as often multiplied by itself
abbrev pub weight : ℕ → ℕ
weight zero = 1
weight (suc n) = 256 * weight n

-- the first so many bytes as a number, the first counting most; 0 stands for each that isn't there
abbrev pub head_of : ℕ → List ℕ → ℕ
head_of zero bytes = 0
head_of (suc n) [] = 0
head_of (suc n) (byte ∷ more) = byte * weight n + head_of n more
