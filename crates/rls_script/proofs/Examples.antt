-- Scripts by hand.
use Rattle.std.proofs.Common.{◌≡◌, ℕ, List, [], ◌∷◌, ◌++◌, refl, codes, None}
use Rattle.std.specs.Str.Lines.{lines}

-- a CR before LF goes, an empty line is one, and a CR at the end stays
lines_of_a_script : lines (codes "p: x" ++ (13 ∷ 10 ∷ 10 ∷ codes "q" ++ (13 ∷ []))) ≡ codes "p: x" ∷ [] ∷ (codes "q" ++ (13 ∷ [])) ∷ []
lines_of_a_script = refl

-- a last LF ends a line, and begins none
last_line_ends : lines (codes "p" ++ (10 ∷ [])) ≡ codes "p" ∷ []
last_line_ends = refl
