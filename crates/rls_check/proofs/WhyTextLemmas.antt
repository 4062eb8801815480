-- The bytes of a line.
use Rattle.std.proofs.Common.{◌≡◌, ◌++◌, ℕ, List, ap, ◌∙◌}
use Rattle.std.proofs.lemmas.List.{append_assoc}

-- a line of two parts behind what is there
pub line_of_two : (before first second end : List ℕ) → ((before ++ first) ++ second) ++ end ≡ before ++ ((first ++ second) ++ end)
line_of_two before first second end = ap (λ bytes. bytes ++ end) (append_assoc before first second) ∙ append_assoc before (first ++ second) end
