-- What a line of a script is answered, apart from all other lines.
use Rattle.std.specs.Prelude.{ℕ, ◌+◌, Bool, true, false, List, [], ◌∷◌, ◌++◌, take, drop, map, codes}
use Rattle.std.specs.List.{flat_map, position_or_len}
use Rattle.std.specs.Str.{bytes_eq}
use Rattle.std.specs.Str.Lines.{lines}
use Rattle.rls_script.specs.Lines.{is_colon}

-- lines, each with its LF behind it
abbrev pub ended : List (List ℕ) → List ℕ
ended lines = flat_map (λ line. line ++ (10 ∷ [])) lines

-- the bytes that are written for it, none where it is skipped, and whether they tell a refusal
pub record Told : Type 0 where
  pub text : List ℕ
  pub refused : Bool

-- nothing, of a line that is skipped
abbrev pub untold : Told
untold = record { text = []; refused = false }

-- a line of an answer without its label: what stands behind the first colon and the space after it
abbrev pub behind_label : List ℕ → List ℕ
behind_label line = drop (position_or_len is_colon line + 2) line

-- behind the label it begins with ERROR and a space
abbrev pub is_error : List ℕ → Bool
is_error line = bytes_eq (take 6 (behind_label line)) (codes "ERROR ")

-- an answer of these lines is a refusal: it is one line, and this is an error; rows have their tag behind them
abbrev pub is_refusal : List (List ℕ) → Bool
is_refusal [] = false
is_refusal (line ∷ []) = is_error line
is_refusal (line ∷ more ∷ others) = false

-- an answer of these lines
abbrev pub told_by : List (List ℕ) → Told
told_by answer = record { text = ended answer; refused = is_refusal answer }

-- the lines of an answer, without the label
abbrev pub told_lines : List ℕ → List (List ℕ)
told_lines text = map behind_label (lines text)
