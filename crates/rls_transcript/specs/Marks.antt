-- The answers to lines, cut out of the text that a run of them writes. Behind each line that is answered stands a mark: a line without a
-- label, which changes no session, and whose answer ends that of the line before it.
use Rattle.std.specs.Prelude.{ℕ, ◌+◌, Bool, cond, not, ◌&&◌, List, [], ◌∷◌, take, drop, codes}
use Rattle.std.specs.List.{position_or_len}
use Rattle.std.specs.Str.{bytes_eq}
use Rattle.rls_script.specs.Lines.{is_skipped, is_phase}
use Rattle.rls_transcript.specs.Told.{Told, told_by, untold}

-- a line that is answered: neither skipped nor `==`
abbrev pub is_asked : List ℕ → Bool
is_asked line = not (is_skipped line) && not (is_phase line)

-- the line behind each of them
abbrev pub mark : List ℕ
mark = codes "?"

-- what it is answered
abbrev pub mark_answer : List ℕ
mark_answer = codes "?: ERROR 42601 syntax error"

-- a line of the text that ends an answer; no answer under a label has such a line
abbrev pub is_mark : List ℕ → Bool
is_mark line = bytes_eq line mark_answer

-- the lines that are answered, each with a mark behind it
abbrev pub marked : List (List ℕ) → List (List ℕ)
marked [] = []
marked (line ∷ lines) = cond (is_asked line) (line ∷ mark ∷ marked lines) (marked lines)

-- How many lines of a text the first answer has: one, and those behind it up to a mark. So a line without a label, which is answered as a
-- mark is, has its answer too.
abbrev pub answer_len : List (List ℕ) → ℕ
answer_len [] = 0
answer_len (line ∷ text) = position_or_len is_mark text + 1

-- these lines
abbrev pub first_answer : List (List ℕ) → List (List ℕ)
first_answer text = take (answer_len text) text

-- what is behind them and the mark
abbrev pub behind_answer : List (List ℕ) → List (List ℕ)
behind_answer text = drop (answer_len text + 1) text

-- what a line is answered, where these lines of the text are left, and what is left behind that
abbrev pub told_in : List ℕ → List (List ℕ) → Told
told_in line text = cond (is_asked line) (told_by (first_answer text)) untold

abbrev pub left_behind : List ℕ → List (List ℕ) → List (List ℕ)
left_behind line text = cond (is_asked line) (behind_answer text) text

-- what each of the lines is answered in a text of these lines
abbrev pub tolds_in : (lines text : List (List ℕ)) → List Told
tolds_in [] text = []
tolds_in (line ∷ lines) text = told_in line text ∷ tolds_in lines (left_behind line text)
