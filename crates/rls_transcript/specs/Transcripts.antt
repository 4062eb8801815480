-- Transcripts: scripts whose answers stand indented below their commands. `lines` are those of the whole file.
use Rattle.std.specs.Prelude.{ℕ, suc, ◌+◌, Bool, true, false, not, cond, nat_eq, nat_lt, nat_le, ◌&&◌, ◌||◌, List, [], ◌∷◌, ◌++◌, length, take, drop, replicate, map, codes, Option, Some, None}
use Rattle.std.specs.List.{prefix_len}
use Rattle.std.specs.Str.{bytes_eq}
use Rattle.rls_script.specs.Lines.{is_labelled, is_skipped, is_phase}
use Rattle.rls_transcript.specs.Told.{Told, told_lines}

-- a space
abbrev pub is_space : ℕ → Bool
is_space byte = nat_eq byte 32

-- how many spaces a line begins with
abbrev pub spaces_of : List ℕ → ℕ
spaces_of line = prefix_len is_space line

-- behind its spaces the line has a label
abbrev pub has_label : List ℕ → Bool
has_label line = is_labelled (drop (spaces_of line) line)

-- how far the transcript is indented as a whole: as its first line that has a label
abbrev pub indent_of : List (List ℕ) → ℕ
indent_of [] = 0
indent_of (line ∷ lines) = cond (has_label line) (spaces_of line) (indent_of lines)

-- a line that is indented less is prose
abbrev pub is_prose : ℕ → List ℕ → Bool
is_prose indent line = nat_lt (spaces_of line) indent

-- a line that is indented by four spaces more is a line of an answer
abbrev pub is_answer : ℕ → List ℕ → Bool
is_answer indent line = nat_le (indent + 4) (spaces_of line)

-- what stands behind these spaces, to the byte
abbrev pub answer_in : ℕ → List ℕ → List ℕ
answer_in indent line = drop (indent + 4) line

-- behind the indent begins a line that answers belong to: not an empty line, a comment or `==`
abbrev pub is_head : ℕ → List ℕ → Bool
is_head indent line = not (is_prose indent line) && (not (is_answer indent line) && (not (is_skipped (drop indent line)) && not (is_phase (drop indent line))))

-- it is a command of another program: it begins with a dollar sign and a space
abbrev pub is_shell : ℕ → List ℕ → Bool
is_shell indent line = bytes_eq (take 2 (drop indent line)) (codes "$ ")

-- it is one of the script
abbrev pub is_command : ℕ → List ℕ → Bool
is_command indent line = is_head indent line && not (is_shell indent line)

-- the line as the script has it: one that is no command is empty there
abbrev pub script_line : ℕ → List ℕ → List ℕ
script_line indent line = cond (is_command indent line) (drop indent line) []

-- the lines of the script, as many as the transcript has
abbrev pub script_of : List (List ℕ) → List (List ℕ)
script_of lines = map (script_line (indent_of lines)) lines

-- the answer lines up to the next line that answers belong to
abbrev pub answers_behind : ℕ → List (List ℕ) → List (List ℕ)
answers_behind indent [] = []
answers_behind indent (line ∷ lines) = cond (is_head indent line) [] (cond (is_answer indent line) (answer_in indent line ∷ answers_behind indent lines) (answers_behind indent lines))

-- the number of the first answer line that belongs to no line above it, where the first of these lines has this number
abbrev pub loose_from : ℕ → ℕ → List (List ℕ) → Option ℕ
loose_from indent number [] = None
loose_from indent number (line ∷ lines) = cond (is_head indent line) None (cond (is_answer indent line) (Some number) (loose_from indent (suc number) lines))

-- the same of a whole transcript, whose lines are counted from 1
abbrev pub loose_in : List (List ℕ) → Option ℕ
loose_in lines = loose_from (indent_of lines) 1 lines

-- the same lines, byte by byte
abbrev pub same_lines : List (List ℕ) → List (List ℕ) → Bool
same_lines [] [] = true
same_lines [] (other ∷ others) = false
same_lines (line ∷ lines) [] = false
same_lines (line ∷ lines) (other ∷ others) = bytes_eq line other && same_lines lines others

-- A command passes where it is answered by just the lines that are expected, or, where none is, by anything but a refusal.
abbrev pub passes : List (List ℕ) → Told → Bool
passes [] told = not told.refused
passes (line ∷ lines) told = same_lines (line ∷ lines) (told_lines told.text)

-- ---- the transcript with the answers that came

-- a line of an answer, indented
abbrev pub indented : ℕ → List ℕ → List ℕ
indented indent line = replicate indent 32 ++ (replicate 4 32 ++ line)

-- the answer stands below a command that had one, and below one that was refused
abbrev pub shown_below : ℕ → List (List ℕ) → Told → List (List ℕ)
shown_below indent answers told = cond (nat_lt 0 (length answers) || told.refused) (map (indented indent) (told_lines told.text)) []

-- The lines, with what each is answered. The answer lines of commands give way to those that came; those of other programs stay, and
-- so do all other lines.
abbrev pub filled_from : (indent : ℕ) (of_shell : Bool) → List (List ℕ) → List Told → List (List ℕ)
filled_from indent of_shell [] tolds = []
filled_from indent of_shell (line ∷ lines) [] = []
filled_from indent of_shell (line ∷ lines) (told ∷ tolds) =
    cond (is_head indent line)
    (line ∷ (cond (is_shell indent line) [] (shown_below indent (answers_behind indent lines) told) ++ filled_from indent (is_shell indent line) lines tolds))
    (cond (is_answer indent line && not of_shell) (filled_from indent of_shell lines tolds) (line ∷ filled_from indent of_shell lines tolds))

-- the same of a whole transcript
abbrev pub filled : List (List ℕ) → List Told → List (List ℕ)
filled lines tolds = filled_from (indent_of lines) false lines tolds
