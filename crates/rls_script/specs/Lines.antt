-- The lines of a script.
use Rattle.std.specs.Prelude.{ℕ, Bool, true, false, cond, nat_eq, nat_lt, nat_le, ◌&&◌, ◌||◌, ◌-◌, ◌≡◌, List, [], ◌∷◌, length, take, drop, slice_index, codes}
use Rattle.std.specs.List.{list_all, prefix_len, position_or_len, before_first, after_first}
use Rattle.std.specs.Str.{IsUtf8, bytes_eq}
use Rattle.rls_value.specs.Names.{is_between}
use Rattle.rls_script.specs.declared.line.Line.{Line}
use Rattle.rls_script.specs.declared.line.Line.TheVariants as l

-- LF
abbrev pub ends_line : ℕ → Bool
ends_line byte = nat_eq byte 10

-- a line without the CR that stood before its LF
abbrev pub without_return : List ℕ → List ℕ
without_return line = cond (nat_eq (slice_index line (length line - 1)) 13) (take (length line - 1) line) line

-- the first line of a script, without its end
abbrev pub first_line_of : List ℕ → List ℕ
first_line_of script = cond (nat_lt (position_or_len ends_line script) (length script)) (without_return (before_first ends_line script)) script

-- an empty line, or one that begins with two dashes
abbrev pub is_skipped : List ℕ → Bool
is_skipped [] = true
is_skipped (first ∷ []) = false
is_skipped (first ∷ second ∷ rest) = nat_eq first 45 && nat_eq second 45

-- a lower case letter, a digit or `_`
abbrev pub is_label_byte : ℕ → Bool
is_label_byte byte = is_between 97 122 byte || is_between 48 57 byte || nat_eq byte 95

-- 1 to 63 of them
abbrev pub is_label : List ℕ → Bool
is_label text = nat_lt 0 (length text) && nat_le (length text) 63 && list_all is_label_byte text

-- what ends a label
abbrev pub is_colon : ℕ → Bool
is_colon byte = nat_eq byte 58

-- what stands before the first colon is a label
abbrev pub is_labelled : List ℕ → Bool
is_labelled line = nat_lt (position_or_len is_colon line) (length line) && is_label (before_first is_colon line)

-- a space or a tab
abbrev pub is_blank : ℕ → Bool
is_blank byte = nat_eq byte 32 || nat_eq byte 9

-- what stands behind the first colon and the blanks after it
abbrev pub command_in : List ℕ → List ℕ
command_in line = let behind = after_first is_colon line in drop (prefix_len is_blank behind) behind

-- two equal signs and no more
abbrev pub is_phase : List ℕ → Bool
is_phase line = bytes_eq line (codes "==")

-- what a line is: skipped first, then the line of two equal signs, then a text with a label
abbrev pub IsRead : List ℕ → Line → Type 0
IsRead line l.Skipped = is_skipped line ≡ true
IsRead line l.Phase = (is_skipped line ≡ false) × (is_phase line ≡ true)
IsRead line (l.Command label command) = (is_skipped line ≡ false) × (is_phase line ≡ false) × (is_labelled line ≡ true) × IsUtf8 line × (label.now ≡ before_first is_colon line) × (command.now ≡ command_in line)
IsRead line l.Unlabelled = (is_skipped line ≡ false) × (is_phase line ≡ false) × (IsUtf8 line → is_labelled line ≡ false)
