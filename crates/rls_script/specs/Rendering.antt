-- How answers are written.
use Rattle.std.specs.Prelude.{ℕ, Bool, true, false, not, ◌||◌, cond, nat_eq, List, [], ◌∷◌, ◌++◌, length, codes}
use Rattle.std.specs.Fmt.{decimal, signed_decimal}
use Rattle.rls_value.specs.{declared.value.Value.Value, declared.tag.Tag.Tag, declared.refusal.Refusal.Refusal, Words.tag_text}
use Rattle.rls_value.specs.declared.value.Value.TheVariants as v
use Rattle.rls_value.specs.declared.tag.Tag.TheVariants as t
use Rattle.rls_value.specs.declared.refusal.Cause.{Cause}
use Rattle.rls_value.specs.declared.refusal.Cause.TheVariants as c
use Rattle.rls_value.specs.declared.refusal.Refusal.TheVariants as refusal
use Rattle.rls_value.specs.Refusals.{code_of, refusal_text}
use Rattle.rls_guard.specs.declared.reply.Reply.{Reply}
use Rattle.rls_guard.specs.declared.reply.Reply.TheVariants as r
use Rattle.rls_script.specs.declared.answer.Answer.{Answer}
use Rattle.rls_script.specs.declared.answer.Answer.TheVariants as a

-- a byte of a text: the backslash, the bar, LF and CR get a backslash before them
abbrev pub escaped_byte : ℕ → List ℕ
escaped_byte byte = cond (nat_eq byte 92) (92 ∷ 92 ∷ []) (cond (nat_eq byte 124) (92 ∷ 124 ∷ []) (cond (nat_eq byte 10) (92 ∷ 110 ∷ []) (cond (nat_eq byte 13) (92 ∷ 114 ∷ []) (byte ∷ []))))

-- any other byte stands for itself
abbrev pub is_plain : ℕ → Bool
is_plain byte = not (nat_eq byte 92 || nat_eq byte 124 || nat_eq byte 10 || nat_eq byte 13)

-- a text, byte by byte
abbrev pub escaped : List ℕ → List ℕ
escaped [] = []
escaped (byte ∷ bytes) = escaped_byte byte ++ escaped bytes

-- a field: null is \N, truth values are t and f
abbrev pub field_text : Value → List ℕ
field_text v.Null = codes "\\N"
field_text (v.Int number) = signed_decimal number
field_text (v.Text text) = escaped text
field_text (v.Bool true) = codes "t"
field_text (v.Bool false) = codes "f"

-- fields behind the first, each after a bar
abbrev pub more_fields : List Value → List ℕ
more_fields [] = []
more_fields (value ∷ values) = 124 ∷ [] ++ field_text value ++ more_fields values

-- fields joined by bars
abbrev pub fields_text : List Value → List ℕ
fields_text [] = []
fields_text (value ∷ values) = field_text value ++ more_fields values

-- a line of the output: its label, the text, LF
abbrev pub line_of : List ℕ → List ℕ → List ℕ
line_of label text = label ++ codes ": " ++ text ++ 10 ∷ []

-- a row's line
abbrev pub row_line : List ℕ → List Value → List ℕ
row_line label values = line_of label (fields_text values)

-- the rows' lines, in order
abbrev pub row_lines : List ℕ → List (List Value) → List ℕ
row_lines label [] = []
row_lines label (row ∷ rows) = row_line label row ++ row_lines label rows

-- a tag with its count; INSERT's has a zero before it
abbrev pub counted_tag : Tag → ℕ → List ℕ
counted_tag t.Insert count = codes "INSERT 0 " ++ decimal count
counted_tag tag count = tag_text tag ++ (codes " " ++ decimal count)

-- why a transaction can't be serialized, without the objects and the transactions (after PostgreSQL's words)
abbrev pub terse_cause : Cause → List ℕ
terse_cause (c.Written object other) = codes "concurrent update"
terse_cause (c.Structure first one pivot two last) = codes "read/write dependencies among transactions"

-- a refusal's text, where that isn't told
abbrev pub terse_text : Refusal → List ℕ
terse_text (refusal.Serial cause) = codes "could not serialize access: " ++ terse_cause cause
terse_text other = refusal_text other

-- a refusal's text, told tersely or not
abbrev pub told_text : Bool → Refusal → List ℕ
told_text true it = terse_text it
told_text false it = refusal_text it

-- a refusal's line
abbrev pub refusal_line : Bool → List ℕ → Refusal → List ℕ
refusal_line terse label it = line_of label (codes "ERROR " ++ (code_of it ++ (codes " " ++ told_text terse it)))

-- the tag's line
abbrev pub tag_line : List ℕ → Tag → Reply → List ℕ
tag_line label tag (r.Rows rows) = line_of label (counted_tag tag (length rows))
tag_line label tag (r.Count count) = line_of label (counted_tag tag count)
tag_line label tag r.Done = line_of label (tag_text tag)

-- the rows that an answer lists
abbrev pub rows_in : Answer → List (List Value)
rows_in (a.Replied tag (r.Rows rows)) = rows
rows_in (a.Replied tag (r.Count count)) = []
rows_in (a.Replied tag r.Done) = []
rows_in (a.Refused it) = []

-- the line behind the rows: the tag, or the refusal, which may be told tersely
abbrev pub last_line : Bool → List ℕ → Answer → List ℕ
last_line terse label (a.Replied tag reply) = tag_line label tag reply
last_line terse label (a.Refused it) = refusal_line terse label it

-- what is written for an answer: the rows before the last line
abbrev pub answer_text : Bool → List ℕ → Answer → List ℕ
answer_text terse label answer = row_lines label (rows_in answer) ++ last_line terse label answer
