-- What is read of an audit file, and what is written: lines.
use Rattle.std.specs.Prelude.{◌≡◌, ◌⊎◌, ◌≢◌, ◌++◌, ◌∷◌, [], ℕ, List, Bool, true, false, Some}
use Rattle.std.specs.List.{All, AllZip, flat_map}
use Rattle.rls_check.specs.rls_audit.specs.rls_audit_lines.specs.declared.lines.Line.{Line}
use Rattle.rlsdb.specs.declared.audit_file.NextLine.{NextLine}
use Rattle.rlsdb.specs.declared.audit_file.NextLine.TheVariants as came
use Rattle.rls_check.specs.rls_audit.specs.Lines as shown
use Rattle.rls_check.specs.rls_audit.specs.Printed.{texts_from, texts_of}
use Rattle.rls_check.specs.rls_audit.specs.rls_audit_lines.specs.Reading.{line_found, line_text}
use Rattle.rls_check.specs.rls_audit.specs.Shows.{Means}
use Rattle.rls_check.specs.rls_audit.specs.rls_core.specs.Calls.{IsOrderBy}
use Rattle.rls_check.specs.rls_audit.specs.rls_core.specs.Records.{Record}
use Rattle.rls_check.specs.declared.converting.Converter.{Converter}
use Rattle.rls_check.specs.Wholes.{HasConverted}

-- lines, each with its LF behind it
abbrev pub ended_lines : List (List ℕ) → List ℕ
ended_lines lines = flat_map (λ line. line ++ (10 ∷ [])) lines

-- no byte of the line is an LF
abbrev pub IsLine : List ℕ → Type 0
IsLine line = All (λ byte. byte ≢ 10) line

-- what was read grew by a line and its LF, or by a last line that has none; or the end was reached
abbrev pub ReadsNext : NextLine → List ℕ → List ℕ → Bool → List ℕ → Type 0
ReadsNext came.Whole before after ended line = (after ≡ before ++ (line ++ (10 ∷ []))) × IsLine line
ReadsNext came.Last before after ended line = (after ≡ before ++ line) × IsLine line × (line ≢ []) × (ended ≡ true)
ReadsNext came.End before after ended line = (after ≡ before) × (ended ≡ true)

-- the bytes are these lines: each has an LF behind it, but a last one that isn't empty may lack it
pub record AreLinesOf (bytes : List ℕ) (lines : List (List ℕ)) : Type 0 where
  pub whole : All IsLine lines
  pub parted : (bytes ≡ ended_lines lines) ⊎ ((front : List (List ℕ)) × (last : List ℕ) × (lines ≡ front ++ (last ∷ [])) × (last ≢ []) × (bytes ≡ ended_lines front ++ last))

-- what was read grew by these lines, of which this holds
pub record Reads (before after : List ℕ) (Holds : List (List ℕ) → Type 0) : Type 0 where
  pub bytes : List ℕ
  pub lines : List (List ℕ)
  pub grew : after ≡ before ++ bytes
  pub are : AreLinesOf bytes lines
  pub holds : Holds lines

-- one line more was converted, behind these: what was written grew by a text and its LF
pub record Converted (texts written : List (List ℕ)) (line before after : List ℕ) (behind : Converter) : Type 0 where
  pub text : List ℕ
  pub grew : after ≡ before ++ (text ++ (10 ∷ []))
  pub converted : HasConverted (texts ++ (line ∷ [])) (written ++ (text ∷ [])) behind

-- what was written grew by the text of the line and its LF, and this text is read back as the line
pub record WritesLine (line : Line) (before after : List ℕ) : Type 0 where
  pub grew : after ≡ before ++ (line_text line ++ (10 ∷ []))
  pub found : line_found true (line_text line) ≡ Some line

-- what was written grew by the texts, each with its LF, and these mean the lines in the second format
pub record WritesTexts (texts : List (List ℕ)) (lines : List shown.Line) (before after : List ℕ) : Type 0 where
  pub grew : after ≡ before ++ ended_lines texts
  pub means : AllZip (Means true) texts lines

-- the lines of the records were written, the first of which has this commit
abbrev pub WritesRecords : ℕ → List Record → List ℕ → List ℕ → Type 0
WritesRecords commit records before after = WritesTexts (texts_from commit records) (shown.lines_from commit records) before after

-- the audit of the records was written, with an order of theirs that keeps what has to stand before what
pub record WritesAudit (records : List Record) (before after : List ℕ) : Type 0 where
  pub order : List ℕ
  pub keeps : IsOrderBy records order
  pub lines : WritesTexts (texts_of records order) (shown.audit_of records order) before after
