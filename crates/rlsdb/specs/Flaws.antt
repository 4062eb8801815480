-- What is wrong with lines of audits that are bad.
use Rattle.std.specs.Prelude.{◌≡◌, ◌⊎◌, ◌∷◌, [], ℕ, nat_eq, List, Bool, true, false, Option, Some, None, codes, IsUtf8}
use Rattle.std.specs.List.{starts_with}
use Rattle.rls_check.specs.rls_audit.specs.rls_audit_lines.specs.declared.lines.Line.{Line}
use Rattle.rls_check.specs.rls_audit.specs.rls_audit_lines.specs.Reading.{MeansLine}
use Rattle.rlsdb.specs.declared.flaw.Flaw.{Flaw}
use Rattle.rlsdb.specs.declared.flaw.Flaw.TheVariants as flaw

-- the text is a line in the format
abbrev pub IsLineIn : Bool → List ℕ → Type 0
IsLineIn second text = (line : Line) × MeansLine second text line

-- in the format it is said whether it is one
abbrev pub SaysWhether : Bool → List ℕ → Option Bool → Type 0
SaysWhether second text (Some true) = IsLineIn second text
SaysWhether second text (Some false) = ¬ IsLineIn second text
SaysWhether second text None = Unit {0}

-- the same of both formats
abbrev pub SaysWhetherLine : List ℕ → Option Bool → Type 0
SaysWhetherLine text (Some true) = IsLineIn true text ⊎ IsLineIn false text
SaysWhetherLine text (Some false) = (¬ IsLineIn true text) × (¬ IsLineIn false text)
SaysWhetherLine text None = Unit {0}

-- the bytes begin with U+FEFF in UTF-8
abbrev pub begins_with_mark : List ℕ → Bool
begins_with_mark bytes = starts_with nat_eq bytes (239 ∷ 187 ∷ 191 ∷ [])

-- this is wrong with the line with this number
abbrev pub IsFlaw : ℕ → List ℕ → Flaw → Type 0
IsFlaw number line flaw.Unsaid = Unit {0}
IsFlaw number line flaw.Marked = begins_with_mark line ≡ true
IsFlaw number line flaw.NotUtf8 = ¬ IsUtf8 line
IsFlaw number line flaw.NoHead = number ≡ 1
IsFlaw number line flaw.NoLine = (¬ IsLineIn true line) × (¬ IsLineIn false line)
IsFlaw number line flaw.Misplaced = IsLineIn true line ⊎ IsLineIn false line
IsFlaw number line flaw.NoEnd = ⊥
IsFlaw number line flaw.NoAttempt = ⊥

-- in words
abbrev pub flaw_text : Flaw → Option (List ℕ)
flaw_text flaw.Unsaid = None
flaw_text flaw.Marked = Some (codes "a byte order mark; save the file as UTF-8 without one")
flaw_text flaw.NotUtf8 = Some (codes "not UTF-8")
flaw_text flaw.NoHead = Some (codes "not the head of an audit in format 1 or 2")
flaw_text flaw.NoLine = Some (codes "its JSON, a key, a value or a statement is wrong")
flaw_text flaw.Misplaced = Some (codes "out of place: its format, txn, commit, snap or end is wrong, or the audit ended before")
flaw_text flaw.NoEnd = Some (codes "missing: an audit ends with its serial order")
flaw_text flaw.NoAttempt = Some (codes "no line of attempts: its JSON, a key, a value or a statement is wrong, or its snap is above the commits of AUDIT")
