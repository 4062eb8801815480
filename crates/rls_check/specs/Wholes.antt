-- Which texts are the lines of an audit, how far they are read, and what is kept of them.
use Rattle.std.specs.Prelude.{◌≡◌, ◌≢◌, ◌+◌, ◌^◌, ◌++◌, ◌<◌, ◌≤◌, ◌==◌, ℕ, Bool, true, List, [], ◌∷◌, map, length, IsUtf8}
use Rattle.std.specs.List.{All, AllByRecursion, AllZip, list_any}
use Rattle.std.specs.Ordering.{nat_cmp}
use Rattle.std.specs.BTreeMap.{is_at}
use Rattle.rls_audit.specs.rls_audit_lines.specs.declared.lines.Shown.{Shown}
use Rattle.rls_audit.specs.rls_audit_lines.specs.declared.lines.Line.{Line}
use Rattle.rls_audit.specs.rls_audit_lines.specs.declared.lines.Line.TheVariants.{Head, Txn, End}
use Rattle.rls_audit.specs.{Audits.AuditHolds, Shows.Means}
use Rattle.rls_audit.specs.rls_audit_lines.specs.Reading.{MeansLine}
use Rattle.rls_audit.specs.Lines as meant
use Rattle.rls_check.specs.declared.transaction.Transaction.{Transaction}
use Rattle.rls_check.specs.declared.form.Stage.{Stage}
use Rattle.rls_check.specs.declared.form.Stage.TheVariants as stage
use Rattle.rls_check.specs.declared.form.Form.{Form}
use Rattle.rls_check.specs.declared.audit.Audit.{Audit}
use Rattle.rls_check.specs.declared.audit.Reader.{Reader}
use Rattle.rls_check.specs.declared.converting.Converter.{Converter}
use Rattle.rls_check.specs.Forms.{IsWritten}
use Rattle.rls_check.specs.Keeping.{Keeps, AreKept, lines_read}

-- ---- audits as texts

-- the transaction may stand behind these: it has a number above 0 that none of them has, the next commit, and began after no more commits
-- than they are
pub record StandsBehind (front : List Shown) (one : Shown) : Type 0 where
  pub number : 0 < one.txn
  pub own : AllByRecursion (λ it. it.txn ≢ one.txn) front
  pub commit : one.commit ≡ length front + 1
  pub snap : one.snap ≤ length front

-- each of the others may stand behind those before it
abbrev pub StandInTurn : List Shown → List Shown → Type 0
StandInTurn front [] = Unit {0}
StandInTurn front (one ∷ more) = StandsBehind front one × StandInTurn (front ++ one ∷ []) more

-- the bytes are a text, which is the line in the format
abbrev pub IsTextOf : Bool → List ℕ → Line → Type 0
IsTextOf second text it = IsUtf8 text × MeansLine second text it

-- the texts are an audit in the format: the head, these transactions, and the end with how many they are and their order
pub record AreAudit (second : Bool) (texts : List (List ℕ)) (read : List Shown) (order : List ℕ) : Type 0 where
  pub lines : AllZip (IsTextOf second) texts (lines_read read order)
  pub in_turn : StandInTurn [] read

-- they are an audit
abbrev pub AreSomeAudit : List (List ℕ) → Type 0
AreSomeAudit texts = (second : Bool) × (read : List Shown) × (order : List ℕ) × AreAudit second texts read order

-- some audit begins with them
abbrev pub BeginAudit : List (List ℕ) → Type 0
BeginAudit texts = (more : List (List ℕ)) × AreSomeAudit (texts ++ more)

-- they are no audit
abbrev pub AreNoAudit : List (List ℕ) → Type 0
AreNoAudit texts = (second : Bool) (read : List Shown) (order : List ℕ) → AreAudit second texts read order → ⊥

-- no audit begins with them
abbrev pub BeginNoAudit : List (List ℕ) → Type 0
BeginNoAudit texts = (more : List (List ℕ)) → AreNoAudit (texts ++ more)

-- they mean lines, in one of the formats, that show records with an order that explains them
abbrev pub ShowExplained : List (List ℕ) → Type 0
ShowExplained texts = (second : Bool) × (lines : List meant.Line) × AllZip (Means second) texts lines × AuditHolds lines

-- ---- how far they are read

-- the lines that were read: none, the head and transactions, or all
abbrev pub lines_at : Stage → List Shown → List ℕ → List Line
lines_at stage.Nothing read order = []
lines_at (stage.Inside second) read order = Head ∷ map Txn read
lines_at stage.End read order = lines_read read order

-- these are the numbers of the transactions
pub record AreUsed (numbers : List ℕ) (read : List Shown) : Type 0 where
  pub count : length numbers ≡ length read
  pub each : AllByRecursion (λ it. list_any (is_at (nat_cmp it.txn)) numbers ≡ true) read
  pub only : (number : ℕ) → list_any (is_at (nat_cmp number)) numbers ≡ true → list_any (λ it. it.txn == number) read ≡ true

-- the texts were read as the first lines of an audit, so far as the form says
pub record IsReadAs (texts : List (List ℕ)) (second : Bool) (read : List Shown) (order : List ℕ) (form : Form) : Type 0 where
  pub lines : AllZip (IsTextOf second) texts (lines_at form.stage read order)
  pub count : form.lines ≡ length texts
  pub within : form.lines < 2 ^ 64
  pub format : (own : Bool) → form.stage ≡ stage.Inside own → own ≡ second
  pub nothing : form.stage ≡ stage.Nothing → read ≡ []
  pub in_turn : StandInTurn [] read
  pub used : AreUsed form.used.keys read

-- ---- what is kept of them

-- the reader keeps the line: one transaction more, or the order
abbrev pub Takes : Line → Reader → Reader → Type 0
Takes Head before after = (after.transactions ≡ before.transactions) × (after.order ≡ before.order)
Takes (Txn shown) before after = ((it : Transaction) × (after.transactions ≡ before.transactions ++ it ∷ []) × Keeps shown it) × (after.order ≡ before.order)
Takes (End count order) before after = (after.transactions ≡ before.transactions) × (after.order ≡ order)

-- the reader has read these texts, and keeps them
pub record HasRead (texts : List (List ℕ)) (reader : Reader) : Type 0 where
  pub second : Bool
  pub read : List Shown
  pub reads : IsReadAs texts second read reader.order reader.form
  pub kept : AreKept 1 read reader.transactions

-- the audit is that of the texts
pub record IsAuditOf (texts : List (List ℕ)) (audit : Audit) : Type 0 where
  pub second : Bool
  pub read : List Shown
  pub are : AreAudit second texts read audit.order
  pub kept : AreKept 1 read audit.transactions

-- ---- what is written of them

-- the texts were read, and these are their lines in the second format
pub record HasConverted (texts written : List (List ℕ)) (converter : Converter) : Type 0 where
  pub second : Bool
  pub read : List Shown
  pub order : List ℕ
  pub reads : IsReadAs texts second read order converter.form
  pub lines : AllZip IsWritten (lines_at converter.form.stage read order) written
  pub utf8 : AllByRecursion IsUtf8 written

-- the texts are an audit, and these are its lines in the second format
pub record AreConverted (texts written : List (List ℕ)) : Type 0 where
  pub second : Bool
  pub read : List Shown
  pub order : List ℕ
  pub are : AreAudit second texts read order
  pub lines : AllZip IsWritten (lines_read read order) written
  pub utf8 : AllByRecursion IsUtf8 written
