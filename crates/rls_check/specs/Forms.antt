-- Which line may stand next in an audit, and how far it is read behind it.
use Rattle.std.specs.Prelude.{◌≡◌, ◌⊎◌, ◌+◌, ◌^◌, ◌<◌, ◌≤◌, ℕ, Bool, true, false, List, [], Some, Result, Ok, Err, IsUtf8}
use Rattle.std.specs.Ordering.{nat_cmp}
use Rattle.std.specs.BTreeSet.{BTreeSet, btree_set_len, contains, insert_key}
use Rattle.rls_value.specs.declared.refusal.Refusal.{Refusal}
use Rattle.rls_value.specs.declared.refusal.Refusal.TheVariants as r
use Rattle.rls_audit.specs.rls_audit_lines.specs.declared.lines.Shown.{Shown}
use Rattle.rls_audit.specs.rls_audit_lines.specs.declared.lines.Line.{Line}
use Rattle.rls_audit.specs.rls_audit_lines.specs.declared.lines.Line.TheVariants.{Head, Txn, End}
use Rattle.rls_audit.specs.rls_audit_lines.specs.Reading.{MeansLine, line_found, line_text}
use Rattle.rls_check.specs.declared.form.Stage.{Stage}
use Rattle.rls_check.specs.declared.form.Stage.TheVariants as stage
use Rattle.rls_check.specs.declared.form.Form.{Form}

-- ---- what may stand next

-- the transaction may, behind those that used these numbers: it has a number that none of them has, the next commit, and began
-- after no more commits than there are
pub record FollowsAll (used : BTreeSet ℕ) (shown : Shown) : Type 0 where
  pub number : 0 < shown.txn
  pub own : contains nat_cmp used shown.txn ≡ false
  pub commit : shown.commit ≡ btree_set_len used + 1
  pub snap : shown.snap ≤ btree_set_len used

-- the line may, behind the head and transactions with these numbers; the last line with how many they are
abbrev pub Follows : BTreeSet ℕ → Line → Type 0
Follows used Head = ⊥
Follows used (Txn shown) = FollowsAll used shown
Follows used (End count order) = count ≡ btree_set_len used

-- the line may in the format: first the head in either, then what follows in that of the head, and nothing behind the end
abbrev pub Stands : Stage → BTreeSet ℕ → Line → Bool → Type 0
Stands stage.Nothing used it second = it ≡ Head
Stands (stage.Inside own) used it second = (second ≡ own) × Follows used it
Stands stage.End used it second = ⊥

-- the bytes are a text, it is the line in the format, and the line may stand next
pub record IsNext (form : Form) (bytes : List ℕ) (it : Line) (second : Bool) : Type 0 where
  pub utf8 : IsUtf8 bytes
  pub means : MeansLine second bytes it
  pub stands : Stands form.stage form.used it second

-- ---- how far it is read then

-- the last line is read, or a line before it
abbrev pub stage_behind : Line → Bool → Stage
stage_behind Head second = stage.Inside second
stage_behind (Txn shown) second = stage.Inside second
stage_behind (End count order) second = stage.End

-- the numbers that are used then
abbrev pub used_behind : Line → List ℕ → List ℕ
used_behind Head numbers = numbers
used_behind (Txn shown) numbers = insert_key nat_cmp numbers shown.txn
used_behind (End count order) numbers = numbers

-- how far it is read behind the line, of which there are fewer than 2^64
pub record IsBehind (form : Form) (it : Line) (second : Bool) (after : Form) : Type 0 where
  pub stage : after.stage ≡ stage_behind it second
  pub lines : after.lines ≡ form.lines + 1
  pub within : after.lines < 2 ^ 64
  pub used : after.used.keys ≡ used_behind it form.used.keys

-- nothing is read
pub record IsUnread (form : Form) : Type 0 where
  pub stage : form.stage ≡ stage.Nothing
  pub lines : form.lines ≡ 0
  pub used : form.used.keys ≡ []

-- ---- what is found

-- the line of this number is bad where none may be there; or memory ran out
abbrev pub IsRefused : ℕ → (Line → Bool → Type 0) → Refusal → Type 0
IsRefused number May refusal = (refusal ≡ r.NoMemory) ⊎ ((refusal ≡ r.BadAudit number) × ((it : Line) (second : Bool) → May it second → ⊥))

-- a line of those that may be, with its format; or a refusal
abbrev pub IsFoundAmong : ℕ → (Line → Bool → Type 0) → Result (Line × Bool) Refusal → Type 0
IsFoundAmong number May (Ok found) = May found.0 found.1
IsFoundAmong number May (Err refusal) = IsRefused number May refusal

-- what is given of such a line; or a refusal
abbrev pub IsTakenAmong : {A : Type 0} → ℕ → (Line → Bool → Type 0) → (Line → Bool → A → Type 0) → Result A Refusal → Type 0
IsTakenAmong number May Gives (Ok given) = (it : Line) × (second : Bool) × May it second × Gives it second given
IsTakenAmong number May Gives (Err refusal) = IsRefused number May refusal

-- the head, in either format
abbrev pub HeadOf : List ℕ → Line → Bool → Type 0
HeadOf text it second = MeansLine second text it × (it ≡ Head)

-- a line in this format that follows transactions with these numbers
abbrev pub FollowerOf : Bool → BTreeSet ℕ → List ℕ → Line → Bool → Type 0
FollowerOf own used text it second = MeansLine second text it × (second ≡ own) × Follows used it

-- the text is the line in the second format, and is read back as the line
pub record IsWritten (it : Line) (text : List ℕ) : Type 0 where
  pub text_is : text ≡ line_text it
  pub back : line_found true text ≡ Some it

-- the last line is read; or the line behind those read is missing; or memory ran out
abbrev pub IsEnded : {A : Type 0} → Form → (A → Type 0) → Result A Refusal → Type 0
IsEnded form Gives (Ok given) = (form.stage ≡ stage.End) × Gives given
IsEnded form Gives (Err refusal) = (refusal ≡ r.NoMemory) ⊎ ((refusal ≡ r.BadAudit (form.lines + 1)) × (form.stage ≡ stage.End → ⊥))
