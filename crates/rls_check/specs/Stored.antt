-- A transaction of an audit that is kept as the text of its line.
use Rattle.std.specs.Prelude.{◌≡◌, ℕ, List, Bool, Option, Some}
use Rattle.std.specs.Coded.{Coded-set}
use Rattle.std.proofs.Common.{sym, ◌∙◌, subst}
use Rattle.std.proofs.Math.Logic.{∥∥₁_elim}
use mathlib.Core.HLevel.{Σ_prop_path}
use mathlib.Core.Logic.{∥∥₁_prop}
use Rattle.rls_audit.specs.rls_audit_lines.specs.declared.lines.Shown.{Shown}
use Rattle.rls_audit.specs.rls_audit_lines.specs.declared.lines.Line.{Line}
use Rattle.rls_audit.specs.rls_audit_lines.specs.declared.lines.Line.TheVariants.{Txn}
use Rattle.rls_audit.specs.rls_audit_lines.specs.Reading.{MeansLine}
use Rattle.rls_check.specs.declared.transaction.Transaction.{Transaction}
use Rattle.rls_check.specs.contracts.transaction.Transaction as transaction
use Rattle.rls_check.specs.Keeping.{Keeps}
use Rattle.rls_check.specs.KeepingLaws.{keeps_one}

-- the text is a line of the format that shows the transaction
pub record IsLineOf (second : Bool) (text : List ℕ) (it : Transaction) : Type 0 where
  pub shown : Shown
  pub means : MeansLine second text (Txn shown)
  pub keeps : Keeps shown it

-- it is that of one transaction, with this number and this snapshot
abbrev pub IsLineWith : Bool → List ℕ → ℕ → ℕ → Type 0
IsLineWith second text txn snap = (it : Transaction) × ∥ (IsLineOf second text it × (it.txn ≡ txn) × (it.snap ≡ snap)) ∥₁

some_txn : (x y : Shown) → ◌≡◌ {A = Option Line} (Some (Txn x)) (Some (Txn y)) → x ≡ y
some_txn x y h = cc

-- a text is the line of one transaction
pub line_one : (second : Bool) (text : List ℕ) (x y : Transaction) → IsLineOf second text x → IsLineOf second text y → x ≡ y
line_one second text x y h k =
    keeps_one k.shown x y (subst (λ (s : Shown). Keeps s x) (some_txn h.shown k.shown (sym h.means.0 ∙ k.means.0)) h.keeps) k.keeps

-- so it tells one transaction
pub tells_one : (second : Bool) (text : List ℕ) (txn snap : ℕ) → IsProp (IsLineWith second text txn snap)
tells_one second text txn snap x y =
    Σ_prop_path (λ it. ∥∥₁_prop) (∥∥₁_elim x.1 (Coded-set transaction.the_row.coded x.0 y.0) (λ h. ∥∥₁_elim y.1 (Coded-set transaction.the_row.coded x.0 y.0) (λ k. line_one second text x.0 y.0 h.0 k.0)))
