-- The transaction that a line's text tells.
use Rattle.std.specs.Prelude.{◌≡◌, ℕ, List, Bool, Option, Some}
use Rattle.std.specs.Coded.{Coded-set, coded_ℕ}
use Rattle.std.proofs.Common.{sym, ◌∙◌, subst}
use Rattle.std.proofs.Math.Logic.{∥∥₁_elim}
use Rattle.rls_audit.specs.rls_audit_lines.specs.declared.lines.Shown.{Shown}
use Rattle.rls_audit.specs.rls_audit_lines.specs.declared.lines.Line.{Line}
use Rattle.rls_audit.specs.rls_audit_lines.specs.declared.lines.Line.TheVariants.{Txn}
use Rattle.rls_audit.specs.rls_audit_lines.specs.Reading.{MeansLine}
use Rattle.rls_check.specs.declared.transaction.Transaction.{Transaction}
use Rattle.rls_check.specs.contracts.transaction.Transaction as transaction
use Rattle.rls_check.specs.Keeping.{Keeps}
use Rattle.rls_check.specs.KeepingLaws.{kept_there}
use Rattle.rls_check.specs.Stored.{IsLineOf, IsLineWith, line_one}

module _ (second : Bool) (text : List ℕ) (txn snap : ℕ) (tells : IsLineWith second text txn snap) where
  pub told_txn : txn ≡ tells.0.txn
  told_txn = ∥∥₁_elim tells.1 (Coded-set coded_ℕ txn tells.0.txn) (λ h. sym h.1)

  pub told_snap : snap ≡ tells.0.snap
  told_snap = ∥∥₁_elim tells.1 (Coded-set coded_ℕ snap tells.0.snap) (λ h. sym h.2)

  -- it is whatever the text is the line of
  pub told_one : (it : Transaction) → IsLineOf second text it → it ≡ tells.0
  told_one it h = ∥∥₁_elim tells.1 (Coded-set transaction.the_row.coded it tells.0) (λ k. line_one second text it tells.0 h k.0)

some_txn : (x y : Shown) → ◌≡◌ {A = Option Line} (Some (Txn x)) (Some (Txn y)) → x ≡ y
some_txn x y h = cc

-- what the line shows is kept in it
pub keeps_told : (second : Bool) (text : List ℕ) (txn snap : ℕ) (shown : Shown) → MeansLine second text (Txn shown) → (tells : IsLineWith second text txn snap) → Keeps shown tells.0
keeps_told second text txn snap shown means tells =
    let there = kept_there shown means.1.0 means.1.1 in
    subst (Keeps shown) (told_one second text txn snap tells there.0 (record { shown = shown; means = means; keeps = there.1 })) there.1
