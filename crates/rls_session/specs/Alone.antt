-- A script of one label: each of its transactions runs as if alone, after those before it.
use Rattle.std.specs.Prelude.{◌≡◌, ℕ, List, [], ◌∷◌, All}
use Rattle.std.specs.Str.Lines.{lines}
use Rattle.rls_engine.specs.rls_core.specs.rls_guard.specs.rls_catalog.specs.State.{State}
use Rattle.rls_engine.specs.rls_access.specs.Transactions.{first_ctx}
use Rattle.rls_engine.specs.rls_core.specs.Alone.{effects_alone, state_alone}
use Rattle.rls_script.specs.Lines.{IsRead}
use Rattle.rls_script.specs.declared.line.Line.{Line}
use Rattle.rls_script.specs.declared.line.Line.TheVariants as l
use Rattle.rls_session.specs.Parts.{Shown}

-- a command stands under this label; other lines may be anything
abbrev pub StandsUnder : List ℕ → Line → Type 0
StandsUnder name (l.Command label command) = label.now ≡ name
StandsUnder name _ = Unit {0}

-- so does the line
abbrev pub IsUnder : List ℕ → List ℕ → Type 0
IsUnder name line = (read : Line) → IsRead line read → StandsUnder name read

-- all commands of the script stand under one label
pub record HasOneLabel (script : List ℕ) : Type 0 where
  pub name : List ℕ
  pub under : All (IsUnder name) (lines script)

-- run alone one after another, from the state, the transactions come to just what was shown of them
abbrev pub AreAlone : State → List Shown → Type 0
AreAlone s [] = Unit {0}
AreAlone s (it ∷ more) =
    let ctx = first_ctx it.part.txn it.part.begin in
    (effects_alone ctx it.part.statements s ≡ it.part.effects) × AreAlone (state_alone ctx it.part.statements s) more
