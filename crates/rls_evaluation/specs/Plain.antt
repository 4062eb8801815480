-- Values that stand somewhere already: literals, columns, the current role; and conditions that compare them.
use Rattle.std.specs.Prelude.{◌≡◌, Ok}
use Rattle.rls_value.specs.declared.value.Value.{Value}
use Rattle.rls_value.specs.declared.value.Value.TheVariants.{Text}
use Rattle.rls_source.specs.rls_catalog.specs.rls_expr.specs.Terms.{Term}
use Rattle.rls_verdict.specs.rls_catalog.specs.State.{State}
use Rattle.rls_source.specs.Readings.{unread}
use Rattle.rls_evaluation.specs.declared.plain.Plain.{Plain}
use Rattle.rls_evaluation.specs.declared.plain.Plain.TheVariants.{BorrowedRow, Name}
use Rattle.rls_evaluation.specs.Environments.{Environment}
use Rattle.rls_evaluation.specs.Eval.{Shows, value_of}

-- the value, wherever it stands
abbrev pub plain_value : Plain → Value
plain_value (BorrowedRow v) = v.now
plain_value (Name t) = Text t.now

-- the term has this value whatever tables show, and nothing is read for it
abbrev pub IsPlainly : Term → Environment → Value → Type 0
IsPlainly t env v = (sees : Shows) (s : State) → (value_of t sees env).in_state s ≡ unread (Ok v)
