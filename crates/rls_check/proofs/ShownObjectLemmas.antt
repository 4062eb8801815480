-- The JSON of what a statement did with rows has no float, so that its text is known.
use Rattle.std.proofs.Common.{◌≡◌, refl, ℕ, [], ◌∷◌, List, Option, Some, None, false, map, unwrap_or}
use Rattle.std.specs.Prelude.{Result, Ok, Err, IfOk}
use Rattle.serde_json.specs.View.{items_of}
use Rattle.serde_json.specs.Written.{has_float, items_have_float}
use Rattle.rls_value.specs.declared.value.Value.{Value}
use Rattle.rls_statement.specs.declared.statement.Statement.{Statement}
use Rattle.rls_codec.specs.CodecLaws.{both_false}
use Rattle.rls_audit.specs.rls_audit_lines.specs.ValueCodecs.{row}
use Rattle.rls_audit.specs.rls_audit_lines.specs.declared.attempts.AttemptEnd.{AttemptEnd}
use Rattle.rls_explain.specs.declared.outcome.{Reason.Reason, RowOutcome.RowOutcome}
use Rattle.rls_explain.specs.rls_meaning.specs.rls_guard.specs.{declared.context.Ctx.Ctx, declared.effect.Effect.Effect}
use Rattle.rls_check.specs.ShownObjects.{data_before, reason_data, row_data, statement_data}

pub before_plain : (new : Option (List Value)) (before : List Value) → has_float (data_before new before) ≡ false
before_plain None before = refl
before_plain (Some new) before = row.plain before

pub reason_plain : (reason : Option Reason) → has_float (reason_data reason) ≡ false
reason_plain None = refl
reason_plain (Some reason) = refl

pub row_plain : (one : RowOutcome) → has_float (row_data one) ≡ false
row_plain one = both_false (row.plain (unwrap_or one.new one.row)) (both_false (before_plain one.new one.row) (both_false (reason_plain one.reason) refl))

pub rows_plain : (rows : List RowOutcome) → items_have_float (items_of (map row_data rows)) ≡ false
rows_plain [] = refl
rows_plain (one ∷ rows) = both_false (row_plain one) (rows_plain rows)

pub statement_plain : (ended : Option AttemptEnd) (n : ℕ) (ctx : Ctx) (asked : Statement) (effect : Effect) (rows : List RowOutcome) → has_float (statement_data ended n ctx asked effect rows) ≡ false
statement_plain None n ctx asked effect rows = both_false (rows_plain rows) refl
statement_plain (Some ended) n ctx asked effect rows = both_false (rows_plain rows) refl

-- what is given under a condition that holds is given
pub given_plainly : {X E : Type 0} (r : Result X E) (A : Type 0) (P : X → Type 0) → A → IfOk r (λ x. A → P x) → IfOk r P
given_plainly (Ok x) A P a h = h a
given_plainly (Err e) A P a h = tt
