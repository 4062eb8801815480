use Rattle.std.proofs.Common.{◌≡◌, subst, false}
use Rattle.std.specs.Option.{option_copied}
use Rattle.std.specs.Prelude.{IfOk}
use Rattle.std.specs.String.{string_bytes}
use Rattle.serde_json.specs.Written.{compact_text, has_float}
use Rattle.rls_check.specs.ShownObjects.{statement_data}
use Rattle.rls_check.proofs.ShownObjectLemmas.{given_plainly, statement_plain}
use Rattle.rls_check.proofs.shown_objects.object_text.Goals as goal

-- it has no float
pub returns : goal.returns
returns c =
    let turn = c.args.turn.now in
    let ended = option_copied c.args.ended in
    let json = statement_data ended turn.number turn.ctx turn.statement turn.outcome.effect c.args.rows.now in
    given_plainly c.to_string-text.result (has_float json ≡ false) (λ s. string_bytes s ≡ compact_text json)
    (statement_plain ended turn.number turn.ctx turn.statement turn.outcome.effect c.args.rows.now)
    (subst (λ d. IfOk c.to_string-text.result (λ s. has_float d ≡ false → string_bytes s ≡ compact_text d)) c.in_ok-json.ensures c.to_string-text.ensures.text)
