use Rattle.std.proofs.Common.{◌++◌, ap, ◌∙◌}
use Rattle.serde_json.specs.Data.{string}
use Rattle.rls_audit_lines.proofs.changes.write_text.Goals as goal

pub returns-clause-json : goal.returns-clause-json
returns-clause-json c =
    c.in_ok-try_from_str.ensures ∙ ap string (c.as_str.ensures.value ∙ (c.in_ok-text.ensures.ok ∙ ap (λ name. c.args.words.now ++ name) c.as_str-name.ensures.text))
