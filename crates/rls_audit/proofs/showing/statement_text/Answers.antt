use Rattle.std.specs.Prelude.{◌≡◌}
use Rattle.std.specs.String.{string_bytes}
use Rattle.rls_audit_lines.specs.rls_text.specs.{ParseResults.IsSpelled, Words.words_of}
use Rattle.rls_audit.specs.{Printed.printed_text, Showing.IsSpellable}
use Rattle.rls_audit.proofs.ShowingLemmas.{taken}
use Rattle.rls_audit.proofs.showing.statement_text.Goals as goal

pub returns : goal.returns
returns c =
    let bytes = string_bytes c.in_ok-text.text in
    record {
      text = taken c.from_string.result bytes (λ text. text ≡ printed_text c.args.statement.now) c.in_ok-text.ensures.text c.from_string.ensures;
      spelled = taken c.from_string.result bytes (λ text. IsSpellable c.args.statement.now → IsSpelled (words_of text) c.args.statement.now) c.in_ok-text.ensures.spelled c.from_string.ensures;
    }
