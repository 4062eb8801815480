use Rattle.std.specs.Prelude.{true}
use Rattle.std.specs.String.{string_bytes}
use Rattle.rls_statement.specs.declared.statement.Statement.TheVariants.{CreatePolicy}
use Rattle.rls_printing.specs.Outputs.{output_tokens_text}
use Rattle.rls_printing.specs.StatementForms as form
use Rattle.rls_audit_lines.specs.rls_text.specs.Words.{words_of}
use Rattle.rls_audit.specs.ShownParts.{ShowsPolicy}
use Rattle.rls_audit.proofs.ShowingLemmas.{printed_bytes, spelled_again, taken}
use Rattle.rls_audit.proofs.showing.policy_text.Goals as goal

pub returns : goal.returns
returns c =
    let text = c.in_ok-text.text in
    taken c.from_string.result (string_bytes text) (λ t. ShowsPolicy c.args.table.now t c.args.policy.now)
    (record {
      printed = printed_bytes text (output_tokens_text true (form.policy c.args.table.now c.args.policy.now)) c.in_ok-text.ensures.text;
      spells = spelled_again (words_of (string_bytes text)) (CreatePolicy record { table = c.args.table.now; policy = c.args.policy.now }) c.in_ok-text.ensures.spelled c.in_ok-text.ensures.again;
    })
    c.from_string.ensures
