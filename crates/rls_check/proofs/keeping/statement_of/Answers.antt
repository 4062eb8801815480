use Rattle.std.specs.Prelude.{◌≡◌, Err, IfOk}
use Rattle.std.proofs.Common.{subst}
use Rattle.rls_value.specs.declared.refusal.Refusal.TheVariants.{NoMemory}
use Rattle.rls_audit.specs.rls_audit_lines.specs.rls_text.specs.{ParseResults.IsParseResult, ParseResults.IsSpelled, Words.words_of}
use Rattle.rls_check.proofs.KeepingLemmas.{statement_made}
use Rattle.rls_check.proofs.keeping.statement_of.Goals as goal

pub returns-clause-made : goal.returns-clause-made
returns-clause-made c =
    statement_made c.args.text.now c.parse.result c.requires (subst (λ t. IfOk c.parse.result (IsSpelled (words_of t))) c.as_str.ensures c.parse.ensures.ok)
    (subst (λ t. ¬ (c.parse.result ≡ Err NoMemory) → IsParseResult (words_of t) c.parse.result) c.as_str.ensures c.parse.ensures.answer)
