use Rattle.std.specs.Prelude.{IfOk}
use Rattle.std.specs.List.{All}
use Rattle.std.proofs.Common.{subst, sym}
use Rattle.rls_audit_lines.specs.Reading.{TellsWhether, HasStatement, HasPolicies, TextsParse}
use Rattle.rls_audit_lines.proofs.ParsingLemmas.{both_told}
use Rattle.rls_audit_lines.proofs.reading.texts_parse.Goals as goal

pub returns-then-branch : goal.returns-then-branch
returns-then-branch c =
    let statements : All HasStatement c.in-Txn.shown.statements = subst (All HasStatement) c.as_slice.ensures (subst (λ b. TellsWhether b (All HasStatement c.as_slice.result.now)) c.if-branch.true c.in_ok-statements_parse-in-Txn.ensures) in
    subst (λ x. IfOk c.policies_parse.result (λ all. TellsWhether all (TextsParse x))) (sym c.in-Txn.is)
    (both_told _ _ c.policies_parse.result statements (subst (λ changes. IfOk c.policies_parse.result (λ all. TellsWhether all (All HasPolicies changes))) c.as_slice-then-branch.ensures c.policies_parse.ensures))

pub returns-else-branch : goal.returns-else-branch
returns-else-branch c = λ h.
    subst (λ b. TellsWhether b (All HasStatement c.as_slice.result.now)) c.if-branch.false c.in_ok-statements_parse-in-Txn.ensures
    (subst (All HasStatement) (sym c.as_slice.ensures) (subst TextsParse c.in-Txn.is h).0)
