use Rattle.std.proofs.Common.{◌≡◌, ◌∙◌, subst}
use Rattle.rls_audit.specs.rls_audit_lines.specs.Reading.{MeansLine}
use Rattle.rls_audit.specs.rls_audit_lines.specs.declared.lines.Line.TheVariants.{Txn}
use Rattle.rls_check.proofs.StoredLemmas.{told_one}
use Rattle.rls_check.proofs.stored.Stored.read.Goals as goal

pub returns-in-Ok-kept : goal.returns-in-Ok-kept
returns-in-Ok-kept c =
    let it = c.self.inside in
    let read : MeansLine it.second c.as_str.result.now (Txn c.in-Ok-Txn.shown) = subst (λ line. MeansLine it.second c.as_str.result.now line) c.in-Ok-Txn.field-0-is c.in-Ok-Txn.ensures in
    let means : MeansLine it.second it.text (Txn c.in-Ok-Txn.shown) = subst (λ text. MeansLine it.second text (Txn c.in-Ok-Txn.shown)) c.as_str.ensures read in
    told_one it.second it.text it.txn it.snap it.tells c.in-Ok-kept.transaction (record { shown = c.in-Ok-Txn.shown; means = means; keeps = c.in-Ok-kept.ensures }) ∙ c.self.view_is
