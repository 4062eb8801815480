use Rattle.std.proofs.Common.{◌≡◌, sym, ◌∙◌, subst}
use Rattle.rls_audit.specs.rls_audit_lines.specs.Reading.{MeansLine}
use Rattle.rls_audit.specs.rls_audit_lines.specs.declared.lines.Line.TheVariants.{Txn}
use Rattle.rls_check.specs.KeepingLaws.{kept_there}
use Rattle.rls_check.proofs.StoredLemmas.{keeps_told}
use Rattle.rls_check.proofs.stored.Stored.new.Goals as goal

-- the transaction that is kept of what is shown
pub invariant_of-result : goal.invariant_of-result
invariant_of-result c =
    let shown = c.args.shown.now in
    let there = kept_there shown c.requires.means.1.0 c.requires.means.1.1 in
    let means : MeansLine c.args.second c.in_ok-new-in-Ok.field-0 (Txn shown) = subst (λ text. MeansLine c.args.second text (Txn shown)) (sym (c.in_ok-new-in-Ok.ensures ∙ c.in-Ok.ensures.cases.0)) c.requires.means in
    ((there.0, ∣ (record { shown = shown; means = means; keeps = there.1 }, there.1.txn, there.1.snap) ∣₁), tt)

pub returns-in_ok-new-in-Ok : goal.returns-in_ok-new-in-Ok
returns-in_ok-new-in-Ok c =
    let shown = c.args.shown.now in
    let means : MeansLine c.args.second c.in_ok-new-in-Ok.field-0 (Txn shown) = subst (λ text. MeansLine c.args.second text (Txn shown)) (sym (c.in_ok-new-in-Ok.ensures ∙ c.in-Ok.ensures.cases.0)) c.requires.means in
    keeps_told c.args.second c.in_ok-new-in-Ok.field-0 shown.txn shown.snap shown means c.result-in-Ok-1.given.0
