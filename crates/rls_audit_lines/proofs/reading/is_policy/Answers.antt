use Rattle.std.specs.Prelude.{◌≡◌, Ok, Err}
use Rattle.std.proofs.Common.{rules, subst, sym}
use Rattle.rls_value.specs.declared.refusal.Refusal.TheVariants.{NoMemory}
use Rattle.rls_text.specs.{ParseResults.IsParseResult, ParseResults.IsSpelled, Words.words_of}
use Rattle.rls_audit_lines.specs.Reading.{TellsWhether, IsPolicyText}
use Rattle.rls_audit_lines.proofs.ParsingLemmas.{answered, refused, policy_told}
use Rattle.rls_audit_lines.proofs.reading.is_policy.Goals as goal

pub returns-in-Ok : goal.returns-in-Ok
returns-in-Ok c =
    let statement = c.in-Ok.statement in
    let told = policy_told c.args.table.now c.as_str.result.now (Ok statement) (answered c.as_str.result.now statement c.in-Ok.ensures.answer) c.in-Ok.ensures.ok in
    subst (λ t. TellsWhether c.creates_on.result (IsPolicyText c.args.table.now t)) c.as_str.ensures (subst (λ b. TellsWhether b (IsPolicyText c.args.table.now c.as_str.result.now)) (sym c.creates_on.ensures) told)

pub returns-in-Err : goal.returns-in-Err
returns-in-Err c =
    let other : ¬ (c.in-Err.refusal ≡ NoMemory) = search rules in
    policy_told c.args.table.now c.args.text.now (Err c.in-Err.refusal) (subst (λ t. IsParseResult (words_of t) (Err c.in-Err.refusal)) c.as_str.ensures (refused c.as_str.result.now c.in-Err.refusal c.in-Err.ensures.answer other)) tt
