use Rattle.std.proofs.Common.{◌∙◌, ℕ, List, Bor, ap, map, subst, sym}
use Rattle.rls_transcript.specs.Reports.{IsDifference}
use Rattle.rls_transcript.proofs.ReportLemmas.{told_fail, told_pass}
use Rattle.rls_transcript.proofs.report.report_command.Goals as goal

pub returns-then-passes-clause-line : goal.returns-then-passes-clause-line
returns-then-passes-clause-line g c = told_pass _ _ _ _ _ _ _ _ c.requires.command (ap (λ it. map (λ (line : Bor (List ℕ)). line.now) it) c.as_slice.ensures.value ∙ c.in_ok-expected.ensures) (sym c.passes.ensures ∙ c.if-passes.true)

pub returns-clause-line : goal.returns-clause-line
returns-clause-line g c = told_fail _ _ _ _ c.args.command.now _ _ _ _ c.as_slice-5.result.now _ _ _ c.requires.command c.requires.text
    (ap (λ it. map (λ (line : Bor (List ℕ)). line.now) it) c.as_slice.ensures.value ∙ c.in_ok-expected.ensures) (sym c.passes.ensures ∙ c.if-passes.false)
    (ap (λ it. map (λ (line : Bor (List ℕ)). line.now) it) c.as_slice-3.ensures.value ∙ c.in_ok-expected.ensures)
    (ap (λ it. map (λ (line : Bor (List ℕ)). line.now) it) c.as_slice-4.ensures.value ∙ c.in_ok-answered.ensures)
    (subst (λ it. IsDifference (map (λ (line : Bor (List ℕ)). line.now) c.as_slice-3.result.now) (map (λ (line : Bor (List ℕ)). line.now) c.as_slice-4.result.now) it) (sym c.as_slice-5.ensures.value) c.in_ok-steps.ensures)
    c.in_ok-write_failure.ensures
