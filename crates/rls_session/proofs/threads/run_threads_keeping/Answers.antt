use Rattle.std.proofs.Common.{List, ℕ, ◌++◌, ap, sym, ◌∙◌}
use Rattle.rls_session.proofs.TextLemmas.{ran_in_phases}
use Rattle.rls_session.proofs.threads.run_threads_keeping.Goals as goal

pub returns-clause-text : goal.returns-clause-text
returns-clause-text g c =
    let whole = c.in_ok-script.ensures.ok ∙ ap (λ (bytes : List ℕ). g.I.ScriptIn.given c.args.input.now ++ bytes) (sym c.as_slice.ensures.value) in
    ran_in_phases c.args.terse c.args.keeps _ _ _ _ c.as_slice.result.now c.run_named.result whole c.run_named.ensures.text
