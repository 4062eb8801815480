use Rattle.std.proofs.Common.{arith, ap, sym, ◌∙◌, ◌∷◌}
use Rattle.rls_recursion.specs.Chains.{chain_of}
use Rattle.rls_recursion.specs.Searching as spec
use Rattle.rls_recursion.specs.Searching.{as_found, put_listed}
use Rattle.rls_recursion.proofs.Ending.{chain_falls}
use Rattle.rls_recursion.proofs.Steps.{visit_further}
use Rattle.rls_recursion.proofs.searching.+visit.Goals as goal

pub visit_own-visit_all-requires : goal.visit_own-visit_all-requires
visit_own-visit_all-requires t c =
    omega (arith, c.decreases, chain_falls c.args.dependencies.now (chain_of c.args.chain.now) c.args.table.now c.requires.has_subquery c.requires.off)

pub visit_own-returns-in-Some : goal.visit_own-returns-in-Some
visit_own-returns-in-Some t c =
    visit_further c.args.dependencies.now (chain_of c.args.chain.now) c.args.progress.now c.args.table.now (spec.Loops c.in-Some.met) c.requires.new c.requires.has_subquery c.requires.off
    (λ n enough. ap (spec.visit_all (spec.visit n c.args.dependencies.now (c.args.table.now ∷ chain_of c.args.chain.now)) (put_listed c.args.progress.now c.args.table.now)) (sym c.subquery_tables_of.ensures)
    ∙ ap (λ listed. spec.visit_all (spec.visit n c.args.dependencies.now (c.args.table.now ∷ chain_of c.args.chain.now)) listed c.subquery_tables_of.result.now) (sym c.in_ok-list.ensures)
    ∙ c.in_ok-closed.ensures n enough ∙ ap (λ closed. as_found closed c.visit_all.new.progress) c.in-Some.is)

pub visit_own-returns-in_ok-finish-in-None : goal.visit_own-returns-in_ok-finish-in-None
visit_own-returns-in_ok-finish-in-None t c = λ n enough.
    visit_further c.args.dependencies.now (chain_of c.args.chain.now) c.args.progress.now c.args.table.now (spec.Fits c.visit_all.new.progress) c.requires.new c.requires.has_subquery c.requires.off
    (λ n enough. ap (spec.visit_all (spec.visit n c.args.dependencies.now (c.args.table.now ∷ chain_of c.args.chain.now)) (put_listed c.args.progress.now c.args.table.now)) (sym c.subquery_tables_of.ensures)
    ∙ ap (λ listed. spec.visit_all (spec.visit n c.args.dependencies.now (c.args.table.now ∷ chain_of c.args.chain.now)) listed c.subquery_tables_of.result.now) (sym c.in_ok-list.ensures)
    ∙ c.in_ok-closed.ensures n enough ∙ ap (λ closed. as_found closed c.visit_all.new.progress) c.in-None.is) n enough
    ∙ ap spec.Fits (sym c.in_ok-finish-in-None.ensures)
