use Rattle.std.proofs.Common.{rules, arith}
use Rattle.std.proofs.lemmas.Grind.{common_steps}
use Rattle.rls_check.proofs.PageTextLemmas.{no_bar}
use Rattle.rls_check.proofs.plot.Plot.push_at.Goals as goal

-- there is no transaction at the place
pub returns-in-None : goal.returns-in-None
returns-in-None c =
    let plot = c.args.self.now in
    no_bar plot.columns.items plot.lines.items plot.transactions.now plot.tallies.now c.args.place c.args.page.now.items (first_of (omega arith, omega (arith, c.in-None.ensures.lookup), search rules, grind (arith, common_steps)))
