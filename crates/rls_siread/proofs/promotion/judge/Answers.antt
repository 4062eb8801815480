use Rattle.std.proofs.Common.{◌≡◌, List, ℕ, rules, sym, subst, ◌∙◌}
use Rattle.std.proofs.lemmas.Slice.Eq.{bytes_eq-Decides}
use Rattle.rls_siread.specs.Promotion.{is_crowded}
use Rattle.rls_siread.proofs.promotion.judge.Goals as goal

pub returns-then-is-clause-crowded : goal.returns-then-is-clause-crowded
returns-then-is-clause-crowded c =
    let same : c.in-Some.judged.table ≡ c.args.table.now = (bytes_eq-Decides c.in-Some.judged.table c.args.table.now).0 (sym c.is.ensures ∙ c.if-is.true) in
    let judged : c.in-Some.judged.crowded ≡ is_crowded c.args.limit c.args.objects.now c.in-Some.judged.table = search (rules, c.requires, c.in-Some.is) in
    subst (λ (table : List ℕ). c.in-Some.judged.crowded ≡ is_crowded c.args.limit c.args.objects.now table) same judged
