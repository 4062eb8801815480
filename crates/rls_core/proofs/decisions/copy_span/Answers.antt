use Rattle.std.proofs.Common.{◌≡◌, ℕ, ◌+◌, ◌-◌, ◌++◌, ap, ◌∙◌, arith, map}
use Rattle.std.specs.List.{range_with_len}
use Rattle.rls_core.specs.Decided.{row_in, decisions_by}
use Rattle.rls_core.proofs.SpanLemmas.{copied_on}
use Rattle.rls_core.proofs.decisions.copy_span.Goals as goal

pub loop-n-preserved : goal.loop-n-preserved
loop-n-preserved c =
    copied_on c.args.said.now c.args.span.now c.loop-n.n c.index-said-span.result c.args.decisions.now.items c.loop-n.decisions.items c.push.new.self.items c.in_ok-copy_of.field-0
    c.loop-n.auto.n c.requires.said c.index-said-span.is c.loop-n.invariant c.in_ok-copy_of.ensures c.in_ok-push.ensures.items

-- the number is the last one
pub returns-in_ok-push : goal.returns-in_ok-push
returns-in_ok-push c =
    let last : c.loop-n.n ≡ c.args.span.now.last = omega arith in
    copied_on c.args.said.now c.args.span.now c.loop-n.n c.index-said-span.result c.args.decisions.now.items c.loop-n.decisions.items c.push.new.self.items c.in_ok-copy_of.field-0
    c.loop-n.auto.n c.requires.said c.index-said-span.is c.loop-n.invariant c.in_ok-copy_of.ensures c.in_ok-push.ensures.items
    ∙ ap (λ (n : ℕ). c.args.decisions.now.items ++ decisions_by c.args.said.now (map (row_in c.args.span.now) (range_with_len c.args.span.now.first (n + 1 - c.args.span.now.first)))) last
