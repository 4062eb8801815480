use Rattle.std.proofs.Common.{◌≡◌, ◌+◌, sym, subst, ◌∙◌, map, drop, false}
use Rattle.rls_hints.specs.Walking.{fault_from, is_empty}
use Rattle.rls_hints.proofs.Walks.{walk_on}
use Rattle.rls_hints.proofs.walking.find_fault.Goals as goal

pub loop-place-preserved : goal.loop-place-preserved
loop-place-preserved c =
    let some : is_empty c.in_ok-behind.behind.items ≡ false = subst (λ b. is_empty b ≡ false) c.as_slice-in-loop-place.ensures.value (sym c.is_empty.ensures ∙ c.if-is_empty.false) in
    let on = walk_on c.loop-place.place c.as_slice.result.now c.in_ok-behind.behind.items c.args.words.now c.index-words-place.result c.loop-place-test.true c.index-words-place.is c.in_ok-behind.ensures some in
    c.loop-place.invariant ∙ subst (λ stacks. fault_from c.loop-place.place stacks (map (λ w. w.token) (drop c.loop-place.place c.args.words.now)) ≡ fault_from (c.loop-place.place + 1) c.in_ok-behind.behind.items (map (λ w. w.token) (drop (c.loop-place.place + 1) c.args.words.now))) c.as_slice.ensures.value on
