use Rattle.std.proofs.Common.{◌≡◌, ◌<◌, ℕ, suc, ◌-◌, ◌*◌, ◌+◌, subst, sym, arith}
use Rattle.rls_value.specs.NameHeads.{weight}
use Rattle.rls_value.proofs.NameHeadLemmas.{weight_above, head_below, head_in_bits}
use Rattle.rls_value.proofs.name.+head_of.Goals as goal

pub overflow_mul-result : goal.overflow_mul-result
overflow_mul-result t c =
    let byte : c.from.result < 256 = omega (arith, c.from.ensures, c.type_inv.bytes 0) in
    let is : suc (c.args.count - 1) ≡ c.args.count = omega (arith, c.if-count-eq0.false) in
    let over : c.from.result * weight (c.args.count - 1) + 0 < 18446744073709551616 = head_in_bits c.from.result 0 (c.args.count - 1) c.args.count is c.requires byte (weight_above (c.args.count - 1)) in
    let fits : c.from.result * c.weight.result < 18446744073709551616 = subst (λ (z : ℕ). c.from.result * z < 18446744073709551616) (sym c.weight.ensures) (omega (arith, over)) in
    omega (arith, fits)

pub overflow_add-result : goal.overflow_add-result
overflow_add-result t c =
    let byte : c.from.result < 256 = omega (arith, c.from.ensures, c.type_inv.bytes 0) in
    let is : suc (c.args.count - 1) ≡ c.args.count = omega (arith, c.if-count-eq0.false) in
    let fits : c.from.result * c.weight.result + c.head_of.result < 18446744073709551616 =
    subst (λ (z : ℕ). c.from.result * z + c.head_of.result < 18446744073709551616) (sym c.weight.ensures)
    (head_in_bits c.from.result c.head_of.result (c.args.count - 1) c.args.count is c.requires byte c.head_of.ensures.below) in
    omega (arith, fits)

pub returns-in-empty-clause-below : goal.returns-in-empty-clause-below
returns-in-empty-clause-below t c = weight_above c.args.count

pub returns-in-len1-up-clause-below : goal.returns-in-len1-up-clause-below
returns-in-len1-up-clause-below t c =
    let byte : c.from.result < 256 = omega (arith, c.from.ensures, c.type_inv.bytes 0) in
    let is : suc (c.args.count - 1) ≡ c.args.count = omega (arith, c.if-count-eq0.false) in
    subst (λ (z : ℕ). c.from.result * z + c.head_of.result < weight c.args.count) (sym c.weight.ensures)
    (head_below c.from.result c.head_of.result (c.args.count - 1) c.args.count is byte c.head_of.ensures.below)
