use Rattle.std.specs.Prelude.{◌≡◌, List, ℕ, Some}
use Rattle.std.specs.Option.{option_copied}
use Rattle.std.proofs.Common.{ap, sym, ◌∙◌}
use Rattle.rls_siread.specs.Locks.{is_number_in}
use Rattle.rls_siread.proofs.IndexLaws.{entry_at, txns_in, seen, nobody_at}
use Rattle.rls_siread.proofs.index.Index.holds.Goals as goal

pub returns-in-Some : goal.returns-in-Some
returns-in-Some c =
    let found : entry_at c.args.self.now.holders.entries c.args.object.now ≡ Some c.in-Some.held.now = sym c.get.ensures.value ∙ ap option_copied c.in-Some.is in
    c.contains.ensures
    ∙ ap (λ (txns : List ℕ). is_number_in txns c.args.txn) (sym (seen c.args.self.now.holders.entries c.args.object.now c.len-in_order.ensures.ordered ∙ ap txns_in found))

pub returns-in-None : goal.returns-in-None
returns-in-None c =
    ap (λ (txns : List ℕ). is_number_in txns c.args.txn) (sym (nobody_at c.args.self.now.holders.entries c.args.object.now c.len-in_order.ensures.ordered (sym c.get.ensures.value ∙ ap option_copied c.in-None.is)))
