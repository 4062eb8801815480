use Rattle.std.specs.Prelude.{◌≡◌, Some}
use Rattle.std.specs.Option.{option_copied}
use Rattle.std.proofs.Common.{ap, sym, ◌∙◌}
use Rattle.rls_siread.specs.Index.{held_at}
use Rattle.rls_siread.proofs.IndexLaws.{entry_at, txns_in, seen, nobody_at}
use Rattle.rls_siread.proofs.index.Index.copy_of.Goals as goal

pub returns-in-Some : goal.returns-in-Some
returns-in-Some c =
    let found : entry_at c.args.self.now.holders.entries c.args.object.now ≡ Some c.in-Some.held.now = sym c.get.ensures.value ∙ ap option_copied c.in-Some.is in
    let there : held_at c.args.self.now.holders.entries c.args.object.now ≡ c.in-Some.held.now.txns = seen c.args.self.now.holders.entries c.args.object.now c.len-in_order.ensures.ordered ∙ ap txns_in found in
    rw there c.copy.ensures

pub returns-in-None : goal.returns-in-None
returns-in-None c =
    c.new.ensures.nobody ∙ sym (nobody_at c.args.self.now.holders.entries c.args.object.now c.len-in_order.ensures.ordered (sym c.get.ensures.value ∙ ap option_copied c.in-None.is))
