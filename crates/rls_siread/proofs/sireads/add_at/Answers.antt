use Rattle.std.proofs.Common.{ap, sym, ◌∙◌}
use Rattle.std.specs.Prelude.{◌≡◌, Some}
use Rattle.std.specs.BTreeMap.{is_at}
use Rattle.std.specs.Map.{lookup, set_value}
use Rattle.std.specs.Option.{option_copied_mut}
use Rattle.std.specs.Ordering.{nat_cmp}
use Rattle.std.proofs.lemmas.Map.Steps.{set_value_same}
use Rattle.rls_siread.specs.Locks.{Notes}
use Rattle.rls_siread.proofs.sireads.add_at.Goals as goal

pub returns-in-Err-clause-err : goal.returns-in-Err-clause-err
returns-in-Err-clause-err c =
    let found : lookup (is_at (nat_cmp c.args.txn)) c.args.notes.now.entries ≡ Some c.in-Some.noted.now = sym c.get_mut.ensures.value ∙ ap option_copied_mut c.in-Some.is in
    (c.get_mut.follows.holds c.add.new.self).0
    ∙ ap (λ (notes : Notes). set_value (is_at (nat_cmp c.args.txn)) c.args.notes.now.entries notes) c.in-Err.ensures.err
    ∙ set_value_same (is_at (nat_cmp c.args.txn)) c.args.notes.now.entries c.in-Some.noted.now found
