use Rattle.std.proofs.Common.{ap, sym, ◌∙◌}
use Rattle.std.specs.Prelude.{◌≡◌, Some}
use Rattle.std.specs.BTreeMap.{is_at}
use Rattle.std.specs.Map.{lookup, set_value}
use Rattle.std.specs.Option.{option_copied_mut}
use Rattle.std.specs.Ordering.{nat_cmp}
use Rattle.std.proofs.lemmas.Map.Steps.{set_value_same}
use Rattle.rls_conflict.specs.Begun.{Begun}
use Rattle.rls_conflict.proofs.posting.take_in.Goals as goal

pub returns-in-Err-clause-err_running : goal.returns-in-Err-clause-err_running
returns-in-Err-clause-err_running c =
    let found : lookup (is_at (nat_cmp c.args.txn)) c.args.running.now.entries ≡ Some c.in-Some.it.now = sym c.get_mut.ensures.value ∙ ap option_copied_mut c.in-Some.is in
    (c.get_mut.follows.holds c.post.new.self).0
    ∙ ap (λ (begun : Begun). set_value (is_at (nat_cmp c.args.txn)) c.args.running.now.entries begun) c.in-Err.ensures.err_changes
    ∙ set_value_same (is_at (nat_cmp c.args.txn)) c.args.running.now.entries c.in-Some.it.now found
