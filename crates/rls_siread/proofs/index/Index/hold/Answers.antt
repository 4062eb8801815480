use Rattle.std.specs.Prelude.{◌≡◌, Some}
use Rattle.std.specs.Option.{is_some, option_copied_mut}
use Rattle.std.proofs.Common.{ap, sym, ◌∙◌}
use Rattle.std.proofs.lemmas.Bool.{true≢false}
use Rattle.rls_siread.specs.Locks.{arrived}
use Rattle.rls_siread.specs.Index.{is_ready_in}
use Rattle.rls_siread.proofs.IndexLaws.{entry_at, changed_at, holder_ready, keeps_ready}
use Rattle.rls_siread.proofs.index.Index.hold.Goals as goal

pub hold-requires : goal.hold-requires
hold-requires c =
    let found : entry_at c.args.self.now.holders.entries c.args.object.now ≡ Some c.in-Some.held.now = sym c.get_mut.ensures.value ∙ ap option_copied_mut c.in-Some.is in
    ap (λ entry. is_ready_in entry c.args.txn) (sym found) ∙ c.requires

pub returns-in-Some : goal.returns-in-Some
returns-in-Some c =
    let found : entry_at c.args.self.now.holders.entries c.args.object.now ≡ Some c.in-Some.held.now = sym c.get_mut.ensures.value ∙ ap option_copied_mut c.in-Some.is in
    let wrote = c.get_mut.follows.holds c.hold.new.self in
    record {
      held = changed_at (λ txns. arrived txns c.args.txn) c.args.self.now.holders.entries (c.get_mut.follows.lender c.hold.new.self).entries c.args.object.now (Some c.in-Some.held.now) (Some c.hold.new.self)
          c.get_mut.ensures.ordered wrote.4 found c.hold.ensures (wrote.3 (ap is_some found)).0;
      kept = keeps_ready c.args.self.now.holders.entries (c.get_mut.follows.lender c.hold.new.self).entries c.args.object.now (Some c.in-Some.held.now) (Some c.hold.new.self) c.args.txn found
          (λ ready. holder_ready c.hold.new.self c.in-Some.held.now.txns c.args.txn c.hold.ensures) (wrote.3 (ap is_some found)).0;
    }

pub returns-in_default : goal.returns-in_default
returns-in_default c = absurd (true≢false (sym c.requires ∙ ap (λ entry. is_ready_in entry c.args.txn) (sym c.get_mut.ensures.value ∙ ap option_copied_mut c.in_default.is)))
