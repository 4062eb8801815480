use Rattle.std.specs.Prelude.{◌≡◌, [], Some}
use Rattle.std.specs.BTreeMap.{BTreeMap}
use Rattle.std.specs.Option.{is_some, option_copied_mut}
use Rattle.std.proofs.Common.{ap, sym, ◌∙◌}
use Rattle.std.proofs.lemmas.Bool.{true≢false}
use Rattle.rls_value.specs.declared.object.Object.{Object}
use Rattle.rls_siread.specs.Locks.{without}
use Rattle.rls_siread.specs.Index.{HolderList, held_at}
use Rattle.rls_siread.proofs.IndexLaws.{entry_at, changed_at, same_at, held_here, nobody_at}
use Rattle.rls_siread.proofs.index.Index.take_out.Goals as goal

pub returns-in-Some : goal.returns-in-Some
returns-in-Some c =
    let found : entry_at c.args.self.now.holders.entries c.args.object.now ≡ Some c.in-Some.held.now = sym c.get_mut.ensures.value ∙ ap option_copied_mut c.in-Some.is in
    let wrote = c.get_mut.follows.holds c.release.new.self in
    record {
      held = changed_at (λ txns. without txns c.args.txn) c.args.self.now.holders.entries (c.get_mut.follows.lender c.release.new.self).entries c.args.object.now (Some c.in-Some.held.now) (Some c.release.new.self)
          c.get_mut.ensures.ordered wrote.4 found c.release.ensures.txns (wrote.3 (ap is_some found)).0;
      nobody = λ empty.
          held_here c.args.self.now.holders.entries (c.get_mut.follows.lender c.release.new.self).entries c.args.object.now c.release.new.self wrote.4 (wrote.3 (ap is_some found)).0
          ∙ c.release.ensures.nobody.0 empty;
    }

pub returns-in-None : goal.returns-in-None
returns-in-None c =
    let nobody : held_at c.args.self.now.holders.entries c.args.object.now ≡ [] =
    nobody_at c.args.self.now.holders.entries c.args.object.now c.get_mut.ensures.ordered (sym c.get_mut.ensures.value ∙ ap option_copied_mut c.in-None.is) in
    record {
      held = λ other. ap (λ (places : BTreeMap Object HolderList). held_at places.entries other) c.get_mut.follows.holds-at-none ∙ same_at (λ txns. without txns c.args.txn) c.args.self.now.holders.entries c.args.object.now (ap (λ txns. without txns c.args.txn) nobody ∙ sym nobody) other;
      nobody = λ empty. absurd (true≢false (sym empty));
    }
