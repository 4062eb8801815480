use Rattle.std.specs.Prelude.{◌≡◌, Some}
use Rattle.std.specs.Option.{is_some, option_copied_mut}
use Rattle.std.proofs.Common.{ap, sym, ◌∙◌}
use Rattle.rls_siread.specs.Index.{shown}
use Rattle.rls_siread.proofs.IndexLaws.{entry_at, shown_set, room_is_ready, wider_ready, keeps_ready, ready_at}
use Rattle.rls_siread.proofs.index.Index.make_room_at.Goals as goal

pub returns-in-Ok : goal.returns-in-Ok
returns-in-Ok c =
    let found : entry_at c.args.self.now.holders.entries c.args.object.now ≡ Some c.in-Some.held.now = sym c.get_mut.ensures.value ∙ ap option_copied_mut c.in-Some.is in
    let wrote = c.get_mut.follows.holds c.make_room.new.self in
    record {
      shown = ap shown wrote.0 ∙ shown_set c.args.self.now.holders.entries c.args.object.now c.in-Some.held.now c.make_room.new.self c.make_room.ensures.txns found;
      ready = ready_at c.args.self.now.holders.entries (c.get_mut.follows.lender c.make_room.new.self).entries c.args.object.now c.make_room.new.self c.args.txn (room_is_ready c.make_room.new.self c.args.txn c.in-Ok.ensures.ok) (wrote.3 (ap is_some found)).0;
      kept = keeps_ready c.args.self.now.holders.entries (c.get_mut.follows.lender c.make_room.new.self).entries c.args.object.now (Some c.in-Some.held.now) (Some c.make_room.new.self) c.args.txn found
          (wider_ready c.in-Some.held.now c.make_room.new.self c.args.txn c.make_room.ensures.txns c.make_room.ensures.kept) (wrote.3 (ap is_some found)).0;
    }

pub returns-in-Err : goal.returns-in-Err
returns-in-Err c =
    let found : entry_at c.args.self.now.holders.entries c.args.object.now ≡ Some c.in-Some.held.now = sym c.get_mut.ensures.value ∙ ap option_copied_mut c.in-Some.is in
    let wrote = c.get_mut.follows.holds c.make_room.new.self in
    record {
      shown = ap shown wrote.0 ∙ shown_set c.args.self.now.holders.entries c.args.object.now c.in-Some.held.now c.make_room.new.self c.make_room.ensures.txns found;
      ready = tt;
      kept = keeps_ready c.args.self.now.holders.entries (c.get_mut.follows.lender c.make_room.new.self).entries c.args.object.now (Some c.in-Some.held.now) (Some c.make_room.new.self) c.args.txn found
          (wider_ready c.in-Some.held.now c.make_room.new.self c.args.txn c.make_room.ensures.txns c.make_room.ensures.kept) (wrote.3 (ap is_some found)).0;
    }
