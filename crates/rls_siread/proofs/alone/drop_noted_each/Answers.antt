use Rattle.std.specs.Prelude.{◌≡◌, refl, [], true}
use Rattle.std.specs.Option.{is_some}
use Rattle.std.proofs.Common.{ap, ◌∙◌, arith}
use Rattle.rls_siread.proofs.LocksLaws.{notes_gone}
use Rattle.rls_siread.proofs.ForgetLaws.{left_start, left_next, left_notes, committed_has_notes}
use Rattle.rls_siread.proofs.alone.drop_noted_each.Goals as goal

pub loop-txn-init : goal.loop-txn-init
loop-txn-init c = left_start c.args.last (record { holders = []; notes = c.args.notes.now.entries })

pub loop-txn-preserved : goal.loop-txn-preserved
loop-txn-preserved c =
    left_next c.args.last (record { holders = []; notes = c.args.notes.now.entries }) (record { holders = []; notes = c.loop-txn.notes.entries }) (record { holders = []; notes = c.remove.new.self.entries }) c.in-Some.txn c.loop-txn.invariant c.in-Some.ensures
    (record { notes = notes_gone c.loop-txn.notes.entries c.remove.new.self.entries c.in-Some.txn c.remove.ensures.updates.0; holders = λ object. refl })

pub loop-txn-smaller : goal.loop-txn-smaller
loop-txn-smaller c =
    let there : is_some c.remove.result ≡ true = ap is_some c.remove.ensures.value ∙ committed_has_notes c.args.last (record { holders = []; notes = c.loop-txn.notes.entries }) c.in-Some.txn c.in-Some.ensures in
    let count = rw there at c.remove.ensures.len in
    omega (arith, count)

pub returns : goal.returns
returns c = left_notes c.args.last (record { holders = []; notes = c.args.notes.now.entries }) (record { holders = []; notes = c.loop-txn.notes.entries }) c.loop-txn.invariant c.in_default.ensures
