use Rattle.std.proofs.Common.{length, ◌≤◌, ◌<◌, sym, subst, arith}
use Rattle.std.proofs.lemmas.List.{take_all}
use Rattle.std.proofs.lemmas.List.Elements.{All-more, All-same}
use Rattle.std.proofs.lemmas.Bool.Decides.{nat_tests}
use Rattle.rls_session.specs.Books.{IsBooked}
use Rattle.rls_session.proofs.notes.agree_all.Goals as goal

pub loop-one-preserved : goal.loop-one-preserved
loop-one-preserved g c =
    let within : c.loop-one.one-index < length c.args.kept.now = grind (arith, nat_tests) in
    All-more (IsBooked c.args.book.now.seen.committed) c.args.kept.now c.loop-one.one-index c.one-item.result within c.loop-one.invariant (subst (IsBooked c.args.book.now.seen.committed) c.one-item.is c.agrees.ensures)

pub returns : goal.returns
returns g c =
    let done : length c.args.kept.now ≤ c.loop-one.one-index = grind (arith, nat_tests) in
    All-same (IsBooked c.args.book.now.seen.committed) c.args.kept.now _ (sym (take_all c.loop-one.one-index c.args.kept.now done)) c.loop-one.invariant
