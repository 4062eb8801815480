use Rattle.std.specs.Prelude.{◌≡◌, ◌∷◌, List}
use Rattle.std.specs.Map.{keys_of}
use Rattle.std.specs.Map.Iter.{deref}
use Rattle.std.proofs.Common.{subst, ◌∙◌}
use Rattle.std.proofs.lemmas.Map.Iter.{rest_more}
use Rattle.rls_value.specs.declared.object.Object.{Object}
use Rattle.rls_siread.specs.Promotion.{noted_with}
use Rattle.rls_siread.specs.Locks.{notes_at, objects_in, HasNoted}
use Rattle.rls_siread.specs.Index.{locks_of}
use Rattle.rls_siread.proofs.PromotedLaws.{IsUnderWay, all_wait, one_promoted}
use Rattle.rls_siread.proofs.sireads.promote_all.Goals as goal

pub loop-txn-init : goal.loop-txn-init
loop-txn-init c =
    let it : c.into_iter-txn-iterator.result ≡ keys_of c.args.notes.now.entries = c.into_iter-txn-iterator.ensures.into_iter_gives ∙ c.keys-txn-items.ensures.rest in
    all_wait c.args.limit c.args.notes.now.entries c.args.promoted.now.entries c.args.index.now.holders.entries c.into_iter-txn-iterator.result it c.keys-txn-items.ensures.ordered c.requires.indexed c.requires.same

pub renew-requires : goal.renew-requires
renew-requires c = c.loop-txn.invariant.indexed

pub loop-txn-preserved : goal.loop-txn-preserved
loop-txn-preserved c =
    let first : c.loop-txn.txn-iterator ≡ c.in-Some.txn.now ∷ c.next.new.self = rest_more deref c.loop-txn.txn-iterator c.next.new.self c.next.result c.in-Some.txn c.in-Some.is c.next.ensures.steps in
    one_promoted c.args.limit c.args.notes.now.entries c.loop-txn.promoted.entries c.renew.new.notes.entries c.args.index.now.holders.entries c.loop-txn.index.holders.entries c.renew.new.index.holders.entries c.in-Some.txn.now c.next.new.self
    (subst (IsUnderWay c.args.limit c.args.notes.now.entries c.loop-txn.promoted.entries c.args.index.now.holders.entries c.loop-txn.index.holders.entries) first c.loop-txn.invariant) c.in_ok-renew.ensures.indexed
    (subst (λ (nothing : List Object). HasNoted c.in-Some.txn.now (noted_with c.args.limit (objects_in (notes_at c.loop-txn.promoted.entries c.in-Some.txn.now)) nothing) (locks_of c.loop-txn.index.holders.entries c.loop-txn.promoted.entries) (locks_of c.renew.new.index.holders.entries c.renew.new.notes.entries)) c.new-nothing.ensures c.in_ok-renew.ensures.ok)
