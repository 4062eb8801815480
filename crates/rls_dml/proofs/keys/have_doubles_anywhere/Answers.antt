use Rattle.std.proofs.Common.{rules, refl, ap, sym, ◌≡◌, ◌||◌, ◌∷◌, drop}
use Rattle.rls_dml.specs.Writing.{has_doubles}
use Rattle.rls_dml.proofs.DoubleLemmas.{none_seen, none_left, seen_more, seen_twice}
use Rattle.rls_dml.proofs.keys.have_doubles_anywhere.Goals as goal

pub loop-keys-init : goal.loop-keys-init
loop-keys-init c = sym (ap (λ seen. seen || has_doubles c.args.keys.now) (none_seen c.new-seen.result.keys c.args.keys.now c.new-seen.ensures.empty))

pub returns-then-not-branch : goal.returns-then-not-branch
returns-then-not-branch c =
    let first : c.loop-keys.keys.now ≡ c.key-item.result ∷ drop 1 c.loop-keys.keys.now = search rules in
    sym (seen_twice c.in_ok-insert.field-0 _ c.loop-keys.seen.keys c.key-item.result c.loop-keys.keys.now c.in_ok-insert.ensures.added c.if-not-branch.true c.loop-keys.invariant first)

pub loop-keys-preserved : goal.loop-keys-preserved
loop-keys-preserved c =
    let first : c.loop-keys.keys.now ≡ c.key-item.result ∷ drop 1 c.loop-keys.keys.now = search rules in
    seen_more c.in_ok-insert.field-0 _ c.loop-keys.seen.keys c.insert.new.self.keys _ c.key-item.result c.loop-keys.keys.now c.in_ok-insert.ensures.keys c.in_ok-insert.ensures.added c.if-not-branch.false c.loop-keys.invariant first refl

pub returns : goal.returns
returns c = sym (none_left _ c.loop-keys.seen.keys c.loop-keys.keys.now c.loop-keys.invariant c.in_default.len_below)
