use Rattle.std.proofs.Common.{◌≡◌, ◌+◌, ◌∷◌, drop, ap, sym, ◌∙◌}
use Rattle.std.specs.Prelude.{if◌then◌else◌}
use Rattle.std.specs.List.{list_any}
use Rattle.std.proofs.lemmas.List.{drop_more}
use Rattle.rls_source.specs.Footprints.{is_among}
use Rattle.rls_siread.specs.Locks.{without}
use Rattle.rls_siread.specs.Index.{held_at}
use Rattle.rls_conflict.proofs.ReleaseLemmas.{parts_next}
use Rattle.rls_conflict.proofs.posting.release_parts.Goals as goal

pub loop-part-preserved : goal.loop-part-preserved
loop-part-preserved c = λ object.
    let first : drop c.loop-part.part-index c.args.parts.now ≡ c.part-item.result ∷ drop (c.loop-part.part-index + 1) c.args.parts.now =
    drop_more c.args.parts.now c.loop-part.part-index c.part-item.result c.loop-part-test.true
    ∙ ap (λ part. part ∷ drop (c.loop-part.part-index + 1) c.args.parts.now) (sym c.part-item.is) in
    parts_next c.loop-part.writers c.release_all.new.self c.args.txn c.part-item.result (drop (c.loop-part.part-index + 1) c.args.parts.now) c.release_all.ensures object
    ∙ ap (λ parts. if list_any (λ part. is_among part object) parts then without (held_at c.loop-part.writers object) c.args.txn else held_at c.loop-part.writers object) (sym first)
    ∙ c.loop-part.invariant object
