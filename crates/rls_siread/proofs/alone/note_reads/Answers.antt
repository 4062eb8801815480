use Rattle.std.specs.Prelude.{◌≡◌, refl, []}
use Rattle.std.proofs.Common.{ap, ◌∙◌, List}
use Rattle.rls_value.specs.declared.object.Object.{Object}
use Rattle.rls_siread.specs.Promotion.{noted_with}
use Rattle.rls_siread.specs.Locks.{objects_in, notes_at}
use Rattle.rls_siread.specs.Index.{holders_by}
use Rattle.rls_siread.proofs.AloneLaws.{entered, noted_alone}
use Rattle.rls_siread.proofs.alone.note_reads.Goals as goal

pub returns-then-begins-clause-ok : goal.returns-then-begins-clause-ok
returns-then-begins-clause-ok c =
    let nothing : noted_with c.args.limit (objects_in (notes_at c.args.notes.now.entries c.args.txn)) c.args.footprint ≡ [] =
    ap (λ found. noted_with c.args.limit (objects_in found) c.args.footprint) (c.if-begins.ensures.noted refl) ∙ ap (λ (reads : List Object). noted_with c.args.limit [] reads) (c.if-begins.ensures.read refl) in
    entered c.args.alone.now c.args.index.now.holders.entries c.args.notes.now.entries c.begin_notes.new.notes.entries c.args.txn
    (noted_with c.args.limit (objects_in (notes_at c.args.notes.now.entries c.args.txn)) c.args.footprint) c.requires (c.if-begins.ensures.noted refl) nothing c.in_ok-begin_notes.ensures.ok

pub returns-then-is_free-clause-ok : goal.returns-then-is_free-clause-ok
returns-then-is_free-clause-ok c =
    noted_alone (holders_by c.args.alone.now c.args.index.now.holders.entries c.args.notes.now.entries) c.args.notes.now.entries c.note_alone.new.notes.entries c.args.txn
    (noted_with c.args.limit (objects_in (notes_at c.args.notes.now.entries c.args.txn)) c.args.footprint) (c.if-is_free.ensures refl) c.in_ok-note_alone.ensures.ok
