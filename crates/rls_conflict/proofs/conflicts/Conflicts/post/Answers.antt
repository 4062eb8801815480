use Rattle.std.proofs.Common.{ap, sym, ◌∙◌, subst, arith, refl}
use Rattle.std.specs.Prelude.{◌≡◌, List, true}
use Rattle.std.specs.Option.{is_some, option_map}
use Rattle.std.specs.Vec.{vec_len, vec_capacity}
use Rattle.rls_catalog.specs.declared.change.Change.{Change}
use Rattle.rls_siread.specs.Locks.{Locks, noted_by, notes_at, held_in}
use Rattle.rls_siread.specs.Promotion.{noted_with}
use Rattle.rls_conflict.specs.Begun.{at_number}
use Rattle.rls_conflict.specs.Known.{Known, Becomes, running_of, is_running, posted}
use Rattle.rls_conflict.specs.Kept.{known_by}
use Rattle.rls_conflict.proofs.RunningLemmas.{runs}
use Rattle.rls_conflict.proofs.OneLemmas.{same_kept}
use Rattle.rls_conflict.proofs.PostLemmas.{posted_kept, posted_seen}
use Rattle.rls_conflict.proofs.conflicts.Conflicts.post.Goals as goal

pub take_in-requires-clause-there : goal.take_in-requires-clause-there
take_in-requires-clause-there c =
    sym (runs c.self.inside.committed.items c.self.inside.running.entries c.self.inside.sireads c.args.txn) ∙ ap (λ (known : Known). is_running known c.args.txn) c.self.view_is ∙ c.requires

pub invariant_of-self : goal.invariant_of-self
invariant_of-self c =
    same_kept c.self.inside.committed.items c.self.inside.committed.items (vec_len c.self.inside.committed) (vec_len c.self.inside.committed) (vec_capacity c.self.inside.committed) (vec_capacity c.self.inside.committed)
    c.self.inside.running.entries c.take_in.new.running.entries c.self.inside.sireads c.take_in.new.sireads c.self.inside.writers c.take_in.new.writers c.self.inside.floor
    c.self.invariant refl refl (omega arith) c.in_err-take_in.ensures.err_running (λ txn. ap (λ (locks : Locks). notes_at locks.notes txn) c.in_err-take_in.ensures.err_noted)
    (λ object. ap (λ holders. held_in holders object) c.in_err-take_in.ensures.err_written)

pub invariant_of-self-2 : goal.invariant_of-self-2
invariant_of-self-2 c =
    let there : is_some (at_number c.args.txn c.self.inside.running.entries) ≡ true =
    sym (runs c.self.inside.committed.items c.self.inside.running.entries c.self.inside.sireads c.args.txn) ∙ ap (λ (known : Known). is_running known c.args.txn) c.self.view_is ∙ c.requires in
    posted_kept c.self.inside.committed.items (vec_len c.self.inside.committed) (vec_capacity c.self.inside.committed) c.self.inside.running.entries c.take_in.new.running.entries
    c.self.inside.sireads c.take_in.new.sireads c.self.inside.writers c.take_in.new.writers c.self.inside.floor c.args.txn c.in_ok-part.part.changes.items c.in_ok-part.part.covered
    (noted_with c.args.limit (noted_by c.self.inside.sireads c.args.txn) c.args.footprint) c.self.invariant there c.in_ok-part.ensures.covered
    c.in_ok-take_in.ensures.running c.in_ok-take_in.ensures.size c.in_ok-take_in.ensures.noted c.in_ok-take_in.ensures.written

pub returns-clause-ok : goal.returns-clause-ok
returns-clause-ok c =
    subst (λ (changes : List Change). Becomes c.args.txn (option_map (posted c.args.limit c.args.footprint changes) (running_of c.args.self.now c.args.txn)) c.args.self.now (known_by c.self.inside.committed.items c.take_in.new.running.entries c.take_in.new.sireads)) c.in_ok-part.ensures.changes
    (subst (λ (known : Known). Becomes c.args.txn (option_map (posted c.args.limit c.args.footprint c.in_ok-part.part.changes.items) (running_of known c.args.txn)) known (known_by c.self.inside.committed.items c.take_in.new.running.entries c.take_in.new.sireads)) c.self.view_is
    (posted_seen c.self.inside.committed.items c.self.inside.running.entries c.take_in.new.running.entries c.self.inside.sireads c.take_in.new.sireads c.args.txn c.args.limit c.args.footprint c.in_ok-part.part.changes.items
    c.in_ok-take_in.ensures.running c.in_ok-take_in.ensures.noted))
