use Rattle.std.specs.Prelude.{◌≡◌, ℕ, nat_eq, if◌then◌else◌}
use Rattle.std.specs.Option.{option_map}
use Rattle.std.proofs.Common.{List, ap, sym, subst, ◌∙◌}
use Rattle.rls_value.specs.declared.object.Object.{Object}
use Rattle.rls_source.specs.Footprints.{with_reads, is_among, IsInOrder}
use Rattle.rls_source.proofs.FootprintOrderLaws.{footprint_ordered}
use Rattle.rls_siread.specs.Locks.{noting, notes_at, HasNoted}
use Rattle.rls_siread.specs.Index.{locks_of}
use Rattle.rls_siread.proofs.LocksLaws.{added, commits_added}
use Rattle.rls_siread.proofs.sireads.put_first.Goals as goal

puts : (c : goal.After-put_at) (t : ℕ)
    → notes_at c.put_at.new.notes.entries t ≡ (if nat_eq c.args.txn t then option_map (noting c.args.footprint.now) (notes_at c.args.notes.now.entries t) else notes_at c.args.notes.now.entries t)
puts c =
    subst (λ (list : List Object). (t : ℕ) → notes_at c.put_at.new.notes.entries t ≡ (if nat_eq c.args.txn t then option_map (noting list) (notes_at c.args.notes.now.entries t) else notes_at c.args.notes.now.entries t))
    c.in_ok-objects.ensures
    (c.put_at.ensures (subst IsInOrder (sym c.in_ok-objects.ensures) c.iter-in_order.ensures.ordered))

pub returns-clause-indexed : goal.returns-clause-indexed
returns-clause-indexed c =
    (added c.args.index.now.holders.entries c.make_room.new.self.holders.entries c.hold_all.new.self.holders.entries c.args.notes.now.entries c.put_at.new.notes.entries c.args.txn c.args.footprint.now
    c.requires.indexed c.requires.there (λ object _. ap (λ (list : List Object). is_among list object) c.requires.nothing) c.in_ok-make_room.ensures.shown (puts c) c.hold_all.ensures).indexed

pub returns-clause-ok : goal.returns-clause-ok
returns-clause-ok c =
    subst (λ (list : List Object). HasNoted c.args.txn list (locks_of c.args.index.now.holders.entries c.args.notes.now.entries) (locks_of c.hold_all.new.self.holders.entries c.put_at.new.notes.entries))
    (ap (λ (list : List Object). with_reads list c.args.footprint.now) c.requires.nothing ∙ footprint_ordered c.args.footprint.now c.iter-in_order.ensures.ordered)
    (added c.args.index.now.holders.entries c.make_room.new.self.holders.entries c.hold_all.new.self.holders.entries c.args.notes.now.entries c.put_at.new.notes.entries c.args.txn c.args.footprint.now
    c.requires.indexed c.requires.there (λ object _. ap (λ (list : List Object). is_among list object) c.requires.nothing) c.in_ok-make_room.ensures.shown (puts c) c.hold_all.ensures).noted

pub returns-clause-commits : goal.returns-clause-commits
returns-clause-commits c = commits_added c.args.notes.now.entries c.put_at.new.notes.entries c.args.txn c.args.footprint.now (puts c)
