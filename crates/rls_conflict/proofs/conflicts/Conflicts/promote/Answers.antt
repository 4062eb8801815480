use Rattle.std.proofs.Common.{ap, sym, ◌∙◌, subst, arith}
use Rattle.std.specs.Prelude.{◌≡◌, List, length, map}
use Rattle.std.specs.Vec.{vec_len, vec_capacity}
use Rattle.std.proofs.lemmas.List.{length-map}
use Rattle.rls_value.specs.declared.object.Object.{Object}
use Rattle.rls_conflict.specs.declared.committed.Committed.{Committed}
use Rattle.rls_conflict.specs.Known.{Known, ArePromoted, with_promoted}
use Rattle.rls_conflict.specs.Kept.{all_committed, AreEntries, known_by}
use Rattle.rls_conflict.specs.Promoted.{covered_in}
use Rattle.rls_conflict.proofs.PromotedLemmas.{promoted_kept, promoted_seen}
use Rattle.rls_conflict.proofs.conflicts.Conflicts.promote.Goals as goal

pub promoted_all-requires : goal.promoted_all-requires
promoted_all-requires c = subst AreEntries (sym c.as_slice.ensures.value) c.self.invariant.entries

pub invariant_of-self-2 : goal.invariant_of-self-2
invariant_of-self-2 c =
    let are : all_committed c.in_ok-committed.committed.items ≡ map (λ (it : Committed). with_promoted c.args.limit it.transaction) c.self.inside.committed.items =
    c.in_ok-committed.ensures.transactions ∙ ap (map (λ (it : Committed). with_promoted c.args.limit it.transaction)) c.as_slice.ensures.value in
    let covers : map covered_in c.in_ok-committed.committed.items ≡ map covered_in c.self.inside.committed.items = c.in_ok-committed.ensures.covered ∙ ap (map covered_in) c.as_slice.ensures.value in
    let same = ap (λ (them : List (List Object)). length them) covers in
    let count = length-map c.self.inside.committed.items covered_in in
    let count_now = length-map c.in_ok-committed.committed.items covered_in in
    let ok = c.self.inside.committed.ok in
    let ok_now = c.in_ok-committed.committed.ok in
    let room = c.in_ok-committed.ensures.room in
    let len = c.len.ensures in
    let runs = c.len-2.ensures.len in
    promoted_kept c.args.limit c.self.inside.committed.items c.in_ok-committed.committed.items c.self.inside.running.entries c.self.inside.sireads c.promote.new.self c.self.inside.writers c.self.inside.floor
    are covers c.in_ok-promote.ensures.ok (vec_len c.self.inside.committed) (vec_capacity c.self.inside.committed) (vec_len c.in_ok-committed.committed) (vec_capacity c.in_ok-committed.committed)
    c.self.invariant c.in_ok-committed.ensures.entries (omega (arith, same, count, count_now, ok, ok_now, room, len, runs))

pub returns-clause-ok : goal.returns-clause-ok
returns-clause-ok c =
    let are : all_committed c.in_ok-committed.committed.items ≡ map (λ (it : Committed). with_promoted c.args.limit it.transaction) c.self.inside.committed.items =
    c.in_ok-committed.ensures.transactions ∙ ap (map (λ (it : Committed). with_promoted c.args.limit it.transaction)) c.as_slice.ensures.value in
    let covers : map covered_in c.in_ok-committed.committed.items ≡ map covered_in c.self.inside.committed.items = c.in_ok-committed.ensures.covered ∙ ap (map covered_in) c.as_slice.ensures.value in
    subst (λ (known : Known). ArePromoted c.args.limit known (known_by c.in_ok-committed.committed.items c.self.inside.running.entries c.promote.new.self)) c.self.view_is
    (promoted_seen c.args.limit c.self.inside.committed.items c.in_ok-committed.committed.items c.self.inside.running.entries c.self.inside.sireads c.promote.new.self c.self.inside.writers c.self.inside.floor are covers c.in_ok-promote.ensures.ok)
