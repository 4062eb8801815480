use Rattle.std.specs.Prelude.{None, Some}
use Rattle.std.proofs.Common.{ap, subst, ◌∙◌}
use Rattle.rls_value.specs.declared.object.Object.{Object}
use Rattle.rls_siread.specs.Index.{shown}
use Rattle.rls_siread.proofs.IndexLaws.{PutsAt, entry_at, keeps_ready, room_is_ready, shown_insert}
use Rattle.rls_siread.proofs.index.Index.make_place.Goals as goal

pub returns-clause-shown : goal.returns-clause-shown
returns-clause-shown c =
    ap shown c.in_ok-insert.ensures.entries
    ∙ shown_insert c.args.self.now.holders.entries c.in_ok-copy.field-0 c.new.result c.new.ensures.nobody (ap (entry_at c.args.self.now.holders.entries) c.in_ok-copy.ensures ∙ c.requires)

pub returns-clause-kept : goal.returns-clause-kept
returns-clause-kept c =
    keeps_ready c.args.self.now.holders.entries c.insert.new.self.entries c.args.object.now None (Some c.new.result) c.args.txn c.requires (λ ready. room_is_ready c.new.result c.args.txn c.new.ensures.room)
    (subst (λ (object : Object). PutsAt c.args.self.now.holders.entries c.insert.new.self.entries object (Some c.new.result)) c.in_ok-copy.ensures c.in_ok-insert.ensures.updates.0)
