use Rattle.std.specs.Prelude.{refl, if◌then◌else◌, Some}
use Rattle.std.proofs.Common.{ap, ◌∙◌}
use Rattle.rls_source.specs.Footprints.{is_object}
use Rattle.rls_siread.specs.Index.{held_at}
use Rattle.rls_siread.proofs.IndexLaws.{entry_at, changed_at}
use Rattle.rls_siread.proofs.index.Index.put.Goals as goal

pub returns : goal.returns
returns c = λ other.
    changed_at (λ txns. c.args.held.txns) c.args.self.now.holders.entries c.insert.new.self.entries c.in_ok-copy.field-0 (entry_at c.args.self.now.holders.entries c.in_ok-copy.field-0) (Some c.args.held)
    c.in_ok-insert.ensures.was_ordered c.in_ok-insert.ensures.ordered refl refl c.in_ok-insert.ensures.updates.0 other
    ∙ ap (λ x. if is_object other x then c.args.held.txns else held_at c.args.self.now.holders.entries other) c.in_ok-copy.ensures
