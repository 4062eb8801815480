use Rattle.std.proofs.Common.{rules, ap, ◌∙◌}
use Rattle.rls_guard.specs.rls_catalog.specs.State.{State}
use Rattle.rls_guard.specs.rls_source.specs.Footprints.{footprint_of}
use Rattle.rls_access.specs.Framing.{framed_by}
use Rattle.rls_access.specs.Statements.{step}
use Rattle.rls_access.proofs.statement.run_statement.Goals as goal

-- the frame law
pub returns-clause-frame : goal.returns-clause-frame
returns-clause-frame g c = framed_by (step c.args.ctx.now c.args.statement.now) (g.S.RowSource.state c.args.source.now) c.in_ok-outcome.outcome.footprint (search rules)

-- the reads of the footprint are those that it is made of
pub returns-clause-read : goal.returns-clause-read
returns-clause-read g c =
    c.in_ok-mark_all.ensures.read
    ∙ ap (g.S.RowSource.after c.args.source.now)
    (c.in_ok-outcome.ensures.footprint ∙ ap (λ (state : State). footprint_of ((step c.args.ctx.now c.args.statement.now).in_state state).reads) c.catalog.ensures)
    ∙ ((g.met.S.StatementSource c.lifetimes (search rules)).counts_once c.args.source.now).counted ((step c.args.ctx.now c.args.statement.now).in_state (g.S.RowSource.state c.args.source.now)).reads
