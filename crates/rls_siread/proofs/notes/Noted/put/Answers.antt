use Rattle.std.proofs.Common.{List, ap, sym, ◌∙◌}
use Rattle.rls_value.specs.declared.object.Object.{Object}
use Rattle.rls_source.specs.Footprints.{with_reads}
use Rattle.rls_source.proofs.FootprintOrderLaws.{footprint_ordered}
use Rattle.rls_siread.specs.Locks.{Notes}
use Rattle.rls_siread.proofs.notes.Noted.put.Goals as goal

pub returns : goal.returns
returns c = λ ordered.
    ap (λ (notes : Notes). record notes { objects = c.args.objects }) c.self.view_is
    ∙ ap (λ (list : List Object). record c.args.self.now { objects = list }) (sym (footprint_ordered c.args.objects ordered) ∙ ap (λ (list : List Object). with_reads list c.args.objects) (sym c.requires))
