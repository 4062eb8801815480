use Rattle.std.proofs.Common.{◌∙◌}
use Rattle.rls_catalog.proofs.WritesLaws.{covered_writes}
use Rattle.rls_source.proofs.covering.covers.Goals as goal

pub returns : goal.returns
returns c = record {
  covers = c.shows_either.ensures;
  writes = c.shows_either.ensures ∙ covered_writes c.args.object.now c.args.change.now;
}
