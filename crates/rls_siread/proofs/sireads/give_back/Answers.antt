use Rattle.std.proofs.Common.{◌∙◌}
use Rattle.rls_source.specs.Footprints.{is_among}
use Rattle.rls_siread.specs.Index.{held_at}
use Rattle.rls_siread.proofs.LocksLaws.{forgotten_case}
use Rattle.rls_siread.proofs.sireads.give_back.Goals as goal

pub returns : goal.returns
returns c = λ object.
    c.release_all.ensures object ∙ forgotten_case (is_among c.args.objects.now object) c.args.txn (held_at c.args.index.now.holders.entries object) (c.requires.noted object)
