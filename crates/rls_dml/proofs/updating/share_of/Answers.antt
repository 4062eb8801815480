use Rattle.std.proofs.Common.{map, ◌∙◌, ap, sym}
use Rattle.std.proofs.lemmas.List.{take-map}
use Rattle.rls_evaluation.specs.Scoping.{datum_value}
use Rattle.rls_dml.proofs.updating.share_of.Goals as goal

pub returns : goal.returns
returns c = ap (map datum_value) c.within.ensures.share ∙ sym (take-map datum_value c.args.many c.args.values.now)
