use Rattle.std.proofs.Common.{map, drop, length, ◌-◌, ◌∙◌, ap, sym, arith}
use Rattle.std.proofs.lemmas.List.{drop-map, length-drop, take_all}
use Rattle.rls_evaluation.specs.Scoping.{datum_value}
use Rattle.rls_dml.proofs.updating.behind_share.Goals as goal

pub returns : goal.returns
returns c =
    ap (map datum_value) (take_all (length c.args.values.now - c.within.result) (drop c.within.result c.args.values.now) (omega (arith, length-drop c.within.result c.args.values.now)) ∙ c.within.ensures.behind)
    ∙ sym (drop-map datum_value c.args.many c.args.values.now)
