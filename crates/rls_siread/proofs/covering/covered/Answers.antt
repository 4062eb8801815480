use Rattle.std.specs.Prelude.{◌≡◌}
use Rattle.std.proofs.Common.{ap, ◌∙◌}
use Rattle.std.proofs.lemmas.Result.{IfOk-weaker}
use Rattle.rls_value.specs.declared.object.Object.{Object}
use Rattle.rls_catalog.specs.Bases.{covers_any}
use Rattle.rls_source.specs.Footprints.{is_among}
use Rattle.rls_siread.specs.Covering.{covered_of}
use Rattle.rls_siread.proofs.CoveringLaws.{among_covered_of}
use Rattle.rls_siread.proofs.covering.covered.Goals as goal

pub returns-clause-covers : goal.returns-clause-covers
returns-clause-covers c =
    IfOk-weaker c.all_covered.result (λ objects. objects ≡ covered_of c.args.changes.now) (λ objects. (object : Object) → is_among objects object ≡ covers_any object c.args.changes.now)
    (λ objects is. λ object. ap (λ list. is_among list object) is ∙ among_covered_of c.args.changes.now object) c.all_covered.ensures
