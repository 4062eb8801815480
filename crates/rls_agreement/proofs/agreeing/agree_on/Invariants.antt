use Rattle.std.proofs.Common.{◌↔◌}
use Rattle.rls_catalog.specs.State.{AgreesOn}
use Rattle.rls_agreement.proofs.agreeing.agree_on.Given as goal

-- what is left decides
abbrev pub invariant-loop-object : goal.invariant-loop-object
invariant-loop-object l = AgreesOn l.left l.right l.object-iterator ↔ AgreesOn l.left l.right l.footprint
