use Rattle.std.proofs.Common.{◌≡◌, drop, is_some}
use Rattle.rls_evaluation.specs.rls_catalog.specs.rls_expr.specs.Terms.{terms_of}
use Rattle.rls_evaluation.specs.Keys.{pin_among}
use Rattle.rls_guard.specs.Support.{nowhere}
use Rattle.rls_guard.proofs.support.pins_among.Given as goal

-- the parts passed don't pin it: what is left decides
abbrev pub invariant-loop-part : goal.invariant-loop-part
invariant-loop-part l = is_some (pin_among l.column (terms_of (drop l.part-index l.parts)) nowhere) ≡ is_some (pin_among l.column (terms_of l.parts) nowhere)
