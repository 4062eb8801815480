use Rattle.std.proofs.Common.{◌≡◌, drop}
use Rattle.rls_source.specs.rls_catalog.specs.rls_expr.specs.Terms.{terms_of}
use Rattle.rls_evaluation.specs.Keys.{pin_among}
use Rattle.rls_evaluation.specs.Scoping.{env_of}
use Rattle.rls_evaluation.proofs.keys.pin_among.Given as goal

-- the parts passed don't pin it: what is left decides
abbrev pub invariant-loop-part : goal.invariant-loop-part
invariant-loop-part l = pin_among l.column (terms_of (drop l.part-index l.parts)) (env_of l.env) ≡ pin_among l.column (terms_of l.parts) (env_of l.env)
