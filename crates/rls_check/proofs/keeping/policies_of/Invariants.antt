use Rattle.std.specs.List.{AllZip}
use Rattle.std.proofs.Common.{take}
use Rattle.rls_audit.specs.Shows.{SpellsPolicy}
use Rattle.rls_check.proofs.keeping.policies_of.Given as goal

-- those so far are the policies of the first texts
abbrev pub invariant-loop-text : goal.invariant-loop-text
invariant-loop-text l = AllZip (SpellsPolicy l.table) (take l.text-index l.texts) l.policies
