use Rattle.std.specs.Prelude.{map}
use Rattle.std.specs.List.{AllZip, flat_map}
use Rattle.std.proofs.Common.{take}
use Rattle.rls_core.specs.Posts.{effect_of}
use Rattle.rls_audit.specs.Lines.{ordered_changes}
use Rattle.rls_audit.specs.ShownParts.{ShowsChange}
use Rattle.rls_audit.proofs.showing.all_changed.Given as goal

-- those so far show what the first posts changed
abbrev pub invariant-loop-posted : goal.invariant-loop-posted
invariant-loop-posted l = AllZip ShowsChange l.all (flat_map ordered_changes (map effect_of (take l.posted-index l.posts)))
