use Rattle.std.proofs.Common.{◌≡◌, map}
use Rattle.std.specs.Prelude.{IfSome}
use Rattle.rls_source.specs.Footprints.{with_reads}
use Rattle.rls_siread.specs.Promotion.{is_crowded, stands_for, promoted}
use Rattle.rls_siread.proofs.promotion.promote.Given as goal

-- what stands for what is left leads to all; the table last judged is judged rightly
abbrev pub invariant-loop-object : goal.invariant-loop-object
invariant-loop-object l = record {
  kept : with_reads l.kept (map (stands_for l.limit l.objects) l.object-iterator) ≡ promoted l.limit l.objects;
  judged : IfSome l.last (λ judged. judged.crowded ≡ is_crowded l.limit l.objects judged.table);
}
