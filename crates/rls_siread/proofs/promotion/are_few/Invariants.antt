use Rattle.std.proofs.Common.{◌≡◌, ◌+◌, length, filter}
use Rattle.std.specs.List.{list_any}
use Rattle.rls_siread.specs.Promotion.{is_key, is_rows}
use Rattle.rls_siread.proofs.promotion.are_few.Given as goal

-- of the keys that are left so many may be there as are left of the most; rows of a table are among what is left, if anywhere
abbrev pub invariant-loop-object : goal.invariant-loop-object
invariant-loop-object l = record {
  keys : length (filter is_key l.object-iterator) + l.most ≡ length (filter is_key l.objects) + l.left;
  rows : list_any is_rows l.object-iterator ≡ list_any is_rows l.objects;
}
