use Rattle.std.proofs.Common.{◌≡◌, ◌≤◌, ◌+◌, ◌++◌, drop, map}
use Rattle.rls_check.specs.ShownTexts.{seen_on}
use Rattle.rls_check.proofs.shown_texts.push_further_seen.Given as goal

-- what is written, and what is written of the rows that are left, make the whole; no more were counted than there were
abbrev pub invariant-loop-one : goal.invariant-loop-one
invariant-loop-one l = record {
  text : l.text.items ++ seen_on l.state l.table l.count (map (λ one. one.now) (drop l.one-index l.rest)) ≡ l.fn.text.items ++ seen_on l.state l.first 1 (map (λ one. one.now) l.rest);
  count : l.count ≤ l.one-index + 1;
}
