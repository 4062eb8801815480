use Rattle.std.proofs.Common.{rules, ap, sym, ◌≡◌, ◌&&◌, ◌∷◌, drop, true, false}
use Rattle.std.specs.BTreeSet.{insert_key}
use Rattle.rls_text.specs.Values as values
use Rattle.rls_text.proofs.Distinct.{all_new, none_left, seen_more, seen_twice, split_first, was_seen, text_order}
use Rattle.rls_text.proofs.changing.are_distinct_assignments.Goals as goal

pub loop-assignments-init : goal.loop-assignments-init
loop-assignments-init c = sym (ap (λ new. new && values.are_distinct (values.set_names c.args.assignments.now)) (all_new c.new-seen.result.keys (values.set_names c.args.assignments.now) c.new-seen.ensures.empty))

pub returns-then-not-branch : goal.returns-then-not-branch
returns-then-not-branch c =
    let first : c.loop-assignments.assignments.now ≡ c.first-item.result ∷ drop 1 c.loop-assignments.assignments.now = search rules in
    let name : c.as_str.result.now ≡ c.first-item.result.column = search rules in
    let present : was_seen c.loop-assignments.seen.keys c.as_str.result.now ≡ true = search rules in
    sym (seen_twice _ c.loop-assignments.seen.keys c.as_str.result _ _ _ c.loop-assignments.invariant (ap values.set_names (split_first c.first-item.result c.loop-assignments.assignments.now first)) name present)

pub loop-assignments-preserved : goal.loop-assignments-preserved
loop-assignments-preserved c =
    let first : c.loop-assignments.assignments.now ≡ c.first-item.result ∷ drop 1 c.loop-assignments.assignments.now = search rules in
    let name : c.as_str.result.now ≡ c.first-item.result.column = search rules in
    let absent : was_seen c.loop-assignments.seen.keys c.as_str.result.now ≡ false = search rules in
    let put : c.insert.new.self.keys ≡ insert_key text_order c.loop-assignments.seen.keys c.as_str.result = search rules in
    seen_more _ c.loop-assignments.seen.keys c.insert.new.self.keys c.as_str.result _ _ _ c.loop-assignments.invariant (ap values.set_names (split_first c.first-item.result c.loop-assignments.assignments.now first)) name absent put

pub returns : goal.returns
returns c = sym (none_left (λ x. x.column) _ c.loop-assignments.seen.keys c.loop-assignments.assignments.now c.loop-assignments.invariant c.in_default.len_below)
