use Rattle.std.proofs.Common.{rules, ap, sym, ◌≡◌, ◌&&◌, ◌∷◌, drop, true, false}
use Rattle.std.specs.BTreeSet.{insert_key}
use Rattle.rls_text.specs.Values as values
use Rattle.rls_text.proofs.Distinct.{all_new, none_left, seen_more, seen_twice, split_first, was_seen, text_order}
use Rattle.rls_text.proofs.tables.are_distinct.Goals as goal

pub loop-columns-init : goal.loop-columns-init
loop-columns-init c = sym (ap (λ new. new && values.are_distinct (values.column_names c.args.columns.now)) (all_new c.new-seen.result.keys (values.column_names c.args.columns.now) c.new-seen.ensures.empty))

pub returns-then-not-branch : goal.returns-then-not-branch
returns-then-not-branch c =
    let first : c.loop-columns.columns.now ≡ c.first-item.result ∷ drop 1 c.loop-columns.columns.now = search rules in
    let name : c.as_str.result.now ≡ c.first-item.result.column.name = search rules in
    let present : was_seen c.loop-columns.seen.keys c.as_str.result.now ≡ true = search rules in
    sym (seen_twice _ c.loop-columns.seen.keys c.as_str.result _ _ _ c.loop-columns.invariant (ap values.column_names (split_first c.first-item.result c.loop-columns.columns.now first)) name present)

pub loop-columns-preserved : goal.loop-columns-preserved
loop-columns-preserved c =
    let first : c.loop-columns.columns.now ≡ c.first-item.result ∷ drop 1 c.loop-columns.columns.now = search rules in
    let name : c.as_str.result.now ≡ c.first-item.result.column.name = search rules in
    let absent : was_seen c.loop-columns.seen.keys c.as_str.result.now ≡ false = search rules in
    let put : c.insert.new.self.keys ≡ insert_key text_order c.loop-columns.seen.keys c.as_str.result = search rules in
    seen_more _ c.loop-columns.seen.keys c.insert.new.self.keys c.as_str.result _ _ _ c.loop-columns.invariant (ap values.column_names (split_first c.first-item.result c.loop-columns.columns.now first)) name absent put

pub returns : goal.returns
returns c = sym (none_left (λ x. x.column.name) _ c.loop-columns.seen.keys c.loop-columns.columns.now c.loop-columns.invariant c.in_default.len_below)
