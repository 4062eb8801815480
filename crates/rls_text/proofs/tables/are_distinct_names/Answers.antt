use Rattle.std.proofs.Common.{rules, ap, sym, ◌≡◌, ◌&&◌, ◌∷◌, drop, true, false}
use Rattle.std.specs.BTreeSet.{insert_key}
use Rattle.rls_text.specs.Values as values
use Rattle.rls_text.proofs.Distinct.{all_new, no_name_left, seen_more, seen_twice, split_first, was_seen, text_order}
use Rattle.rls_text.proofs.tables.are_distinct_names.Goals as goal

pub loop-names-init : goal.loop-names-init
loop-names-init c = sym (ap (λ new. new && values.are_distinct c.args.names.now) (all_new c.new-seen.result.keys c.args.names.now c.new-seen.ensures.empty))

pub returns-then-not-branch : goal.returns-then-not-branch
returns-then-not-branch c =
    let first : c.loop-names.names.now ≡ c.first-item.result ∷ drop 1 c.loop-names.names.now = search rules in
    let name : c.as_str.result.now ≡ c.first-item.result = search rules in
    let present : was_seen c.loop-names.seen.keys c.as_str.result.now ≡ true = search rules in
    sym (seen_twice _ c.loop-names.seen.keys c.as_str.result _ _ _ c.loop-names.invariant (split_first c.first-item.result c.loop-names.names.now first) name present)

pub loop-names-preserved : goal.loop-names-preserved
loop-names-preserved c =
    let first : c.loop-names.names.now ≡ c.first-item.result ∷ drop 1 c.loop-names.names.now = search rules in
    let name : c.as_str.result.now ≡ c.first-item.result = search rules in
    let absent : was_seen c.loop-names.seen.keys c.as_str.result.now ≡ false = search rules in
    let put : c.insert.new.self.keys ≡ insert_key text_order c.loop-names.seen.keys c.as_str.result = search rules in
    seen_more _ c.loop-names.seen.keys c.insert.new.self.keys c.as_str.result _ _ _ c.loop-names.invariant (split_first c.first-item.result c.loop-names.names.now first) name absent put

pub returns : goal.returns
returns c = sym (no_name_left _ c.loop-names.seen.keys c.loop-names.names.now c.loop-names.invariant c.in_default.len_below)
