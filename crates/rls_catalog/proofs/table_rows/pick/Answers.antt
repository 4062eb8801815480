use Rattle.std.proofs.Common.{rules, ◌≡◌, [], ◌∷◌, ◌++◌, ap, sym, ◌∙◌}
use Rattle.std.specs.Option.{option_copied}
use Rattle.rls_catalog.specs.KeyIndex.{ids_under, picked}
use Rattle.rls_catalog.specs.State.{stored_of}
use Rattle.rls_catalog.proofs.UnderKey.{absent, left_out, taken}
use Rattle.rls_catalog.proofs.table_rows.pick.Goals as goal

pub loop-entry-preserved-in-Continue-1 : goal.loop-entry-preserved-in-Continue-1
loop-entry-preserved-in-Continue-1 c =
    let next : c.loop-entry.entry-iterator ≡ c.in-Some.field-0.now ∷ c.next.new.self = search rules in
    let put : c.push.new.self.items ≡ c.loop-entry.found.items ++ stored_of (c.in-Some.field-0.now.0.id, c.in-Some-get.keyed.now) ∷ [] = search rules in
    ap (λ l. l ++ picked c.args.key.now c.args.rows.now (ids_under c.args.key.now c.next.new.self)) put
    ∙ taken c.loop-entry.found.items c.args.key.now c.args.rows.now c.in-Some.field-0.now c.next.new.self c.in-Some-get.keyed.now _
    (sym c.ne.ensures ∙ c.if-ne.false) (sym c.get.ensures.value ∙ ap option_copied c.in-Some-get.is) (sym c.is_same_row.ensures ∙ c.if-is_same_row.true)
    (sym (ap (λ l. c.loop-entry.found.items ++ picked c.args.key.now c.args.rows.now (ids_under c.args.key.now l)) next) ∙ c.loop-entry.invariant)

pub loop-entry-preserved-else-is_same_row : goal.loop-entry-preserved-else-is_same_row
loop-entry-preserved-else-is_same_row c =
    let next : c.loop-entry.entry-iterator ≡ c.in-Some.field-0.now ∷ c.next.new.self = search rules in
    left_out c.loop-entry.found.items c.args.key.now c.args.rows.now c.in-Some.field-0.now c.next.new.self c.in-Some-get.keyed.now _
    (sym c.ne.ensures ∙ c.if-ne.false) (sym c.get.ensures.value ∙ ap option_copied c.in-Some-get.is) (sym c.is_same_row.ensures ∙ c.if-is_same_row.false)
    (sym (ap (λ l. c.loop-entry.found.items ++ picked c.args.key.now c.args.rows.now (ids_under c.args.key.now l)) next) ∙ c.loop-entry.invariant)

pub loop-entry-preserved : goal.loop-entry-preserved
loop-entry-preserved c =
    let next : c.loop-entry.entry-iterator ≡ c.in-Some.field-0.now ∷ c.next.new.self = search rules in
    absent c.loop-entry.found.items c.args.key.now c.args.rows.now c.in-Some.field-0.now c.next.new.self _
    (sym c.ne.ensures ∙ c.if-ne.false) (sym c.get.ensures.value ∙ ap option_copied c.in_default.is)
    (sym (ap (λ l. c.loop-entry.found.items ++ picked c.args.key.now c.args.rows.now (ids_under c.args.key.now l)) next) ∙ c.loop-entry.invariant)
