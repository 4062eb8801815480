use Rattle.std.proofs.Common.{refl, ◌≡◌, rules}
use Rattle.rls_value.specs.declared.object.Object.TheVariants as o
use Rattle.rls_evaluation.proofs.Absorbing.{holds_noted}
use Rattle.rls_evaluation.proofs.Telling.{rows_told, key_told, on_ok}
use Rattle.rls_evaluation.proofs.evaluation.asked.Goals as goal

pub returns-in_ok-note_of-in-Rows-clause-tells : goal.returns-in_ok-note_of-in-Rows-clause-tells
returns-in_ok-note_of-in-Rows-clause-tells g c =
    let is : c.args.object.now ≡ o.Rows c.in-Rows.table = search rules in
    rows_told c.args.object.now c.args.object.now c.in-Rows.table _ _ c.args.execution.now.read_set c.note_of.new.read_set c.all_rows.result is refl c.all_rows.ensures.found c.in_ok-note_of-in-Rows.ensures c.all_rows.ensures.stands

pub returns-in_ok-note_of-in-Rows-clause-holds : goal.returns-in_ok-note_of-in-Rows-clause-holds
returns-in_ok-note_of-in-Rows-clause-holds g c =
    on_ok c.all_rows.result _
    (holds_noted c.args.visible.relations.now c.args.user.now (g.S.Tables.state c.args.source.now) (g.S.Tables.state c.all_rows.new.self) c.args.execution.now (record { read_set = c.note_of.new.read_set; cached_rows = c.args.execution.now.cached_rows; cached_subplans = c.args.execution.now.cached_subplans; cached_indexes = c.args.execution.now.cached_indexes; next = c.args.execution.now.next }) c.args.object.now
    c.all_rows.ensures.stands c.in_ok-note_of-in-Rows.ensures refl refl refl c.requires)

pub returns-in_ok-note_of-in-Key-clause-tells : goal.returns-in_ok-note_of-in-Key-clause-tells
returns-in_ok-note_of-in-Key-clause-tells g c =
    let is : c.args.object.now ≡ o.Key c.in-Key.table c.in-Key.key = search rules in
    key_told c.args.object.now c.args.object.now c.in-Key.table c.in-Key.key _ _ c.args.execution.now.read_set c.note_of-in-Key.new.read_set c.rows_with.result is (search rules) refl c.rows_with.ensures.found c.in_ok-note_of-in-Key.ensures c.rows_with.ensures.stands

pub returns-in_ok-note_of-in-Key-clause-holds : goal.returns-in_ok-note_of-in-Key-clause-holds
returns-in_ok-note_of-in-Key-clause-holds g c =
    on_ok c.rows_with.result _
    (holds_noted c.args.visible.relations.now c.args.user.now (g.S.Tables.state c.args.source.now) (g.S.Tables.state c.rows_with.new.self) c.args.execution.now (record { read_set = c.note_of-in-Key.new.read_set; cached_rows = c.args.execution.now.cached_rows; cached_subplans = c.args.execution.now.cached_subplans; cached_indexes = c.args.execution.now.cached_indexes; next = c.args.execution.now.next }) c.args.object.now
    c.rows_with.ensures.stands c.in_ok-note_of-in-Key.ensures refl refl refl c.requires)
