use Rattle.std.proofs.Common.{◌≡◌, false, ap, sym, ◌∙◌, map}
use Rattle.std.proofs.lemmas.Result.{IfOk-weaker}
use Rattle.rls_catalog.specs.KeyIndex.{ids_under, is_empty_key, picked}
use Rattle.rls_catalog.specs.State.{stored_of, with_key}
use Rattle.rls_catalog.proofs.UnderKey.{behind, picked_behind}
use Rattle.rls_catalog.proofs.table_rows.Rows.lend_with_key.Goals as goal

pub returns-clause-rows : goal.returns-clause-rows
returns-clause-rows c =
    let some : is_empty_key c.args.key.now ≡ false = sym c.is_empty.ensures ∙ c.if-is_empty.false in
    let left : c.iter_from.result ≡ behind c.args.key.now c.self.inside.index = c.iter_from.ensures.left ∙ ap (λ key. behind key c.self.inside.index) c.in_ok-copy.ensures in
    IfOk-weaker c.pick.result (λ rows. rows ≡ picked c.args.key.now c.self.inside.rows (ids_under c.args.key.now c.iter_from.result)) (λ rows. rows ≡ with_key c.args.key.now (map stored_of c.args.self.now))
    (λ rows are. are ∙ ap (λ l. picked c.args.key.now c.self.inside.rows (ids_under c.args.key.now l)) left
    ∙ picked_behind c.args.key.now c.self.inside.rows c.self.inside.index some c.len.ensures.ordered c.self.invariant.1 c.self.invariant.0
    ∙ ap (λ rows. with_key c.args.key.now (map stored_of rows)) c.self.view_is)
    c.pick.ensures
